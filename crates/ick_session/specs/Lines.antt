-- The answers to lines, one after another.
use Rattle.std.specs.Prelude.{◌≡◌, ◌≢◌, ◌≤◌, ◌+◌, ◌==◌, ℕ, Bool, true, false, List, [], ◌∷◌, ◌++◌}
use Rattle.std.specs.Prelude.{codes, decimal, find, get_or, length, if◌then◌else◌}
use Rattle.std.specs.Prelude.{Option, Some, None}
use Rattle.ick_inspect.specs.declared.positions.LineColumn.{LineColumn}
use Rattle.ick_inspect.specs.declared.text.Text.{Text}
use Rattle.ick_step.specs.Seen.{Seen}
use Rattle.ick_session.specs.Answers.{Answers, StopsShort}
use Rattle.ick_session.specs.Commands.{Order, first_word, moves, order_in, to_quit, verb_in, verb_word, verbs}
use Rattle.ick_session.specs.Evaluated.{no_expression_text}
use Rattle.ick_session.specs.Session.{Settings, HasNoRoom, most_work}
use Rattle.ick_session.specs.declared.commands.Verb.{Verb}
use Rattle.ick_session.specs.declared.commands.Verb.TheVariants as verb

-- a text has these bytes, unless memory was refused for them
abbrev pub Says : Text → List ℕ → Type 0
Says out text = out.refused ≡ false → out.bytes.items ≡ text

-- what the words of a verb are
abbrev pub words_text : Verb → List ℕ
words_text verb.Step = codes "step takes a number, or nothing\n"
words_text verb.Back = codes "back takes a number, or nothing\n"
words_text verb.Until = codes "until takes the number of a statement\n"
words_text verb.Run = codes "run takes a number, or nothing\n"
words_text verb.Break = codes "break takes the number of a statement, or a label such as (20)\n"
words_text verb.Delete = codes "delete takes the number of a statement, or nothing\n"
words_text verb.Choose = codes "choose takes 0 or 1\n"
words_text verb.Print = codes "print takes variables and arrays, such as .1 or ,2\n"
words_text verb.Eval = no_expression_text
words_text verb.Watch = codes "watch takes one variable or array, such as .1 or ,2\n"
words_text verb.Why = codes "why takes one variable or array, such as .1 or ,2\n"
words_text v = verb_word v ++ codes " takes nothing\n"

-- the nearest command: the first one with the same first letter
abbrev pub begins_with : ℕ → Verb → Bool
begins_with b v = get_or (verb_word v) 0 0 == b

abbrev pub nearest_text : Option Verb → List ℕ
nearest_text None = codes "unknown command; help lists all commands\n"
nearest_text (Some v) = codes "unknown command; did you mean " ++ verb_word v ++ codes "? help lists all commands\n"

-- the answer to a line that is no command: what its verb takes, or the nearest command; a blank line has an empty one
abbrev pub unread_text : (word : List ℕ) → Option Verb → List ℕ
unread_text word None = nearest_text (find (begins_with (get_or word 0 0)) verbs)
unread_text word (Some v) = words_text v

abbrev pub unknown_text : List ℕ → List ℕ
unknown_text line =
    if length (first_word line) == 0 then [] else unread_text (first_word line) (verb_in (first_word line))

-- how far a command came before memory ran out, if it makes steps
abbrev pub short_text : (moves : Bool) → Seen → List ℕ
short_text false t = codes "out of memory\n"
short_text true t = codes "stopped after " ++ decimal (length t.answers) ++ codes " steps: out of memory\n"

-- A line leads from one state of a session to another, and has this answer. The session goes on unless the line is the
-- command `quit`. A command adds no more to the count of work than `most_work`. If the count has no room for so much,
-- the answer to a command that moves says so, and nothing else changes. If memory runs out, the answer says how far the
-- session came.
pub data AnswersLine (f : Settings) (positions : List LineColumn) (s : Seen) (line : List ℕ)
    : (g : Settings) → (t : Seen) → (text : List ℕ) → (goes_on : Bool) → Type 0 where
  no_command : order_in line ≡ None → AnswersLine f positions s line f s (unknown_text line) true
  quits : order_in line ≡ Some to_quit → AnswersLine f positions s line f s [] false
  answered : (order : Order) (g : Settings) (t : Seen) (text : List ℕ) → order_in line ≡ Some order →
      order ≢ to_quit → t.work ≤ s.work + most_work f.limit s → Answers f positions s order g t text →
      AnswersLine f positions s line g t text true
  full : (order : Order) → order_in line ≡ Some order → order ≢ to_quit → moves order ≡ true →
      HasNoRoom f.limit s → AnswersLine f positions s line f s (codes "too many steps were made\n") true
  short : (order : Order) (t : Seen) → order_in line ≡ Some order → order ≢ to_quit →
      t.work ≤ s.work + most_work f.limit s → StopsShort f s order t →
      AnswersLine f positions s line f t (short_text (moves order) t) true

-- lines that all lead on, and their answers joined
pub data Talks (f : Settings) (positions : List LineColumn) : (s : Seen) → (lines : List (List ℕ)) →
    (g : Settings) → (t : Seen) → (text : List ℕ) → Type 0 where
  no_line : (s : Seen) → Talks f positions s [] f s []
  one_more : (g h : Settings) (s t u : Seen) (lines : List (List ℕ)) (line text more : List ℕ) →
      Talks f positions s lines g t text → AnswersLine g positions t line h u more true →
      Talks f positions s (lines ++ line ∷ []) h u (text ++ more)
