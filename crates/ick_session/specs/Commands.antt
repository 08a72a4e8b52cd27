-- The commands of a session, and the lines that write them.
use Rattle.std.specs.Prelude.{ℕ, zero, suc, ◌^◌, ◌==◌, ◌&&◌, nat_lt, not, Bool, true, false, List, []}
use Rattle.std.specs.Prelude.{◌∷◌}
use Rattle.std.specs.Prelude.{◌-◌, length, drop, find, filter_map, codes, get_or, is_some, option_map}
use Rattle.std.specs.Prelude.{option_and_then, slice_range}
use Rattle.std.specs.Prelude.{Option, Some, None, if◌then◌else◌}
use Rattle.std.specs.List.{list_all, prefix_len, starts_with, take_while}
use Rattle.std.specs.Str.Parse.{digits_value}
use Rattle.std.specs.Char.{is_ascii_digit}
use Rattle.ick_bits.specs.White.{is_white_byte}
use Rattle.ick_syntax.specs.declared.tree.Name.{Name}
use Rattle.ick_syntax.specs.declared.tree.NameKind.{NameKind}
use Rattle.ick_syntax.specs.declared.tree.NameKind.TheVariants.{Onespot, Twospot, Tail, Hybrid}
use Rattle.ick_session.specs.declared.commands.Command.{Command}
use Rattle.ick_session.specs.declared.commands.Command.TheVariants as command
use Rattle.ick_session.specs.declared.commands.Verb.{Verb}
use Rattle.ick_session.specs.declared.commands.Verb.TheVariants as verb

-- the first word of a text, and the rest behind it
abbrev pub is_solid : ℕ → Bool
is_solid b = not (is_white_byte b)

abbrev pub after_white : List ℕ → List ℕ
after_white text = drop (prefix_len is_white_byte text) text

abbrev pub first_word : List ℕ → List ℕ
first_word text = take_while is_solid (after_white text)

abbrev pub behind_word : List ℕ → List ℕ
behind_word text = drop (prefix_len is_solid (after_white text)) (after_white text)

-- all words of a text, at most so many
abbrev pub words_from : ℕ → List ℕ → List (List ℕ)
words_from zero text = []
words_from (suc k) text =
    if length (first_word text) == 0 then [] else first_word text ∷ words_from k (behind_word text)

abbrev pub words_of : List ℕ → List (List ℕ)
words_of text = words_from (length text) text

abbrev pub is_blank : List ℕ → Bool
is_blank text = list_all is_white_byte text

-- the number below 2^32 that a word writes in decimal digits
abbrev pub is_decimal : List ℕ → Bool
is_decimal word = nat_lt 0 (length word) && list_all is_ascii_digit word

abbrev pub number_in : List ℕ → Option ℕ
number_in word = if is_decimal word && nat_lt (digits_value 10 word) (2 ^ 32) then Some (digits_value 10 word) else None

-- the name that a word writes: a sigil, and a number from 1 to 65535
abbrev pub kind_in : ℕ → Option NameKind
kind_in b = if b == 46 then Some Onespot
    else (if b == 58 then Some Twospot else (if b == 44 then Some Tail else (if b == 59 then Some Hybrid else None)))

abbrev pub numbered : NameKind → ℕ → Option Name
numbered kind n = if nat_lt 0 n && nat_lt n 65536 then Some (record { kind = kind; number = n }) else None

abbrev pub name_in : List ℕ → Option Name
name_in [] = None
name_in (b ∷ digits) = option_and_then (λ kind. option_and_then (numbered kind) (number_in digits)) (kind_in b)

-- a command, whatever memory the text of its names is in
pub data Order : Type 0 where
  to_step : (steps : ℕ) → Order
  to_go_back : (steps : ℕ) → Order
  to_next : Order
  to_go_out : Order
  to_run_until : (statement : ℕ) → Order
  to_run : (most : ℕ) → Order
  to_choose : (done : Bool) → Order
  to_print : (names : List Name) → Order
  to_evaluate : (expression : List ℕ) → Order
  to_show_stack : Order
  to_show_state : Order
  to_list : Order
  to_watch : (name : Name) → Order
  to_explain : (name : Name) → Order
  to_break : (statement : ℕ) → Order
  to_break_label : (label : ℕ) → Order
  to_delete : (statement : ℕ) → Order
  to_delete_all : Order
  to_show_output : Order
  to_show_cursor : Order
  to_help : Order
  to_quit : Order

abbrev pub names_of : List ℕ → List Name
names_of text = filter_map name_in (words_of text)

abbrev pub order_of : Command → Order
order_of (command.Step n) = to_step n
order_of (command.Back n) = to_go_back n
order_of command.Next = to_next
order_of command.Out = to_go_out
order_of (command.Until n) = to_run_until n
order_of (command.Run n) = to_run n
order_of (command.Choose done) = to_choose done
order_of (command.Print text) = to_print (names_of text.now)
order_of (command.Eval text) = to_evaluate text.now
order_of command.Stack = to_show_stack
order_of command.State = to_show_state
order_of command.List = to_list
order_of (command.Watch name) = to_watch name
order_of (command.Why name) = to_explain name
order_of (command.Break n) = to_break n
order_of (command.BreakLabel label) = to_break_label label
order_of (command.Delete n) = to_delete n
order_of command.DeleteAll = to_delete_all
order_of command.Output = to_show_output
order_of command.Cursor = to_show_cursor
order_of command.Help = to_help
order_of command.Quit = to_quit

-- the verbs in their order, with their words
abbrev pub verbs : List Verb
verbs = verb.Step ∷ verb.Back ∷ verb.Next ∷ verb.Out ∷ verb.Until ∷ verb.Run ∷ verb.Break ∷ verb.Delete
    ∷ verb.Choose ∷ verb.Print ∷ verb.Eval ∷ verb.Stack ∷ verb.State ∷ verb.List ∷ verb.Watch ∷ verb.Why
    ∷ verb.Output ∷ verb.Cursor ∷ verb.Help ∷ verb.Quit ∷ []

abbrev pub verb_word : Verb → List ℕ
verb_word verb.Step = codes "step"
verb_word verb.Back = codes "back"
verb_word verb.Next = codes "next"
verb_word verb.Out = codes "out"
verb_word verb.Until = codes "until"
verb_word verb.Run = codes "run"
verb_word verb.Break = codes "break"
verb_word verb.Delete = codes "delete"
verb_word verb.Choose = codes "choose"
verb_word verb.Print = codes "print"
verb_word verb.Eval = codes "eval"
verb_word verb.Stack = codes "stack"
verb_word verb.State = codes "state"
verb_word verb.List = codes "list"
verb_word verb.Watch = codes "watch"
verb_word verb.Why = codes "why"
verb_word verb.Output = codes "output"
verb_word verb.Cursor = codes "cursor"
verb_word verb.Help = codes "help"
verb_word verb.Quit = codes "quit"

-- the first verb that begins with a word
abbrev pub verb_in : List ℕ → Option Verb
verb_in word = find (λ v. starts_with ◌==◌ (verb_word v) word) verbs

-- the only word of a text
abbrev pub alone : List ℕ → Option (List ℕ)
alone text = if is_blank (behind_word text) then Some (first_word text) else None

abbrev pub number_alone : List ℕ → Option ℕ
number_alone text = option_and_then number_in (alone text)

abbrev pub name_alone : List ℕ → Option Name
name_alone text = option_and_then name_in (alone text)

-- a number, or 1 if there is no word
abbrev pub count_in : List ℕ → Option ℕ
count_in text = if is_blank text then Some 1 else number_alone text

-- as many steps as one command may make at most
abbrev pub any_number : ℕ
any_number = 4294967295

-- a number, or any number if there is no word
abbrev pub most_in : List ℕ → Option ℕ
most_in text = if is_blank text then Some any_number else number_alone text

abbrev pub choice_in : List ℕ → Option Bool
choice_in text =
    option_and_then (λ n. if n == 0 then Some false else (if n == 1 then Some true else None)) (number_alone text)

-- a label between parentheses, or the number of a statement
abbrev pub is_labelled : List ℕ → Bool
is_labelled word = get_or word 0 0 == 40 && get_or word (length word - 1) 0 == 41

abbrev pub break_in : List ℕ → Option Order
break_in word =
    if is_labelled word then option_map to_break_label (number_in (slice_range word 1 (length word - 1)))
    else option_map to_break (number_in word)

-- at least one name, and nothing else
abbrev pub all_named : List (List ℕ) → Bool
all_named words = list_all (λ word. is_some (name_in word)) words

abbrev pub are_names : List ℕ → Bool
are_names text = not (length (first_word text) == 0) && all_named (words_of text)

-- the command of a verb, by what is behind the verb
abbrev pub order_by : Verb → List ℕ → Option Order
order_by verb.Step rest = option_map to_step (count_in rest)
order_by verb.Back rest = option_map to_go_back (count_in rest)
order_by verb.Next rest = if is_blank rest then Some to_next else None
order_by verb.Out rest = if is_blank rest then Some to_go_out else None
order_by verb.Until rest = option_map to_run_until (number_alone rest)
order_by verb.Run rest = option_map to_run (most_in rest)
order_by verb.Break rest = option_and_then break_in (alone rest)
order_by verb.Delete rest = if is_blank rest then Some to_delete_all else option_map to_delete (number_alone rest)
order_by verb.Choose rest = option_map to_choose (choice_in rest)
order_by verb.Print rest = if are_names rest then Some (to_print (names_of rest)) else None
order_by verb.Eval rest = if is_blank rest then None else Some (to_evaluate rest)
order_by verb.Stack rest = if is_blank rest then Some to_show_stack else None
order_by verb.State rest = if is_blank rest then Some to_show_state else None
order_by verb.List rest = if is_blank rest then Some to_list else None
order_by verb.Watch rest = option_map to_watch (name_alone rest)
order_by verb.Why rest = option_map to_explain (name_alone rest)
order_by verb.Output rest = if is_blank rest then Some to_show_output else None
order_by verb.Cursor rest = if is_blank rest then Some to_show_cursor else None
order_by verb.Help rest = if is_blank rest then Some to_help else None
order_by verb.Quit rest = if is_blank rest then Some to_quit else None

-- the command that a line writes: a verb by its first letters, and what it needs
abbrev pub order_in : List ℕ → Option Order
order_in line =
    if length (first_word line) == 0 then None
    else option_and_then (λ v. order_by v (behind_word line)) (verb_in (first_word line))

-- whether a command makes steps or takes them back
abbrev pub moves : Order → Bool
moves (to_step n) = true
moves (to_go_back n) = true
moves to_next = true
moves to_go_out = true
moves (to_run_until n) = true
moves (to_run n) = true
moves (to_choose done) = true
moves (to_watch name) = true
moves (to_explain name) = true
moves order = false
