-- Lines, one after another.
use Rattle.std.proofs.Common.{◌≡◌, ◌<◌, ◌+◌, ◌==◌, ◌&&◌, ℕ, Bool, true, false, not, List, [], ◌∷◌, ◌++◌, length, take, get_or}
use Rattle.std.proofs.Common.{refl, ap, ap₂, sym, ◌∙◌, ◌≤◌, ◌^◌, arith, append_assoc, length-append, ne_eqb, subst}
use Rattle.std.proofs.lemmas.List.{append-nil, take_all}
use Rattle.std.proofs.Math.Seq.{take-append-add}
use Rattle.ick_job.specs.declared.job_end.JobEnd.{JobEnd}
use Rattle.ick_job.specs.declared.job_end.JobEnd.TheVariants.{Answered, FileNotRead, InputTooLong, NoMemory, ReadFailed}
use Rattle.ick_job.specs.declared.job_end.JobEnd.TheVariants.{WriteFailed}
use Rattle.ick_inspect.specs.Text.{Adds}
use Rattle.ick_inspect.specs.declared.positions.LineColumn.{LineColumn}
use Rattle.ick_inspect.specs.declared.text.Text.{Text}
use Rattle.ick_step.specs.Seen.{Seen}
use Rattle.ick_session.specs.Lines.{AnswersLine, Says}
use Rattle.ick_session.specs.Session.{Settings}
use Rattle.ick_session.specs.Travel.{where_text}
use Rattle.ick_step_cli.specs.Left.{TakesLine, at_end as ends_text, goes_on, with_end}
use Rattle.ick_step_cli.specs.Talk.{IsCut, IsFailure, IsOver, Lines, Talks, Writes, at_end, at_quit, last_said, lines_of}
use Rattle.ick_step_cli.specs.Talk.{meant, no_line, one_more, output_text, prompt}

both : (x y : Bool) → (x && y) ≡ true → (x ≡ true) × (y ≡ true)
both true y h = (refl, h)
both false y h = absurd (cc)

not_true : (b : Bool) → not b ≡ true → b ≡ false
not_true true e = absurd (cc)
not_true false e = refl

pub line_ends : (line rest : List ℕ) → goes_on line ≡ true → lines_of (line ++ 10 ∷ rest) ≡ line ∷ lines_of rest
line_ends [] rest h = refl
line_ends (b ∷ line) rest h =
    let parts = both (not (b == 10)) (goes_on line) h in
    let differs : (b == 10) ≡ false = not_true (b == 10) parts.0 in
    rw (differs, line_ends line rest parts.1) refl

pub line_last : (b : ℕ) (line : List ℕ) → goes_on (b ∷ line) ≡ true → lines_of (b ∷ line) ≡ (b ∷ line) ∷ []
line_last b [] h =
    let parts = both (not (b == 10)) (goes_on []) h in
    let differs : (b == 10) ≡ false = not_true (b == 10) parts.0 in
    rw differs refl
line_last b (c ∷ line) h =
    let parts = both (not (b == 10)) (goes_on (c ∷ line)) h in
    let differs : (b == 10) ≡ false = not_true (b == 10) parts.0 in
    rw (differs, line_last c line parts.1) refl

pub last_line : (line : List ℕ) → 0 < length line → goes_on line ≡ true → lines_of line ≡ line ∷ []
last_line [] some h = absurd (omega arith)
last_line (b ∷ line) some h = line_last b line h

pub goes_more : (line : List ℕ) (b : ℕ) → goes_on line ≡ true → (b == 10) ≡ false → goes_on (line ++ b ∷ []) ≡ true
goes_more [] b h e = rw e refl
goes_more (c ∷ line) b h e =
    let parts = both (not (c == 10)) (goes_on line) h in
    rw (parts.0, goes_more line b parts.1 e) refl

some_length : (xs : List ℕ) (n : ℕ) (r : Bool) → n ≡ length xs → r ≡ (n == 0) → not r ≡ true → 0 < length xs
some_length [] n r size e h = let z : n ≡ 0 = size in let is : r ≡ true = rw z at e in absurd (cc)
some_length (x ∷ xs) n r size e h = omega arith

no_length : (xs : List ℕ) (n : ℕ) (r : Bool) → n ≡ length xs → r ≡ (n == 0) → not r ≡ false → xs ≡ []
no_length [] n r size e h = refl
no_length (x ∷ xs) n r size e h =
    let other : (n == 0) ≡ false = ne_eqb n 0 (λ z. omega arith) in
    let is : r ≡ false = e ∙ other in absurd (cc)

-- the last line, which has no end
pub line_at_end : (start line old new target : List ℕ) (n k : ℕ) (r : Bool) → start ≡ line ++ old → goes_on line ≡ true →
    n ≡ 0 → old ≡ [] → old ≡ take n target ++ new → k ≡ length line → r ≡ (k == 0) → not r ≡ true →
    TakesLine line start new
line_at_end start line old new target n k r e h z none f size is some =
    let left : new ≡ [] = sym (f ∙ ap (λ k. take k target ++ new) z) ∙ none in
    let all : start ≡ line = e ∙ (ap (λ l. line ++ l) none ∙ append-nil line) in
    subst (λ l. TakesLine line start l) (sym left)
    (subst (λ l. TakesLine line l []) (sym all) (ends_text h (some_length line k r size is some)))

-- nothing is left
pub nothing_left : (start line old new target : List ℕ) (n k : ℕ) (r : Bool) → start ≡ line ++ old → n ≡ 0 →
    old ≡ [] → old ≡ take n target ++ new → k ≡ length line → r ≡ (k == 0) → not r ≡ false →
    (start ≡ []) × (new ≡ [])
nothing_left start line old new target n k r e z none f size is shut =
    let left : new ≡ [] = sym (f ∙ ap (λ k. take k target ++ new) z) ∙ none in
    let empty : line ≡ [] = no_length line k r size is shut in
    (e ∙ ap₂ (λ x y. x ++ y) empty none, left)

-- a line and its end
pub line_at_break : (start line old new target : List ℕ) (n d : ℕ) → start ≡ line ++ old → goes_on line ≡ true →
    0 < n → length target ≡ 1 → get_or target 0 d ≡ 10 → old ≡ take n target ++ new → TakesLine line start new
line_at_break start line old new [] n d e h some one is f = absurd (omega arith)
line_at_break start line old new (b ∷ []) n d e h some one is f =
    let all : old ≡ 10 ∷ new = f ∙ (ap (λ l. l ++ new) (take_all n (b ∷ []) (omega arith)) ∙ ap (λ x. x ∷ new) is) in
    subst (λ l. TakesLine line l new) (sym (e ∙ ap (λ l. line ++ l) all)) (with_end new h)
line_at_break start line old new (b ∷ c ∷ xs) n d e h some one is f = absurd (omega arith)

-- the lines that are left, behind a line that was taken
pub line_taken : (line before after : List ℕ) → TakesLine line before after → lines_of before ≡ line ∷ lines_of after
line_taken line before after (with_end left h) = line_ends line left h
line_taken line before after (ends_text h some) = last_line line some h

-- so many lines were answered, and all but the last answer was written
pub record Talking (f g : Settings) (positions : List LineColumn) (s t : Seen) (lines : Lines) (left : List (List ℕ))
    (last before now : List ℕ) (out : Text) (made : ℕ) : Type 0 where
  pub done : List (List ℕ)
  pub text : List ℕ
  pub said : List ℕ
  pub pending : List ℕ
  pub lines_are : lines.all ≡ done ++ left
  pub count : length done ≡ made
  pub talks : Talks lines.terminal f positions s done g t text
  pub last_is : lines.terminal ≡ true → last ≡ last_said done
  pub output : output_text lines.terminal f positions s text ≡ said ++ pending
  pub written : now ≡ before ++ said
  pub says : Says out pending

-- and all answers were written
pub record Said (f g : Settings) (positions : List LineColumn) (s t : Seen) (lines : Lines) (left : List (List ℕ))
    (last before now : List ℕ) (made : ℕ) : Type 0 where
  pub done : List (List ℕ)
  pub text : List ℕ
  pub lines_are : lines.all ≡ done ++ left
  pub count : length done ≡ made
  pub talks : Talks lines.terminal f positions s done g t text
  pub last_is : lines.terminal ≡ true → last ≡ last_said done
  pub written : now ≡ before ++ output_text lines.terminal f positions s text

-- a text with the prompt behind it
says_more : (old new : Text) (text more : List ℕ) → Says old text → Adds old new more → Says new (text ++ more)
says_more old new text more h adds =
    λ sound. adds.bytes sound ∙ ap (λ l. l ++ more) (h (adds.sound sound))

pub begins : (f : Settings) (positions : List LineColumn) (s : Seen) (lines : Lines) (last before : List ℕ)
    (new out next : Text) → new.bytes.items ≡ [] → Adds new out (where_text f positions s) →
    Adds out next (prompt lines.terminal) → last ≡ [] →
    Talking f f positions s s lines lines.all last before before next 0
begins f positions s lines last before new out next none adds prompts empty = record {
  done = [];
  text = [];
  said = [];
  pending = where_text f positions s ++ prompt lines.terminal;
  lines_are = refl;
  count = refl;
  talks = no_line s;
  last_is = λ h. empty;
  output = append-nil (where_text f positions s ++ prompt lines.terminal);
  written = sym (append-nil before);
  says = says_more out next (where_text f positions s) (prompt lines.terminal)
      (λ sound. adds.bytes sound ∙ ap (λ l. l ++ where_text f positions s) none) prompts;
}

pub all_said : (f g : Settings) (positions : List LineColumn) (s t : Seen) (lines : Lines) (left : List (List ℕ))
    (last before now after : List ℕ) (out : Text) (made : ℕ) →
    Talking f g positions s t lines left last before now out made →
    out.refused ≡ false → after ≡ now ++ out.bytes.items → Said f g positions s t lines left last before after made
all_said f g positions s t lines left last before now after out made h sound e = record {
  done = h.done;
  text = h.text;
  lines_are = h.lines_are;
  count = h.count;
  talks = h.talks;
  last_is = h.last_is;
  written = e ∙ (ap₂ (λ x y. x ++ y) h.written (h.says sound)
      ∙ (append_assoc before h.said h.pending ∙ ap (λ l. before ++ l) (sym h.output)));
}

-- the last line that isn't empty, behind one more
last_more : (lines : List (List ℕ)) (line : List ℕ) →
    last_said (lines ++ line ∷ []) ≡ meant true (last_said lines) line
last_more [] [] = refl
last_more [] (b ∷ line) = refl
last_more (x ∷ lines) [] = ap (meant true x) (last_more lines [])
last_more (x ∷ lines) (b ∷ line) = ap (meant true x) (last_more lines (b ∷ line))

-- the line that is answered, by the last one
by_last : (terminal : Bool) (last line : List ℕ) (done : List (List ℕ)) → (terminal ≡ true → last ≡ last_said done) →
    meant terminal last line ≡ meant terminal (last_said done) line
by_last false last line done h = refl
by_last true last line done h = ap (λ l. meant true l line) (h refl)

last_after : (terminal : Bool) (last line used : List ℕ) (done : List (List ℕ)) →
    (terminal ≡ true → last ≡ last_said done) → used ≡ meant terminal last line →
    terminal ≡ true → used ≡ last_said (done ++ line ∷ [])
last_after false last line used done h e typed = absurd (cc)
last_after true last line used done h e typed =
    e ∙ (ap (λ l. meant true l line) (h refl) ∙ sym (last_more done line))

answered_as : (g k : Settings) (positions : List LineColumn) (t u : Seen) (terminal on : Bool) (last line more : List ℕ)
    (done : List (List ℕ)) → (terminal ≡ true → last ≡ last_said done) →
    AnswersLine g positions t (meant terminal last line) k u more on →
    AnswersLine g positions t (meant terminal (last_said done) line) k u more on
answered_as g k positions t u terminal on last line more done h answers =
    subst (λ l. AnswersLine g positions t l k u more on) (by_last terminal last line done h) answers

pub answered_more : (f g k : Settings) (positions : List LineColumn) (s t u : Seen) (lines : Lines)
    (left rest : List (List ℕ)) (last before now line used more : List ℕ) (out next : Text) (made : ℕ) →
    Said f g positions s t lines left last before now made →
    left ≡ line ∷ rest → used ≡ meant lines.terminal last line →
    AnswersLine g positions t (meant lines.terminal last line) k u more true → Says out more →
    Adds out next (prompt lines.terminal) →
    Talking f k positions s u lines rest used before now next (made + 1)
answered_more f g k positions s t u lines left rest last before now line used more out next made h e is answers says
    prompts = record {
      done = h.done ++ line ∷ [];
      text = h.text ++ (more ++ prompt lines.terminal);
      said = output_text lines.terminal f positions s h.text;
      pending = more ++ prompt lines.terminal;
      lines_are = h.lines_are ∙ (ap (λ l. h.done ++ l) e ∙ sym (append_assoc h.done (line ∷ []) rest));
      count = length-append h.done (line ∷ []) ∙ ap (λ n. n + 1) h.count;
      talks = one_more g k s t u h.done line h.text more h.talks
          (answered_as g k positions t u lines.terminal true last line more h.done h.last_is answers);
      last_is = last_after lines.terminal last line used h.done h.last_is is;
      output = sym (append_assoc (where_text f positions s ++ prompt lines.terminal) h.text (more ++ prompt lines.terminal));
      written = h.written;
      says = says_more out next more (prompt lines.terminal) says prompts;
    }

-- the answer to a line, as the loop has it
pub line_answered : (g k : Settings) (positions : List LineColumn) (s t : Seen) (line items text : List ℕ) (on is : Bool) →
    line ≡ items → on ≡ is → AnswersLine g positions s line k t text on → AnswersLine g positions s items k t text is
line_answered g k positions s t line items text on is same test h =
    subst (λ b. AnswersLine g positions s items k t text b) test
    (subst (λ l. AnswersLine g positions s l k t text on) same h)

pub ended : (f g : Settings) (positions : List LineColumn) (s t : Seen) (lines : Lines) (left : List (List ℕ))
    (last before now : List ℕ) (made : ℕ) →
    Said f g positions s t lines left last before now made → left ≡ [] → IsOver f positions s lines before now
ended f g positions s t lines left last before now made h e =
    let all : lines.all ≡ h.done = h.lines_are ∙ (ap (λ l. h.done ++ l) e ∙ append-nil h.done) in
    at_end g t h.text (subst (λ l. Talks lines.terminal f positions s l g t h.text) (sym all) h.talks) h.written

pub quit : (f g k : Settings) (positions : List LineColumn) (s t u : Seen) (lines : Lines) (left rest : List (List ℕ))
    (last before now line final : List ℕ) (made : ℕ) → Said f g positions s t lines left last before now made →
    left ≡ line ∷ rest →
    AnswersLine g positions t (meant lines.terminal last line) k u final false → IsOver f positions s lines before now
quit f g k positions s t u lines left rest last before now line final made h e answers =
    at_quit h.done rest line g k t u h.text final (h.lines_are ∙ ap (λ l. h.done ++ l) e) h.talks
    (answered_as g k positions t u lines.terminal false last line final h.done h.last_is answers) h.written

taken : (n : ℕ) (text : List ℕ) (out : Text) (r : Bool) → out.refused ≡ r → Says out text →
    (out.refused ≡ true → n ≡ 0) → take n out.bytes.items ≡ take n text
taken n text out true e says none = let z = none e in rw z refl
taken n text out false e says none = ap (take n) (says e)

pub cut_short : (f g : Settings) (positions : List LineColumn) (s t : Seen) (lines : Lines) (left : List (List ℕ))
    (last before now after : List ℕ) (n : ℕ) (out : Text) (made : ℕ) →
    Talking f g positions s t lines left last before now out made → after ≡ now ++ take n out.bytes.items → (out.refused ≡ true → n ≡ 0) → IsCut f positions s lines before after
cut_short f g positions s t lines left last before now after n out made h e none = record {
  done = h.done;
  left = left;
  lines_are = h.lines_are;
  set = g;
  last = t;
  text = h.text;
  talks = h.talks;
  count = length h.said + n;
  written = e ∙ (ap₂ (λ x y. x ++ y) h.written (taken n h.pending out out.refused refl h.says none)
      ∙ (append_assoc before h.said (take n h.pending)
      ∙ ap (λ l. before ++ l) (sym (ap (take (length h.said + n)) h.output ∙ take-append-add h.said h.pending n))));
}

pub cut_after : (f g : Settings) (positions : List LineColumn) (s t : Seen) (lines : Lines) (left : List (List ℕ))
    (last before now : List ℕ) (made : ℕ) → Said f g positions s t lines left last before now made →
    IsCut f positions s lines before now
cut_after f g positions s t lines left last before now made h =
    let output = output_text lines.terminal f positions s h.text in
    record {
      done = h.done;
      left = left;
      lines_are = h.lines_are;
      set = g;
      last = t;
      text = h.text;
      talks = h.talks;
      count = length output;
      written = h.written ∙ ap (λ l. before ++ l) (sym (take_all (length output) output (omega arith)));
    }

pub failed : (f : Settings) (positions : List LineColumn) (s : Seen) (lines : Lines) (job_end : JobEnd)
    (before after : List ℕ) → IsFailure job_end → IsCut f positions s lines before after →
    Writes f positions s lines job_end before after
failed f positions s lines (Answered status message) before after proper h = absurd proper
failed f positions s lines NoMemory before after proper h = h
failed f positions s lines InputTooLong before after proper h = absurd proper
failed f positions s lines FileNotRead before after proper h = absurd proper
failed f positions s lines ReadFailed before after proper h = h
failed f positions s lines WriteFailed before after proper h = h

-- so many lines are more than a session answers
pub many_lines : (f g : Settings) (positions : List LineColumn) (s t : Seen) (lines : Lines) (left : List (List ℕ))
    (last before now : List ℕ)
    (out : Text) (made : ℕ) → Talking f g positions s t lines left last before now out made →
    18446744073709551615 ≤ made →
    2 ^ 64 ≤ length lines.all + 1
many_lines f g positions s t lines left last before now out made h all =
    let count = h.count in
    let size = ap length h.lines_are ∙ length-append h.done left in
    omega arith
