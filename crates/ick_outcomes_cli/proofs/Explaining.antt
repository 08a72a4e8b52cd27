-- The lines of a listing: the first one, and what their choices were asked by.
use Rattle.std.specs.Prelude.{codes}
use Rattle.std.specs.Str.{bytes_eq}
use Rattle.std.proofs.Common.{◌≡◌, ◌≢◌, ◌++◌, ◌∷◌, ◌∙◌, ◌+◌, ◌<◌, ◌==◌, inl, inr, ℕ, Bool, true, false}
use Rattle.std.proofs.Common.{List, [], length, ne_eqb, not}
use Rattle.std.proofs.Common.{IfOk, IfSome, None, Ok, Option, Result, ap, append_assoc, arith, refl, subst, suc, sym}
use Rattle.std.proofs.lemmas.Bool.{not-false, not-true}
use Rattle.std.proofs.lemmas.List.{append-nil, append_cancel_right}
use Rattle.std.proofs.lemmas.Result.{IfOk-at_ok}
use Rattle.std.proofs.lemmas.Slice.Eq.{bytes_eq-Decides}
use Rattle.std.specs.Str.Iter.{LacksByte}
use Rattle.ick_code.specs.Compiled.{code_program}
use Rattle.ick_code.specs.declared.code.Code.{Code}
use Rattle.ick_code.specs.meaning.Move.{first_state}
use Rattle.ick_code.specs.meaning.State.{State}
use Rattle.ick_backtrack.specs.Asked.{Finish}
use Rattle.ick_backtrack.specs.Machine.{Program}
use Rattle.ick_explorer.specs.ChoiceTexts.{IsTextOf}
use Rattle.ick_explorer.specs.Laws.{AreLimited, ReadsBack}
use Rattle.ick_explorer.specs.Lines.{compiled_at, line_of}
use Rattle.ick_explorer.specs.Lines.{run_line as line_of_run}
use Rattle.ick_explorer.specs.Runs.{IsEnd, IsWhole, Stop, run}
use Rattle.ick_outcomes.specs.Programs.{IsWhole as IsWholeTold, run as run_told, spoken}
use Rattle.ick_outcomes.proofs.Hushing.{run_heard}
use Rattle.ick_outcomes.specs.Accounts.{Configuration}
use Rattle.ick_outcomes.specs.Askers.{IsFollowed, asked, asked_line}
use Rattle.ick_outcomes.specs.declared.following.AskedBy.{AskedBy}
use Rattle.ick_outcomes_cli.specs.Asked.{Explains, ForeignAt, foreign_here, foreign_later, last_line, no_line, run_line}
use Rattle.ick_outcomes_cli.specs.Lines.{IsFirstWord, IsLast, IsLineOf, IsListed, IsRunLine}

lacks_first : (byte b : ℕ) (text : List ℕ) → LacksByte byte (b ∷ text) → b ≢ byte
lacks_first byte b text none = none 0 (omega arith)

lacks_rest : (byte b : ℕ) (text : List ℕ) → LacksByte byte (b ∷ text) → LacksByte byte text
lacks_rest byte b text none = λ k less. none (suc k) (omega arith)

-- two texts without a byte, each in front of this byte of the same bytes
pub first_same : (byte : ℕ) (one rest other rest' : List ℕ) → LacksByte byte one → LacksByte byte other
    → one ++ (byte ∷ rest) ≡ other ++ (byte ∷ rest') → one ≡ other
first_same byte [] rest [] rest' none none' e = refl
first_same byte [] rest (b ∷ other) rest' none none' e =
    let first : b ≡ byte = cc in absurd (lacks_first byte b other none' first)
first_same byte (a ∷ one) rest [] rest' none none' e =
    let first : a ≡ byte = cc in absurd (lacks_first byte a one none first)
first_same byte (a ∷ one) rest (b ∷ other) rest' none none' e =
    let tail : one ++ (byte ∷ rest) ≡ other ++ (byte ∷ rest') = cc in
    let same = first_same byte one rest other rest' (lacks_rest byte a one none) (lacks_rest byte b other none') tail in
    cc

none_at : (byte : ℕ) (text rest : List ℕ) → LacksByte byte (text ++ (byte ∷ rest)) → ⊥
none_at byte [] rest none = lacks_first byte byte rest none refl
none_at byte (b ∷ text) rest none = none_at byte text rest (lacks_rest byte b (text ++ (byte ∷ rest)) none)

-- a line has one first word, and none without a blank
word_same : (line one other : List ℕ) → IsFirstWord line one → IsFirstWord line other → one ≡ other
word_same line one other h k = first_same 32 one h.rest other k.rest h.first k.first (sym h.whole ∙ k.whole)

pub no_word : (line : List ℕ) → LacksByte 32 line → (word : List ℕ) → ¬ IsFirstWord line word
no_word line none word h = none_at 32 word h.rest (subst (LacksByte 32) h.whole none)

pub is_first : (line word rest : List ℕ) → word ++ (32 ∷ rest) ≡ line → LacksByte 32 word → IsFirstWord line word
is_first line word rest whole first = record { rest = rest; whole = sym whole; first = first }

-- a text without a line end has no line
pub no_first_line : (listing : List ℕ) → LacksByte 10 listing → (line rest : List ℕ) → listing ≡ line ++ 10 ∷ rest → ⊥
no_first_line listing none line rest is = none_at 10 line rest (subst (LacksByte 10) is none)

-- what the tests of a loop over a listing and of two texts say
pub none_left : (rest : List ℕ) (r : Bool) → r ≡ (length rest == 0) → r ≡ true → rest ≡ []
none_left [] r h is = refl
none_left (b ∷ rest) r h is =
    let some : (length (b ∷ rest) == 0) ≡ false = ne_eqb (length (b ∷ rest)) 0 (λ e. omega arith) in
    let no : false ≡ true = sym some ∙ (sym h ∙ is) in cc

pub some_left : (rest : List ℕ) (r : Bool) → r ≡ (length rest == 0) → r ≡ false → rest ≢ []
some_left [] r h is = λ e. let no : true ≡ false = sym h ∙ is in cc
some_left (b ∷ rest) r h is = λ e. cc

pub texts_same : (one other : List ℕ) (r : Bool) → r ≡ not (bytes_eq one other) → r ≡ false → one ≡ other
texts_same one other r h is = (bytes_eq-Decides one other).0 (not-false (bytes_eq one other) (sym h ∙ is))

pub texts_differ : (one other : List ℕ) (r : Bool) → r ≡ not (bytes_eq one other) → r ≡ true → one ≢ other
texts_differ one other r h is = λ e.
    let same = (bytes_eq-Decides one other).1 e in
    let differ = not-true (bytes_eq one other) (sym h ∙ is) in
    let no : true ≡ false = sym same ∙ differ in cc

-- the listing has no line at its front, or a foreign one
pub foreign_rest : (p : Program) (s : State) (limit : ℕ) (rest : List ℕ) → rest ≢ [] → LacksByte 10 rest
    → ForeignAt p s limit rest 1
foreign_rest p s limit rest some none =
    foreign_here rest some (λ line behind lacks same listed. no_first_line rest none line behind same)

pub foreign_line : (p : Program) (s : State) (limit : ℕ) (rest line behind : List ℕ) → rest ≢ [] → LacksByte 10 line
    → line ++ (10 ∷ behind) ≡ rest → (IsLast line → ⊥) → ((c : List Bool) → ¬ IsRunLine p s limit line c)
    → ForeignAt p s limit rest 1
foreign_line p s limit rest line behind some lacks whole other none =
    foreign_here rest some (λ found after lacks' same listed.
    let one : found ≡ line = first_same 10 found after line behind lacks' lacks (sym same ∙ sym whole) in
    not_listed (subst (IsListed p s limit) one listed))
  where
    not_listed : IsListed p s limit line → ⊥
    not_listed (inl last) = other last
    not_listed (inr run) = none run.0 run.1

-- what was explained so far: the rest of a listing goes on from a text and a number of lines
abbrev pub GoesOn : Program → State → ℕ → (listing rest text : List ℕ) → Type 0
GoesOn p s limit listing rest text = (more : List ℕ) → Explains p s limit rest more
    → Explains p s limit listing (text ++ more)

abbrev pub CountsOn : Program → State → ℕ → (listing rest : List ℕ) → ℕ → Type 0
CountsOn p s limit listing rest number = (n : ℕ) → ForeignAt p s limit rest n → ForeignAt p s limit listing (number + n)

pub goes_on_first : (p : Program) (s : State) (limit : ℕ) (listing text : List ℕ) → text ≡ []
    → GoesOn p s limit listing listing text
goes_on_first p s limit listing text none = λ more e.
    subst (λ (t : List ℕ). Explains p s limit listing (t ++ more)) (sym none) e

pub counts_on_first : (p : Program) (s : State) (limit : ℕ) (listing : List ℕ) → CountsOn p s limit listing listing 0
counts_on_first p s limit listing = λ n f.
    let e : n ≡ 0 + n = omega arith in subst (ForeignAt p s limit listing) e f

pub goes_on_last : (p : Program) (s : State) (limit : ℕ) (listing rest line behind text : List ℕ)
    → GoesOn p s limit listing rest text → LacksByte 10 line → line ++ (10 ∷ behind) ≡ rest → IsLast line
    → GoesOn p s limit listing behind text
goes_on_last p s limit listing rest line behind text h is whole last = λ more e.
    h more (subst (λ l. Explains p s limit l more) whole (last_line line behind more is last e))

pub goes_on_run : (p : Program) (s : State) (limit : ℕ) (listing rest line behind text : List ℕ) (c : List Bool)
    → GoesOn p s limit listing rest text → LacksByte 10 line → line ++ (10 ∷ behind) ≡ rest → (IsLast line → ⊥)
    → IsRunLine p s limit line c → GoesOn p s limit listing behind (text ++ asked_line (asked (spoken p) s limit c))
goes_on_run p s limit listing rest line behind text c h is whole other run = λ more e.
    let new = asked_line (asked (spoken p) s limit c) in
    subst (Explains p s limit listing) (sym (append_assoc text new more))
    (h (new ++ more)
    (subst (λ l. Explains p s limit l (new ++ more)) whole (run_line line behind more c is other run e)))

pub counts_on : (p : Program) (s : State) (limit : ℕ) (listing rest line behind : List ℕ) (number : ℕ)
    → CountsOn p s limit listing rest number → LacksByte 10 line → line ++ (10 ∷ behind) ≡ rest
    → IsListed p s limit line → CountsOn p s limit listing behind (number + 1)
counts_on p s limit listing rest line behind number h is whole listed = λ n f.
    let e : number + suc n ≡ number + 1 + n = omega arith in
    subst (ForeignAt p s limit listing) e
    (h (suc n) (subst (λ l. ForeignAt p s limit l (suc n)) whole (foreign_later line behind n is listed f)))

pub explains_all : (p : Program) (s : State) (limit : ℕ) (listing rest text : List ℕ) → rest ≡ []
    → GoesOn p s limit listing rest text → Explains p s limit listing text
explains_all p s limit listing rest text none h =
    subst (Explains p s limit listing) (append-nil text)
    (h [] (subst (λ l. Explains p s limit l []) (sym none) no_line))

-- the line of a word that reads as no list, as too long a list, and as the list of no run
pub no_list : (p : Program) (s : State) (limit : ℕ) (line word : List ℕ) → IsFirstWord line word
    → ((c : List Bool) → ¬ IsTextOf word c) → (c : List Bool) → ¬ IsRunLine p s limit line c
no_list p s limit line word is none c h =
    none c (subst (λ w. IsTextOf w c) (word_same line h.word word h.is_word is) h.reads)

same_list : (p : Program) (s : State) (limit : ℕ) (line word : List ℕ) (c d : List Bool) → ReadsBack
    → IsFirstWord line word → IsTextOf word d → IsRunLine p s limit line c → c ≡ d
same_list p s limit line word c d back is reads h =
    back.unique word c d (subst (λ w. IsTextOf w c) (word_same line h.word word h.is_word is) h.reads) reads

pub long_list : (p : Program) (s : State) (limit : ℕ) (line word : List ℕ) (d : List Bool) → ReadsBack
    → AreLimited p s limit → IsFirstWord line word → IsTextOf word d → limit < length d
    → (c : List Bool) → ¬ IsRunLine p s limit line c
long_list p s limit line word d back limited is reads long c h =
    let same = ap (λ (l : List Bool). length l) (same_list p s limit line word c d back is reads h) in
    let few = limited.choices c h.line_of.whole in omega (arith, long, same, few)

pub other_list : (p : Program) (s : State) (limit : ℕ) (line word : List ℕ) (d : List Bool) → ReadsBack
    → IsFirstWord line word → IsTextOf word d → ¬ IsLineOf p s limit line d
    → (c : List Bool) → ¬ IsRunLine p s limit line c
other_list p s limit line word d back is reads none c h =
    none (subst (IsLineOf p s limit line) (same_list p s limit line word c d back is reads h) h.line_of)

-- the answer to a word that is refused
pub no_text : {T : Type 0} (found : Option T) (P : T → Type 0) → found ≡ None → IfSome found P
no_text found P is = subst (λ (o : Option _). IfSome o P) (sym is) tt

pub refused_so : {T E : Type 0} (r : Result (Option T) E) (P : Type 0) → IfOk r (λ found. (found ≡ None) × P)
    → r ≡ Ok None → P
refused_so {T} {E} r P h e =
    let both : (◌≡◌ {A = Option T} None None) × P = IfOk-at_ok (λ (found : Option T). (found ≡ None) × P) e h in
    both.1

-- a run that was followed from a configuration, and its line
abbrev pub configuration_at : Program → State → Configuration
configuration_at p s = record { program = spoken p; state = s }

pub spoken_at : (x : Configuration) → x.program.silent ≡ false → x ≡ configuration_at x.program.statements x.state
spoken_at x is = λ i. record { program = record { statements = x.program.statements; silent = is i }; state = x.state }

abbrev first_of : Code → List ℕ → Bool → Configuration
first_of code input silent = record {
  program = record { statements = code_program code; silent = silent };
  state = first_state (code_program code) input;
}

pub configuration_is : (code code' : Code) (input input' : List ℕ) (silent silent' : Bool) (q : Configuration)
    → q ≡ first_of code input silent → code ≡ code' → input ≡ input' → silent ≡ silent'
    → q ≡ first_of code' input' silent'
configuration_is code code' input input' silent silent' q is same same' same'' =
    is ∙ (λ i. first_of (same i) (same' i) (same'' i))

-- the runs of a program with its output are those of the explorer
spoken_run : (p : Program) (s : State) (limit : ℕ) (c : List Bool) → run_told (spoken p) s limit c ≡ run p s limit c
spoken_run p s limit c = run_heard (spoken p) s limit c

pub whole_of : (p : Program) (s : State) (limit : ℕ) (c : List Bool) → IsWholeTold (spoken p) s limit c
    → IsWhole p s limit c
whole_of p s limit c w = record {
  at_end = subst (λ r. IsEnd r.stop) (spoken_run p s limit c) w.at_end;
  all_used = ap (λ r. r.unused) (sym (spoken_run p s limit c)) ∙ w.all_used;
}

whole_to : (p : Program) (s : State) (limit : ℕ) (c : List Bool) → IsWhole p s limit c
    → IsWholeTold (spoken p) s limit c
whole_to p s limit c w = record {
  at_end = subst (λ r. IsEnd r.stop) (sym (spoken_run p s limit c)) w.at_end;
  all_used = ap (λ r. r.unused) (spoken_run p s limit c) ∙ w.all_used;
}

pub followed_at : (p : Program) (s : State) (limit : ℕ) (c : List Bool) (last : State) (finish : Finish)
    (askers : List AskedBy) (q : Configuration) → q ≡ configuration_at p s
    → IsFollowed q.program q.state limit c last finish askers → IsFollowed (spoken p) s limit c last finish askers
followed_at p s limit c last finish askers q is h =
    subst (λ (x : Configuration). IsFollowed x.program x.state limit c last finish askers) is h

followed_line : (p : Program) (s : State) (limit : ℕ) (c : List Bool) (last : State) (finish : Finish)
    (askers : List AskedBy) → IsFollowed (spoken p) s limit c last finish askers
    → line_of_run p s limit c ≡ line_of c finish last.output
followed_line p s limit c last finish askers h =
    ap (λ r. compiled_at c r.stop r.last.output) (sym (spoken_run p s limit c))
    ∙ ap (λ (stop : Stop). compiled_at c stop (run_told (spoken p) s limit c).last.output) h.stop_is
    ∙ ap (λ (x : State). line_of c finish x.output) h.last_is

pub line_same : (p : Program) (s : State) (limit : ℕ) (c : List Bool) (last : State) (finish : Finish)
    (askers : List AskedBy) (line wanted : List ℕ) → IsFollowed (spoken p) s limit c last finish askers
    → wanted ++ codes "\n" ≡ line_of c finish last.output → wanted ≡ line → IsLineOf p s limit line c
line_same p s limit c last finish askers line wanted h shown is = record {
  whole = whole_of p s limit c h.whole;
  same = ap (λ (l : List ℕ). l ++ codes "\n") (sym is)
      ∙ (shown ∙ sym (followed_line p s limit c last finish askers h));
}

pub line_other : (p : Program) (s : State) (limit : ℕ) (c : List Bool) (last : State) (finish : Finish)
    (askers : List AskedBy) (line wanted : List ℕ) → IsFollowed (spoken p) s limit c last finish askers
    → wanted ++ codes "\n" ≡ line_of c finish last.output → wanted ≢ line → ¬ IsLineOf p s limit line c
line_other p s limit c last finish askers line wanted h shown other k =
    other (append_cancel_right wanted line (codes "\n")
    (shown ∙ (sym (followed_line p s limit c last finish askers h) ∙ sym k.same)))

-- choices that aren't whole have no line
pub line_of_none : (p : Program) (s : State) (limit : ℕ) (c : List Bool) (line : List ℕ) (q : Configuration)
    → q ≡ configuration_at p s → ¬ IsWholeTold q.program q.state limit c → ¬ IsLineOf p s limit line c
line_of_none p s limit c line q is none k =
    none (subst (λ (x : Configuration). IsWholeTold x.program x.state limit c) (sym is)
    (whole_to p s limit c k.whole))
