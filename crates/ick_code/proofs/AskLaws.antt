-- What a state asks for.
use Rattle.std.proofs.Common.{◌≡◌, ◌∙◌, ℕ, ◌<◌, ◌&&◌, ◌==◌, Bool, true, false}
use Rattle.std.proofs.Common.{if◌then◌else◌, List, refl, ap, ◌↔◌, arith}
use Rattle.std.proofs.lemmas.Bool.Decides.{nat_tests}
use Rattle.std.specs.Prelude.{nat_lt, Option, Some, None}
use Rattle.ick_syntax.specs.StatementTree.{StatementTree}
use Rattle.ick_code.specs.meaning.State.{State, Ending, statement_at}
use Rattle.ick_code.specs.meaning.Do.{do_statement}
use Rattle.ick_code.specs.meaning.Move.{plain, choice, ended, ask, ask_at, ask_of, is_uncertain, is_done, pass_over}
use Rattle.ick_code.specs.meaning.Move.{meet, advance}

-- a choice is asked at a chance strictly between none and all
same_chance : (a b : ℕ) → choice a ≡ choice b → a ≡ b
same_chance a b e = cc

between_by : (a b : Bool) (c : ℕ) → nat_lt 0 c ≡ a →
    nat_lt c 100 ≡ b → (n : ℕ) → (if a && b then choice c else plain) ≡ choice n → (0 < n) × (n < 100)
between_by true true c h k n e =
    let i : c ≡ n = same_chance c n e in
    let x : 0 < c = grind (arith, nat_tests) in
    let y : c < 100 = grind (arith, nat_tests) in
    (omega arith, omega arith)
between_by true false c h k n e = cc
between_by false b c h k n e = cc

uncertain_by : (statement : StatementTree) (abstained : Bool) (n : ℕ) → (if is_uncertain statement
    abstained then choice statement.chance else plain) ≡ choice n → (0 < n) × (n < 100)
uncertain_by statement true n e = cc
uncertain_by statement false n e =
    between_by (nat_lt 0 statement.chance) (nat_lt statement.chance 100) statement.chance refl refl n e

at_statement : (found : Option StatementTree) (s : State) (n : ℕ) →
    ask_at found s ≡ choice n → (0 < n) × (n < 100)
at_statement None s n e = cc
at_statement (Some statement) s n e = uncertain_by statement (s.abstained s.place) n e

of_end : (end : Option Ending) (program : List StatementTree) (s : State) (n : ℕ) →
    ask_of end program s ≡ choice n → (0 < n) × (n < 100)
of_end (Some e) program s n h = cc
of_end None program s n h = at_statement (statement_at program s.place) s n h

pub chance_between : (program : List StatementTree) (s : State) (n : ℕ) →
    ask program s ≡ choice n → (0 < n) × (n < 100)
unfolding ask
chance_between program s n h = of_end s.end program s n h

-- what is asked rests on the place, the abstained statements and the end alone
found_same : (found : Option StatementTree) (s t : State) →
    t.abstained t.place ≡ s.abstained s.place →
    ask_at found t ≡ ask_at found s
found_same None s t flag = refl
found_same (Some statement) s t flag =
    ap (λ b. if is_uncertain statement b then choice statement.chance else plain) flag

going_same : (end : Option Ending) (program : List StatementTree) (s t : State) →
    t.place ≡ s.place →
    t.abstained ≡ s.abstained →
    ask_of end program t ≡ ask_of end program s
going_same (Some end) program s t place abstained = refl
going_same None program s t place abstained =
    ap (λ n. ask_at (statement_at program n) t) place
    ∙ found_same (statement_at program s.place) s t (ap (λ flags. flags t.place) abstained ∙ ap s.abstained place)

pub ask_same : (program : List StatementTree) (s t : State) →
    t.place ≡ s.place →
    t.abstained ≡ s.abstained →
    t.end ≡ s.end →
    ask program t ≡ ask program s
unfolding ask
ask_same program s t place abstained end =
    ap (λ e. ask_of e program t) end ∙ going_same s.end program s t place abstained

-- where nothing is asked both choices do the same
either_same : (b c : Bool) (n : ℕ) → (if b then choice n else plain) ≡ plain → (if b then true else c)
    ≡ (if b then false else c)
either_same true c n e = absurd (cc)
either_same false c n e = refl

done_same : (statement : StatementTree) (abstained : Bool) →
    (if is_uncertain statement abstained then choice statement.chance else plain) ≡ plain →
    is_done statement abstained true ≡ is_done statement abstained false
done_same statement true e = refl
done_same statement false e =
    either_same (nat_lt 0 statement.chance && nat_lt statement.chance 100) (statement.chance == 100) statement.chance e

meet_same : (program : List StatementTree) (found : Option StatementTree) (s : State) →
    ask_at found s ≡ plain →
    meet program found s true ≡ meet program found s false
meet_same program None s e = refl
meet_same program (Some statement) s e =
    ap (λ b. if b then do_statement program statement s else pass_over s)
    (done_same statement (s.abstained s.place) e)

end_same : (end : Option Ending) (program : List StatementTree) (s : State) →
    ask_of end program s ≡ plain →
    meet program (statement_at program s.place) s true ≡ meet program (statement_at program s.place) s false
end_same (Some end) program s e = absurd (cc)
end_same None program s e = meet_same program (statement_at program s.place) s e

pub plain_same : (program : List StatementTree) (s : State) →
    ask program s ≡ plain →
    advance program s true ≡ advance program s false
unfolding ask advance
plain_same program s e = end_same s.end program s e

-- it has ended exactly where the end is set
not_ended_by : (b : Bool) (n : ℕ) (end : Ending) → (if b then choice n else plain) ≡ ended end → ⊥
not_ended_by true n end e = cc
not_ended_by false n end e = cc

not_ended_at : (found : Option StatementTree) (s : State) (end : Ending) → ask_at found s ≡ ended end → ⊥
not_ended_at None s end e = cc
not_ended_at (Some statement) s end e =
    not_ended_by (is_uncertain statement (s.abstained s.place)) statement.chance end e

has_end : (found : Option Ending) (program : List StatementTree) (s : State) (end : Ending) →
    ask_of found program s ≡ ended end →
    found ≡ Some end
has_end (Some end') program s end e = cc
has_end None program s end e = absurd (not_ended_at (statement_at program s.place) s end e)

pub ended_exactly : (program : List StatementTree) (s : State) (end : Ending) →
    (ask program s ≡ ended end) ↔ (s.end ≡ Some end)
unfolding ask
ended_exactly program s end = (has_end s.end program s end, λ e. ap (λ found. ask_of found program s) e)
