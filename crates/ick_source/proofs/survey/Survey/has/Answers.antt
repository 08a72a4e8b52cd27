use Rattle.std.proofs.Common.{◌≡◌, ◌+◌, ◌/◌, ◌≤◌, true, false, nat_lt, ap, arith, length, refl, subst, sym, ◌∙◌}
use Rattle.std.proofs.lemmas.Bool.{false≢true}
use Rattle.std.proofs.lemmas.Bool.Decides.{nat_tests}
use Rattle.ick_source.specs.Seen.{Sees}
use Rattle.ick_source.specs.Surveys.{Tells}
use Rattle.ick_syntax.specs.ProgramFaults.{IsFaultAt}
use Rattle.ick_syntax.specs.StatementFaults.{faults_of_statement}
use Rattle.ick_source.proofs.SeenLemmas.{found_at, zip_long}
use Rattle.ick_source.proofs.SurveyLemmas.{last_back, last_moved, tells_at, tells_fawning, tells_impolite}
use Rattle.ick_source.proofs.survey.Survey.has.Goals as goal

pub returns-in-MeshTooLarge : goal.returns-in-MeshTooLarge
returns-in-MeshTooLarge c = λ trees k s there.
    let found = found_at k c.args.one.now s.sees there in
    subst (λ q. Tells c.args.one.now.faults.mesh (IsFaultAt q trees (k + 1))) (sym c.in-MeshTooLarge.is)
    (tells_at (λ t. (faults_of_statement t).mesh) trees k found.tree _ found.there
    (ap (λ f. f.mesh) found.sees.reads.faults))

pub returns-in-NameRange : goal.returns-in-NameRange
returns-in-NameRange c = λ trees k s there.
    let found = found_at k c.args.one.now s.sees there in
    subst (λ q. Tells c.args.one.now.faults.name (IsFaultAt q trees (k + 1))) (sym c.in-NameRange.is)
    (tells_at (λ t. (faults_of_statement t).name) trees k found.tree _ found.there
    (ap (λ f. f.name) found.sees.reads.faults))

pub returns-in-LabelRange : goal.returns-in-LabelRange
returns-in-LabelRange c = λ trees k s there.
    let found = found_at k c.args.one.now s.sees there in
    subst (λ q. Tells c.args.one.now.faults.label (IsFaultAt q trees (k + 1))) (sym c.in-LabelRange.is)
    (tells_at (λ t. (faults_of_statement t).label) trees k found.tree _ found.there
    (ap (λ f. f.label) found.sees.reads.faults))

pub returns-then-is_last : goal.returns-then-is_last
returns-then-is_last c = λ trees k s there.
    let found = found_at k c.args.one.now s.sees there in
    let count = length c.args.self.now.seen.now in
    subst (λ q. Tells (nat_lt c.args.self.now.polite (length c.args.self.now.seen.now / 5)) (IsFaultAt q trees (k + 1))) (sym c.in-Impolite.is)
    (tells_impolite trees (k + 1) count c.args.self.now.polite true _ (sym (zip_long Sees _ _ s.sees.each)) s.polite
    (λ e. last_moved found.number (c.is_last.ensures.0 c.if-is_last.true)) (λ p. refl)
    (λ e. grind (arith, nat_tests, e)) (λ lt. grind (arith, nat_tests, lt)))

pub returns-else-is_last : goal.returns-else-is_last
returns-else-is_last c = λ trees k s there.
    let found = found_at k c.args.one.now s.sees there in
    let count = length c.args.self.now.seen.now in
    let never : (false ≡ true → (k + 1 ≡ count) × (3 ≤ k + 1)) = λ e. absurd (false≢true e) in
    subst (λ b. Tells b (IsFaultAt c.args.kind trees (k + 1))) (sym c.if-is_last.false)
    (subst (λ q. Tells false (IsFaultAt q trees (k + 1))) (sym c.in-Impolite.is)
    (tells_impolite trees (k + 1) count c.args.self.now.polite false (nat_lt c.args.self.now.polite (length c.args.self.now.seen.now / 5)) (sym (zip_long Sees _ _ s.sees.each)) s.polite
    never (λ p. sym c.if-is_last.false ∙ c.is_last.ensures.1 (last_back found.number p))
    (λ e. grind (arith, nat_tests, e)) (λ lt. grind (arith, nat_tests, lt))))

pub returns-then-is_last-2 : goal.returns-then-is_last-2
returns-then-is_last-2 c = λ trees k s there.
    let found = found_at k c.args.one.now s.sees there in
    let count = length c.args.self.now.seen.now in
    subst (λ q. Tells (nat_lt (length c.args.self.now.seen.now / 3) c.args.self.now.polite) (IsFaultAt q trees (k + 1))) (sym c.in-Fawning.is)
    (tells_fawning trees (k + 1) count c.args.self.now.polite true _ (sym (zip_long Sees _ _ s.sees.each)) s.polite
    (λ e. last_moved found.number (c.is_last-in-Fawning.ensures.0 c.if-is_last-2.true)) (λ p. refl)
    (λ e. grind (arith, nat_tests, e)) (λ lt. grind (arith, nat_tests, lt)))

pub returns-else-is_last-2 : goal.returns-else-is_last-2
returns-else-is_last-2 c = λ trees k s there.
    let found = found_at k c.args.one.now s.sees there in
    let count = length c.args.self.now.seen.now in
    let never : (false ≡ true → (k + 1 ≡ count) × (3 ≤ k + 1)) = λ e. absurd (false≢true e) in
    subst (λ b. Tells b (IsFaultAt c.args.kind trees (k + 1))) (sym c.if-is_last-2.false)
    (subst (λ q. Tells false (IsFaultAt q trees (k + 1))) (sym c.in-Fawning.is)
    (tells_fawning trees (k + 1) count c.args.self.now.polite false (nat_lt (length c.args.self.now.seen.now / 3) c.args.self.now.polite) (sym (zip_long Sees _ _ s.sees.each)) s.polite
    never (λ p. sym c.if-is_last-2.false ∙ c.is_last-in-Fawning.ensures.1 (last_back found.number p))
    (λ e. grind (arith, nat_tests, e)) (λ lt. grind (arith, nat_tests, lt))))
