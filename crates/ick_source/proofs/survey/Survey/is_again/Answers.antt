use Rattle.std.proofs.Common.{sym, ◌∙◌, arith}
use Rattle.std.proofs.lemmas.Bool.Decides.{nat_tests}
use Rattle.ick_source.proofs.SeenLemmas.{found_at}
use Rattle.ick_source.proofs.SurveyLemmas.{again_absent, again_none, again_tells}
use Rattle.ick_source.proofs.survey.Survey.is_again.Goals as goal

pub returns-in_default : goal.returns-in_default
returns-in_default c = λ trees k s there.
    again_none trees k c.args.one.now (found_at k c.args.one.now s.sees there) c.in_default.is

pub returns-in-Some-first : goal.returns-in-Some-first
returns-in-Some-first c = λ trees k s there.
    again_tells trees k c.args.one.now c.in-Some.label c.in-Some-first.first _ c.args.self.now.labels s.labels
    (found_at k c.args.one.now s.sees there) c.in-Some.is (sym c.first.ensures ∙ c.in-Some-first.is)
    (λ e. grind (arith, nat_tests, e)) (λ lt. grind (arith, nat_tests, lt))

pub returns-in-None : goal.returns-in-None
returns-in-None c = λ trees k s there.
    again_absent trees k c.args.one.now c.in-Some.label c.args.self.now.labels s.labels
    (found_at k c.args.one.now s.sees there) c.in-Some.is (sym c.first.ensures ∙ c.in-None.is)
