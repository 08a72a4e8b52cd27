use Rattle.ick_places.proofs.WalkLemmas.{walks_as, text-is}
use Rattle.ick_places.proofs.TokenWalks.{operator, no_operator, operator_one, no_operator_marks}
use Rattle.ick_places.proofs.walker.Walker.unary.Goals as goal

pub returns-in-Unary : goal.returns-in-Unary
returns-in-Unary c =
    walks_as _ _ _ _ _
    (operator_one c.args.self.now c.sign.new.self _ _ c.lead.ensures c.in-Unary.is (text-is c.sign.ensures.walks.keeps) c.sign.ensures.goes)
    (operator _ _ _ _ _ _ c.lead.ensures c.in-Unary.is c.sign.ensures.walks c.mark.ensures)

pub returns-in_default : goal.returns-in_default
returns-in_default c =
    walks_as _ _ _ _ _
    (no_operator_marks _ _ _ c.lead.ensures c.in_default.not-Unary)
    (no_operator _ _ c.lead.ensures c.in_default.not-Unary)
