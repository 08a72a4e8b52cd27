use Rattle.std.proofs.Common.{◌∙◌, [], sym}
use Rattle.std.proofs.lemmas.Result.{on_ok_weaker}
use Rattle.ick_inspect.proofs.AddLaws.{nothing}
use Rattle.ick_stages.specs.Listed.{hidden, seen_text, shown}
use Rattle.ick_stages.proofs.listed.append_seen_if.Goals as goal

pub returns-then-not-is_shown : goal.returns-then-not-is_shown
returns-then-not-is_shown c = ([], hidden (sym c.is_shown.ensures ∙ c.if-not-is_shown.true), nothing _)

pub returns : goal.returns
returns c =
    on_ok_weaker c.append_seen.result
    (λ h. (
      seen_text c.args.asked.now c.args.one.now h.0,
      shown h.0 (sym c.is_shown.ensures ∙ c.if-not-is_shown.false) h.1,
      h.2,
    )) c.append_seen.ensures
