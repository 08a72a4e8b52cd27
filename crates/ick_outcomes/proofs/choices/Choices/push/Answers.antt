use Rattle.std.proofs.Common.{rules, ◌≡◌, ◌∙◌}
use Rattle.ick_outcomes.proofs.Packing.{pushed_byte}
use Rattle.ick_outcomes.proofs.choices.Choices.push.Goals as goal

pub returns-in_ok-push-2 : goal.returns-in_ok-push-2
returns-in_ok-push-2 c =
    let last : c.deref.result.now ≡ c.push.new.self.items = search rules in
    pushed_byte c.args.self.now.packed.items c.push-then-len-eq8.new.self.items c.pack.result c.args.self.now.last.items
    c.push.new.self.items c.clear.new.self.items c.args.done c.in_ok-push.ensures.ok (c.pack.ensures ∙ last)
    c.in_ok-push-2.ensures.ok c.clear.ensures.items
