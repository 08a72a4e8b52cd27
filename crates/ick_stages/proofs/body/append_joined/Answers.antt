use Rattle.std.proofs.Common.{ap, sym}
use Rattle.ick_inspect.proofs.AddLaws.{same, then}
use Rattle.ick_stages.proofs.TextLaws.{between_taken, joined_taken}
use Rattle.ick_stages.proofs.body.append_joined.Goals as goal

pub loop-part-preserved : goal.loop-part-preserved
loop-part-preserved g c =
    let words = g.P.Part.words in
    let at = c.loop-part.part-index in
    let item = c.part-item.result in
    let before = c.loop-part.invariant in
    record {
      added = same (sym (joined_taken c.args.separator.now words c.args.parts.now at item c.loop-part-test.true))
          (then before.added (then (same before.before c.push.ensures) (same (ap words c.part-item.is) c.append.ensures)));
      before = sym (between_taken c.args.separator.now c.args.parts.now at item c.loop-part-test.true);
    }
