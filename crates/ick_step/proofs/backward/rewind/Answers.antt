use Rattle.std.proofs.Common.{◌*◌, take, sym, ◌∙◌, subst, arith}
use Rattle.std.proofs.lemmas.List.{length-take-le}
use Rattle.ick_step.specs.Seen.{IsKept}
use Rattle.ick_step.proofs.MarkLaws.{kept_back}
use Rattle.ick_step.proofs.backward.rewind.Goals as goal

pub back-requires : goal.back-requires
back-requires g c =
    let i = c.down.invariant in
    let size = length-take-le c.down.steps c.args.answers.now i.within in
    let enough = i.kept.enough in
    omega (arith, size, enough, c.down-test.true)

pub down-preserved : goal.down-preserved
down-preserved g c =
    let i = c.down.invariant in
    let m = g.M.Backtrack.seen c.down.machine in
    let t = g.M.Backtrack.seen c.back.new.self in
    let xs = c.args.answers.now in
    let r = kept_back m t c.down.steps xs i.kept i.within c.back.ensures in
    let count = c.marks-steps.ensures in
    let within = r.within in
    let near = r.near in
    let before = i.within in
    record {
      kept = subst (λ n. IsKept t (take (1000 * n) xs)) (sym count) r.kept;
      program = r.program ∙ i.program;
      start = r.start ∙ i.start;
      work = r.work ∙ i.work;
      within = omega (arith, count, within, before);
      near = omega (arith, count, near, c.down-test.true);
    }

pub down-smaller : goal.down-smaller
down-smaller g c =
    let i = c.down.invariant in
    let m = g.M.Backtrack.seen c.down.machine in
    let t = g.M.Backtrack.seen c.back.new.self in
    let r = kept_back m t c.down.steps c.args.answers.now i.kept i.within c.back.ensures in
    let count = r.count in
    omega (arith, count)
