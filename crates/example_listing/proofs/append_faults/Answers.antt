use Rattle.std.proofs.Common.{rules}
use Rattle.ick_explorer.specs.Explorers.{explored}
use Rattle.ick_explorer.specs.Standing.{Stands, Gives}
use Rattle.ick_code.specs.meaning.State.{State}
use Rattle.example_listing.proofs.FaultLaws.{along_next, along_last, some_of, none_of}
use Rattle.example_listing.proofs.append_faults.Goals as goal

pub returns-in_default : goal.returns-in_default
returns-in_default g c = λ s cs h k.
    let a = c.runs.invariant s cs h k in
    let last = none_of c.in_ok-run.field-0 _ (search rules) c.in_ok-run.ensures.none in
    along_last s cs (explored c.args.explorer.now) (explored c.runs.explorer) c.args.out.now.items c.runs.out.items a
    (last.1 s a.1.stands)

pub runs-preserved : goal.runs-preserved
runs-preserved g c = λ s cs h k.
    let a = c.runs.invariant s cs h k in
    let old = explored c.runs.explorer in
    let new = explored c.next.new.self in
    let e = c.in_ok-run.ensures in
    let gives : Gives s old c.in-Some.run' new =
    some_of c.in_ok-run.field-0 c.in-Some.run' (λ r. (s' : State) → Stands s' old → Gives s' old r new) c.in-Some.is
    e.some s a.1.stands in
    along_next s cs (explored c.args.explorer.now) old new c.args.out.now.items c.runs.out.items
    c.append_fault.new.out.items c.in-Some.run' a gives e.program e.limit c.in_ok-append_fault.ensures
