use Rattle.std.proofs.Common.{◌≡◌, Some, [], ap, sym, ◌∙◌, rules}
use Rattle.std.specs.Prelude.{if◌then◌else◌}
use Rattle.ick_code.specs.{Compiled.code_program, meaning.Move.{Asking, ask}}
use Rattle.ick_backtrack.specs.Asked.{asked_of}
use Rattle.ick_runtime.specs.Memory.{view_in}
use Rattle.ick_engine.specs.Feeds.{input_after}
use Rattle.ick_machine.proofs.{LiveLemmas.asks_same, Readiness.ready_unless, live.Live.asks.Goals.After-answer}
use Rattle.ick_machine.specs.{declared.asking.LiveAsk.TheVariants.Failed, Live.{live_ask, seen}, LiveAsk.live_asked}
use Rattle.ick_machine.specs.Run.{run_state}
use Rattle.ick_machine.proofs.live.Live.asks.Goals as goal

pub answer-requires : goal.answer-requires
answer-requires c = search (rules, ready_unless)

-- the machine asks what the answer says
asked_here : (c : After-answer) (asked : Asking) → asked_of c.answer.result ≡ Some asked →
    live_asked asked ≡ live_ask (seen c.args.self.now)
unfolding seen
asked_here c asked is =
    let live = c.args.self.now in
    let code = live.lowered.code.now in
    let lowered = live.lowered.parts in
    let v = view_in live.memory in
    let here = ask (code_program code) (run_state code lowered (input_after live.line.items []) v live.end) in
    let same = asks_same code lowered live.line.items c.deref.result.now v c.deref.ensures.value live.end
    (asked_of c.answer.result) c.answer.ensures in
    let one : asked ≡ here = cc (is, same) in
    ap live_asked one ∙ ap (λ b. if b then Failed else live_asked here) (sym c.if-self.false)

pub returns-in-Plain : goal.returns-in-Plain
unfolding seen ask
returns-in-Plain c = search (rules, asked_here)

pub returns-in-Choice : goal.returns-in-Choice
unfolding seen ask
returns-in-Choice c = search (rules, asked_here)

pub returns-in-Ended-Fault : goal.returns-in-Ended-Fault
unfolding seen ask
returns-in-Ended-Fault c = search (rules, asked_here)

pub returns-in-Ended-GiveUp : goal.returns-in-Ended-GiveUp
unfolding seen ask
returns-in-Ended-GiveUp c = search (rules, asked_here)
