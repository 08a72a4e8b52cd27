use Rattle.std.proofs.Common.{Some, sym, ◌∙◌, ap, rules}
use Rattle.std.proofs.lemmas.Grind.{get_or_default_zero}
use Rattle.ick_runtime.specs.{Memory.view_in, Inputs.input_of}
use Rattle.ick_backtrack.specs.Asked.{finish_of}
use Rattle.ick_machine.{proofs.AnswerLemmas.{asks_end, asks_status, place_low}, specs.Run.run_state}
use Rattle.ick_code.specs.{Compiled.code_program, meaning.Move.ask}
use Rattle.ick_machine.proofs.asking.answer.Goals as goal

pub returns-in-Some : goal.returns-in-Some
returns-in-Some c =
    rw (sym c.program.ensures) (
    let code = c.program.result.now.code.now in
    let lowered = c.program.result.now.parts in
    let v = view_in c.args.memory.now in
    asks_end code lowered v (rw c.program.ensures c.requires) (input_of c.args.text.now) c.in-Some.ended
    (finish_of c.end_of.result) c.end_of.ensures
    ∙ ap (λ o. Some (ask (code_program code) (run_state code lowered (input_of c.args.text.now) v o)))
    (sym c.in-Some.is))

pub index-requires : goal.index-requires
index-requires c = search (rules, place_low)

pub returns : goal.returns
returns c =
    let v = view_in c.args.memory.now in
    let low = place_low c.args.lowered.now.code.now c.args.lowered.now.parts v c.requires in
    c.asked_at.ensures
    ∙ ap Some (asks_status c.args.lowered.now.code.now c.args.lowered.now.parts v c.requires (input_of c.args.text.now)
    c.index.result.now c.args.end c.in_default.is
    (c.index.ensures ∙ get_or_default_zero v.statuses v.place c.index.result.now low))
