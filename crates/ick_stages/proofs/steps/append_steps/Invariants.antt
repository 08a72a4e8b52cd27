use Rattle.std.proofs.Common.{length, take, ◌≡◌, ◌≤◌}
use Rattle.ick_lowering.proofs.Names.{code_program, code_slots, count_after, Extends, Gains, Reached}
use Rattle.ick_stages.specs.Steps.{HasSteps, made_of}
use Rattle.ick_stages.proofs.steps.append_steps.Given as goal

abbrev pub invariant-loop-op : goal.invariant-loop-op
invariant-loop-op l = record {
  reached : Reached (code_program l.code) (code_slots l.code) l.layout (take l.op-index l.ops) l.draft;
  used : l.draft.used ≤ l.op-index;
  count : length l.draft.stack.items ≡ count_after (take l.op-index l.ops) 0;
  subscripts : Extends l.fn.draft.subscripts.items l.draft.subscripts.items;
  constants : Gains l.op-index l.fn.draft.constants l.draft.constants;
  number : l.number ≡ l.op-index;
  steps : HasSteps (code_program l.code) (code_slots l.code) l.layout l.asked (take l.op-index l.ops) l.fn.draft l.draft
      l.fn.text l.text (made_of l.makers);
}
