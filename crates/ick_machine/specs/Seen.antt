-- What contracts see of the machines with marks.
use Rattle.std.specs.Prelude.{◌≡◌, ℕ, ◌+◌, ◌<◌, ◌≤◌, Bool, List, map, reverse}
use Rattle.std.specs.Prelude.{Option, Some, None, Result, IfOk, OnOk, OnErr, vec_len}
use Rattle.ick_bits.specs.declared.memory.NoMemory.{NoMemory}
use Rattle.ick_code.specs.meaning.Move.{advance}
use Rattle.ick_instructions.specs.declared.lowered.Lowered.{Lowered}
use Rattle.ick_runtime.specs.Inputs.{input_of}
use Rattle.ick_backtrack.specs.{Machine.Machine, Steps.HasRun, Steps.IsPlain, Steps.Rests, Steps.RunsOn}
use Rattle.ick_machine.specs.declared.trailed.Trailed.{Trailed}
use Rattle.ick_machine.specs.declared.copied.Copied.{Copied}
use Rattle.ick_machine.specs.Copies.{copied_state}
use Rattle.ick_machine.specs.Marks.{marked_in}
use Rattle.ick_machine.specs.RunIn.{program_of, state_in}

abbrev pub trailed_machine : Trailed → Machine
trailed_machine m = record {
  program = program_of m.lowered;
  state = state_in m.lowered (input_of m.input.now) m.memory m.end;
  marks = marked_in m.lowered.code.now m.lowered.parts (input_of m.input.now) m.trail m.memory (reverse m.marks.items);
  work = m.work;
}

-- what no step changes: the program with its instructions, the input, and how many marks there are
abbrev pub fixed_parts : Trailed → Lowered × List ℕ × ℕ
fixed_parts m = (m.lowered, m.input.now, vec_len m.marks)

-- the machine made steps. After an error its state is as before. Its marks stay
pub record IsWhole (limit : ℕ) (answer : Option Bool) (old new : Trailed) (result : Result ℕ NoMemory)
    : Type 0 where
  pub rest : trailed_machine new ≡ record (trailed_machine old) { state = (trailed_machine new).state }
  pub fixed : fixed_parts new ≡ fixed_parts old
  pub err : OnErr result ((trailed_machine new).state ≡ (trailed_machine old).state)
  pub within : IfOk result (λ made. made ≤ limit)
  pub moves : answer ≡ None → 0 < limit → IfOk result (λ made.
      IsPlain (trailed_machine new).program (trailed_machine new).state → 0 < made)
  pub runs : answer ≡ None → IfOk result (λ made. RunsOn IsPlain (trailed_machine old).program
      (trailed_machine old).state made (trailed_machine new).state)
  pub steps : (done : Bool) → answer ≡ Some done → limit ≡ 1 → old.end ≡ None → OnOk result
      ((trailed_machine new).state ≡ advance (trailed_machine old).program (trailed_machine old).state done)

-- the machine made one step and counted it, or nothing has changed. What no step changes stays
pub record HasMadeStep (done : Bool) (old new : Trailed) (result : Result (Unit {0}) NoMemory) : Type 0 where
  pub ok : let m = trailed_machine old in OnOk result
      (trailed_machine new ≡ record m { state = advance m.program m.state done; work = m.work + 1 })
  pub err : OnErr result (trailed_machine new ≡ trailed_machine old)
  pub fixed : fixed_parts new ≡ fixed_parts old

-- the machine made steps and counted them until it rests, or fewer if memory ran out. What no step changes stays
pub record HasMadeSteps (limit : ℕ) (old new : Trailed) (result : Result ℕ NoMemory) : Type 0 where
  pub ok : IfOk result (λ k. HasRun (trailed_machine old) k (trailed_machine new))
  pub err : OnErr result ((k : ℕ) × (k < limit) × HasRun (trailed_machine old) k (trailed_machine new))
  pub within : IfOk result (λ k. k ≤ limit)
  pub rests : IfOk result (λ k. Rests IsPlain (trailed_machine new).program limit k (trailed_machine new).state)
  pub fixed : fixed_parts new ≡ fixed_parts old

abbrev pub copied_machine : Copied → Machine
copied_machine m = record (trailed_machine m.machine) {
  marks = map (copied_state m.machine.lowered.code.now m.machine.lowered.parts (input_of m.machine.input.now))
      m.copies.items;
}
