use Rattle.std.proofs.Common.{Bor, List, subst}
use Rattle.clap.specs.Walk.{texts}
use Rattle.clap.specs.Words.{Text}
use Rattle.ick_c.specs.StepCall.{ServesStep}
use Rattle.ick_c.proofs.CallLemmas.{not_read, read}
use Rattle.ick_c.proofs.StepLemmas.{no_step}
use Rattle.ick_c.proofs.step_call.answer_step.Goals as goal

pub returns-in-Ok-clause-served : goal.returns-in-Ok-clause-served
returns-in-Ok-clause-served c =
    read _ _ _ _ _ _ _ _ c.in-Ok.ensures.ok
    (subst (λ (l : List (Bor Text)). ServesStep (texts l) c.args.file.now c.args.input.now c.args.commands.now
    c.args.writer.now c.step_over_memory.new.writer c.args.errors.now c.step_over_memory.new.errors
    c.step_over_memory.result)
    c.as_slice.ensures.value c.step_over_memory.ensures.served)

pub returns-in-Err-clause-served : goal.returns-in-Err-clause-served
returns-in-Err-clause-served c =
    not_read _ _ _ _ _ c.in-Err.fault _ (λ e. c.in-Err.ensures.not_text (cc))
    (λ e. c.in-Err.ensures.no_memory (cc)) c.refuse_words.ensures
    (λ done arguments. no_step arguments c.args.file.now c.args.input.now c.args.commands.now c.args.writer.now
    c.args.errors.now c.refuse_words.new.errors c.refuse_words.result done)
