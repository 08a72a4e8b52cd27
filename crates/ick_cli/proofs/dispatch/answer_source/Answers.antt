use Rattle.std.proofs.Common.{refl}
use Rattle.ick_source.specs.Listing.{listing}
use Rattle.ick_syntax.specs.Programs.{trees_of}
use Rattle.ick_code.specs.Compiled.{code_program}
use Rattle.ick_cli.specs.Summary.{summary}
use Rattle.ick_job.specs.Answer.{shown}
use Rattle.ick_cli.specs.declared.plan.Plan.TheVariants.{Check, List as ListStatements}
use Rattle.ick_cli.proofs.Works.{check_answer, list_answer, works_compiled, works_executed, works_refused, works_shown}
use Rattle.ick_cli.proofs.Works.{runs_read, works_without_memory}
use Rattle.ick_cli.proofs.dispatch.answer_source.Goals as goal

pub returns-in-Err-clause-answers : goal.returns-in-Err-clause-answers
returns-in-Err-clause-answers g c = record {
  works = works_refused c.args.plan.now _ _ c.in-Err.refusal c.refused.result _ _ _ _ _ c.in-Err.ensures.refused
      c.refused.ensures;
  reader_kept = λ none. refl;
}

pub returns-in-Check-clause-answers : goal.returns-in-Check-clause-answers
returns-in-Check-clause-answers g c =
    let trees = trees_of c.in-Ok.program in record {
      works = works_compiled c.args.plan.now _ _ trees c.in-Ok.ensures.compiles c.in-Ok.ensures.only
          c.in-Ok.ensures.not_refused
          (works_shown trees _ c.args.plan.now Check (shown (summary trees)) _ _ _ _ _ _ _ _ c.in-Check.is refl
          (check_answer trees _) c.answer_check.ensures.leaves c.answer_check.ensures.answer);
      reader_kept = λ none. refl;
    }

pub returns-in-List-clause-answers : goal.returns-in-List-clause-answers
returns-in-List-clause-answers g c =
    let trees = trees_of c.in-Ok.program in record {
      works = works_compiled c.args.plan.now _ _ trees c.in-Ok.ensures.compiles c.in-Ok.ensures.only
          c.in-Ok.ensures.not_refused
          (works_shown trees _ c.args.plan.now ListStatements (shown (listing trees)) _ _ _ _ _ _ _ _ c.in-List.is refl
          (list_answer trees _) c.answer_list.ensures.leaves c.answer_list.ensures.answer);
      reader_kept = λ none. refl;
    }

pub returns-in-Ok-compile-clause-answers : goal.returns-in-Ok-compile-clause-answers
returns-in-Ok-compile-clause-answers g c =
    let trees = trees_of c.in-Ok.program in record {
      works = works_compiled c.args.plan.now _ _ trees c.in-Ok.ensures.compiles c.in-Ok.ensures.only
          c.in-Ok.ensures.not_refused
          (works_executed trees (code_program c.in-Ok-compile.code) _ c.args.plan.now c.in-Execute.runs c.in-Execute.is
          c.in-Ok-compile.ensures.program_is c.answer_code.ensures.answers);
      reader_kept = λ none. absurd (runs_read c.args.plan.now c.in-Execute.runs c.in-Execute.is none);
    }

pub returns-clause-answers : goal.returns-clause-answers
returns-clause-answers g c = record { works = works_without_memory _ _ _ _ _ _; reader_kept = λ none. refl }
