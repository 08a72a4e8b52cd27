use Rattle.std.proofs.Common.{inl, inr, refl, rules}
use Rattle.clap.specs.Walk.{texts}
use Rattle.ick_outcomes_cli.specs.Job.{job_of}
use Rattle.ick_outcomes_cli.proofs.Showing.{served_unshown}
use Rattle.ick_c.proofs.OutcomesLemmas.{served_from}
use Rattle.ick_c.proofs.outcomes_call.outcomes_over_memory.Goals as goal

pub returns-clause-served : goal.returns-clause-served
returns-clause-served c = let call = served_unshown c.args.errors.now c.serve_outcomes.ensures refl in record {
  job = λ has_job.
      served_from (job_of (texts c.args.arguments.now)) c.args.file.now _ c.args.listing.now _ c.args.input.now _
      c.args.writer.now c.serve_outcomes.new.writer c.args.errors.now c.serve_outcomes.new.errors
      c.serve_outcomes.result ((call.job has_job).done refl refl refl) (search rules) (search rules) (search rules);
  no_job = λ faults. (call.no_job faults).either;
  usage = λ mistakes. (call.no_job mistakes.0).usage mistakes;
  help = λ requests. (call.no_job requests.0).help requests;
  said = call.said;
  failed = λ bad. elim bad [
    | inl less ↦ call.failed (inr (inr (inl less)))
    | inr less ↦ call.failed (inr (inr (inr less)))
  ];
}
