use Rattle.std.proofs.Common.{inl, inr, refl, rules}
use Rattle.clap.specs.Walk.{texts}
use Rattle.ick_cli.specs.Job.{job_of}
use Rattle.ick_c.proofs.CallLemmas.{tool_from}
use Rattle.ick_c.proofs.call.serve_over_memory.Goals as goal

pub returns-clause-served : goal.returns-clause-served
returns-clause-served c = let call = c.serve.ensures in record {
  job = λ has_job.
      let did = (call.job has_job).done refl refl refl in (
        did.2.0,
        tool_from (job_of (texts c.args.arguments.now)) c.args.file.now _ c.args.input.now _ did.2.0 did.2.1
            (search rules) (search rules),
        (did.0, did.1, did.2.2, did.3),
      );
  no_job = λ faults. (call.no_job faults).either;
  usage = λ mistakes. (call.no_job mistakes.0).usage mistakes;
  help = λ requests. (call.no_job requests.0).help requests;
  said = call.said;
  failed = λ bad. elim bad [
    | inl less ↦ call.failed (inr (inr (inl less)))
    | inr less ↦ call.failed (inr (inr (inr less)))
  ];
}
