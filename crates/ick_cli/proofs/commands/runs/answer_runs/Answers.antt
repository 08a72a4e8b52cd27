use Rattle.std.proofs.Common.{arith, refl}
use Rattle.ick_code.specs.Compiled.{code_program}
use Rattle.ick_job.proofs.Ends.{leaves_as, where_answered, where_unread}
use Rattle.ick_cli.proofs.Executed.{answered_unread, listed_over}
use Rattle.ick_cli.proofs.Left.{listed_left}
use Rattle.ick_cli.proofs.commands.runs.answer_runs.Goals as goal

pub returns-in-Ok : goal.returns-in-Ok
returns-in-Ok g c = record {
  leaves = leaves_as _ 0 0 0 0 _ _ 0 0 _ _ _ _ c.list_over.ensures.leaves refl
      (omega (arith, c.in-Ok.ensures.count)) refl;
  left = λ reader_told.
      where_answered _ _ (listed_left (code_program c.args.code.now) (g.R.ByteSource.left c.args.reader.now)
      c.args.from.now c.args.count c.args.limit _ (c.in-Ok.ensures.rest reader_told));
  answer = λ reader_told writer_told answer is.
      c.list_over.ensures.answer writer_told answer
      (listed_over (code_program c.args.code.now) _ c.in-Ok.input.items _ c.args.from.now c.args.count c.args.limit
      answer c.as_slice.ensures.value (c.in-Ok.ensures.whole reader_told) c.in-Ok.ensures.fits is);
}

pub returns-in-Err : goal.returns-in-Err
returns-in-Err g c = record {
  leaves = leaves_as _ 0 0 _ _ 0 0 0 0 _ _ _ _ c.in-Err.ensures.leaves refl (omega arith) (omega arith);
  left = λ reader_told. where_unread _ _ _ (c.in-Err.ensures.unread reader_told);
  answer = λ reader_told writer_told.
      answered_unread (code_program c.args.code.now) _ c.args.from.now c.args.count c.args.limit _ _
      (c.in-Err.ensures.unread reader_told);
}
