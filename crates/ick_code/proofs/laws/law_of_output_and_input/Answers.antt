use Rattle.ick_code.proofs.Frames.{advance_frame}
use Rattle.ick_code.proofs.Leads.{advance_leads}
use Rattle.ick_code.proofs.laws.law_of_output_and_input.Goals as goal

pub returns : goal.returns
returns c = record {
  apart = advance_frame;
  grows = λ program s chosen. (advance_leads program s chosen).grows;
  unwritten = λ program s chosen. (advance_leads program s chosen).unwritten;
  taken = λ program s chosen. (advance_leads program s chosen).taken;
  untaken = λ program s chosen. (advance_leads program s chosen).untaken;
}
