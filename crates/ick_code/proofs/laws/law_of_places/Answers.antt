use Rattle.ick_code.proofs.Leads.{advance_leads, first_within}
use Rattle.ick_code.proofs.laws.law_of_places.Goals as goal

pub returns : goal.returns
returns c = record {
  first = first_within;
  kept = λ program s chosen. (advance_leads program s chosen).within;
}
