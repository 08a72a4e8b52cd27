use Rattle.ick_code.proofs.AskLaws.{chance_between, plain_same, ended_exactly, ask_same}
use Rattle.ick_code.proofs.laws.law_of_asking.Goals as goal

pub returns : goal.returns
returns c = record {
  chance = chance_between;
  plain = plain_same;
  ended = ended_exactly;
  rests = ask_same;
}
