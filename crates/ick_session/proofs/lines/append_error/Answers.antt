use Rattle.ick_session.proofs.lines.append_error.Goals as goal

pub returns-in_default : goal.returns-in_default
returns-in_default c = record {
  full = λ e. absurd (c.in_default.not-WorkFull e);
  short = λ _. c.append_short.ensures;
}
