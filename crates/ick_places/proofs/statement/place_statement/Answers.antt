use Rattle.std.proofs.Common.{refl, sym, subst, ap, length, ◌+◌, ◌∙◌}
use Rattle.ick_places.specs.Statements.{AreBodyMarks, statement_marks}
use Rattle.ick_places.proofs.HeadLemmas.{head-starts}
use Rattle.ick_places.proofs.StatementLemmas.{marks_are}
use Rattle.ick_places.proofs.statement.place_statement.Goals as goal

pub returns-clause-placed : goal.returns-clause-placed
returns-clause-placed c to t s text same =
    let source = c.args.source.now in
    let at = c.args.at in
    let begin = c.in-Some.head.begin in
    let marks = c.in_ok-marks-2.marks.items in
    record {
      from = refl;
      to = ap (λ l. at + length l) (sym text);
      head = c.in-Some.head;
      head_is = refl;
      placed = c.in-Some.ensures;
      marks =
          marks_are _ _ _ to t c.in-Some.head _ c.in-Some.ensures s
          (subst (λ b. AreBodyMarks source at (at + length c.args.statement.now.text.now) begin b marks) (sym same) c.in_ok-marks-2.ensures)
          ∙ ap (λ l. statement_marks source at (at + length l) begin t.body) (sym text);
    }

pub returns-clause-front : goal.returns-clause-front
returns-clause-front c none = absurd (none (head-starts c.in-Some.ensures))
