use Rattle.std.proofs.Common.{◌∙◌, ap, refl, subst, sym}
use Rattle.ick_session.specs.Answers.{StopsShort, changes_state, shown}
use Rattle.ick_session.specs.Commands.{moves, order_of}
use Rattle.ick_session.specs.Session.{settings, seen}
use Rattle.ick_session.proofs.AnswerLaws.{moved_answers, moves_else, refused_from, set_answers, set_same, short_err}
use Rattle.ick_session.proofs.AnswerLaws.{short_nowhere, shown_answers, some_of, still_answers}
use Rattle.ick_session.proofs.session.Session.answer.Goals as goal

pub returns-in_err-answer_shown-clause-short : goal.returns-in_err-answer_shown-clause-short
returns-in_err-answer_shown-clause-short c =
    let f = settings c.args.self.now in
    let s = seen c.args.self.now in
    let order = order_of c.args.command in short_err _ f f s s order refl (short_nowhere f s order)

pub returns-then-branch-clause-answers : goal.returns-then-branch-clause-answers
returns-then-branch-clause-answers c =
    let s = seen c.args.self.now in
    let positions = c.args.positions.now in
    let order = order_of c.args.command in
    let found = some_of (shown positions s order) (sym c.in_ok-answer_shown.ensures.is ∙ c.if-branch.true) in (
      found.0,
      changes_state s found.0 (shown_answers (settings c.args.self.now) positions s order found.0 found.1),
      c.in_ok-answer_shown.ensures.text found.0 found.1,
    )

pub returns-in_err-answer_breakpoint-clause-short : goal.returns-in_err-answer_breakpoint-clause-short
returns-in_err-answer_breakpoint-clause-short c =
    let f = settings c.args.self.now in
    let s = seen c.args.self.now in
    let order = order_of c.args.command in
    short_err _ f (settings c.answer_breakpoint.new.self) s (seen c.answer_breakpoint.new.self) order
    c.in_err-answer_breakpoint.ensures.refused
    (subst (λ t. StopsShort f s order t) (sym c.answer_breakpoint.ensures.seen) (short_nowhere f s order))

pub returns-then-branch-2-clause-fixed : goal.returns-then-branch-2-clause-fixed
returns-then-branch-2-clause-fixed c =
    let found = c.in_ok-answer_breakpoint.ensures.answers c.if-branch-2.true in
    set_same (settings c.args.self.now) (settings c.answer_breakpoint.new.self) c.args.positions.now
    (order_of c.args.command) found.0 found.1

pub returns-then-branch-2-clause-answers : goal.returns-then-branch-2-clause-answers
returns-then-branch-2-clause-answers c =
    set_answers (settings c.args.self.now) (settings c.answer_breakpoint.new.self) c.args.positions.now
    (seen c.args.self.now) (seen c.answer_breakpoint.new.self) (order_of c.args.command) c.args.out.now
    c.answer_shown.new.out c.answer_breakpoint.new.out c.answer_breakpoint.ensures.seen
    (c.in_ok-answer_shown.ensures.kept c.if-branch.false)
    (c.in_ok-answer_breakpoint.ensures.answers c.if-branch-2.true)

pub returns-clause-answers : goal.returns-clause-answers
returns-clause-answers c =
    let other = c.in_ok-answer_breakpoint.ensures.other c.if-branch-2.false in
    moved_answers (settings c.args.self.now) (settings c.answer_breakpoint.new.self) (settings c.answer_move.new.self)
    c.args.positions.now (seen c.args.self.now) (seen c.answer_breakpoint.new.self) (seen c.answer_move.new.self)
    (order_of c.args.command) c.args.out.now c.answer_breakpoint.new.out c.answer_move.new.out c.answer_move.result
    other.0 c.answer_move.ensures.fixed c.answer_breakpoint.ensures.seen
    (other.1 ∙ c.in_ok-answer_shown.ensures.kept c.if-branch.false) c.answer_move.ensures.answers

pub returns-clause-errors : goal.returns-clause-errors
returns-clause-errors c =
    let other = c.in_ok-answer_breakpoint.ensures.other c.if-branch-2.false in
    refused_from c.answer_move.result (moves (order_of c.args.command)) c.args.self.now.limit (seen c.args.self.now) (seen c.answer_breakpoint.new.self)
    (seen c.answer_move.new.self) c.answer_breakpoint.new.self.limit (ap (λ f. f.limit) other.0)
    c.answer_breakpoint.ensures.seen c.answer_move.ensures.errors c.answer_move.ensures.few
    (c.is_full.ensures.room c.if-is_full.false)

pub answer_move-requires-clause-moves : goal.answer_move-requires-clause-moves
answer_move-requires-clause-moves c =
    moves_else c.args.command c.args.positions.now (seen c.args.self.now)
    (sym c.in_ok-answer_shown.ensures.is ∙ c.if-branch.false)
    (c.in_ok-answer_breakpoint.ensures.other c.if-branch-2.false).2 c.in_default.not-Eval

pub returns-in-Eval-clause-answers : goal.returns-in-Eval-clause-answers
returns-in-Eval-clause-answers c =
    let other = c.in_ok-answer_breakpoint.ensures.other c.if-branch-2.false in
    still_answers (settings c.args.self.now) (settings c.answer_breakpoint.new.self) c.args.positions.now
    (seen c.args.self.now) (seen c.answer_breakpoint.new.self) (order_of c.args.command) c.in-Eval.text.now
    c.args.out.now c.answer_breakpoint.new.out c.answer_eval.new.out other.0 c.answer_breakpoint.ensures.seen
    (other.1 ∙ c.in_ok-answer_shown.ensures.kept c.if-branch.false) (ap order_of c.in-Eval.is)
    c.in_ok-answer_eval.ensures
