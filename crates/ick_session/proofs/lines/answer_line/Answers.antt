use Rattle.std.proofs.Common.{◌++◌, ◌∙◌, [], ap, Some, subst}
use Rattle.ick_inspect.specs.Text.{Adds}
use Rattle.ick_session.specs.Commands.{order_of, verb_in}
use Rattle.ick_session.specs.Lines.{answered, no_command, quits, short_text, unknown_text, unread_text}
use Rattle.ick_session.specs.Session.{settings, seen}
use Rattle.ick_session.proofs.AnswerLaws.{blank_is, line_refused, no_order, none_left, not_quit, order_is, unknown_is}
use Rattle.ick_session.proofs.lines.answer_line.Goals as goal

pub returns-then-not-is_empty-clause-answers : goal.returns-then-not-is_empty-clause-answers
returns-then-not-is_empty-clause-answers c =
    let line = c.args.line.now in
    let word = c.next_word.result.0.now in (
      unknown_text line,
      no_command (no_order line c.read_command.result c.read_command.ensures
          (none_left c.read_command.result c.in_default.not-Some)),
      λ sound. c.append_unread.ensures.bytes sound
          ∙ (ap (λ l. l ++ unread_text word (verb_in word)) c.clear.ensures.empty
          ∙ unknown_is line word c.is_empty.result c.next_word.ensures.word c.is_empty.ensures c.if-not-is_empty.true),
    )

pub returns-else-not-is_empty-clause-answers : goal.returns-else-not-is_empty-clause-answers
returns-else-not-is_empty-clause-answers c =
    let line = c.args.line.now in (
      unknown_text line,
      no_command (no_order line c.read_command.result c.read_command.ensures
          (none_left c.read_command.result c.in_default.not-Some)),
      λ sound. c.clear.ensures.empty
          ∙ blank_is line c.next_word.result.0.now c.is_empty.result c.next_word.ensures.word c.is_empty.ensures
          c.if-not-is_empty.false,
    )

pub returns-in-Quit-clause-answers : goal.returns-in-Quit-clause-answers
returns-in-Quit-clause-answers c =
    let line = c.args.line.now in
    let order = order_is line c.read_command.result c.in-Some.command c.read_command.ensures c.in-Some.is in
    ([], quits (order ∙ ap (λ x. Some (order_of x)) c.in-Quit.is), λ sound. c.clear.ensures.empty)

pub returns-in-Ok-clause-answers : goal.returns-in-Ok-clause-answers
returns-in-Ok-clause-answers c =
    let line = c.args.line.now in
    let order = order_is line c.read_command.result c.in-Some.command c.read_command.ensures c.in-Some.is in
    let found = c.in-Ok.ensures.answers in (
      found.0,
      answered (order_of c.in-Some.command) (settings c.answer.new.self) (seen c.answer.new.self) found.0 order
          (not_quit c.in-Some.command c.in_default-command.not-Quit) c.answer.ensures.few found.1,
      λ sound. found.2.bytes sound ∙ ap (λ l. l ++ found.0) c.clear.ensures.empty,
    )

pub returns-in-Err-clause-answers : goal.returns-in-Err-clause-answers
returns-in-Err-clause-answers c =
    let line = c.args.line.now in
    let is = order_is line c.read_command.result c.in-Some.command c.read_command.ensures c.in-Some.is in
    line_refused (settings c.args.session.now) (settings c.answer.new.self) c.args.positions.now
    (seen c.args.session.now) (seen c.answer.new.self) line (order_of c.in-Some.command) c.in-Err.error
    c.clear-in-Err.new.self c.append_error.new.out is (not_quit c.in-Some.command c.in_default-command.not-Quit)
    c.answer.ensures.few c.in-Err.ensures.errors c.in-Err.ensures.short.0
    c.in-Err.ensures.short.1 c.append_error.ensures.full (λ e. subst (λ b. Adds c.clear-in-Err.new.self c.append_error.new.out
    (short_text b (seen c.answer.new.self))) c.moves.ensures (c.append_error.ensures.short e)) c.clear-in-Err.ensures.empty
