use Rattle.std.proofs.Common.{◌≡◌, ◌∙◌, ◌==◌, false, length, sym, true}
use Rattle.ick_step.specs.Seen.{present}
use Rattle.ick_step.specs.Histories.{history}
use Rattle.ick_session.specs.Commands.{words_of}
use Rattle.ick_session.proofs.PrintLaws.{lines, prints_end, prints_name, prints_other, prints_over}
use Rattle.ick_session.proofs.session.Session.append_names.Goals.{in-Some, in-None}
use Rattle.ick_session.proofs.session.Session.append_names.Goals as goal

pub returns-then-is_empty : goal.returns-then-is_empty
returns-then-is_empty c =
    let s = present (history c.args.self.now.history) in
    let text = c.args.names.now in
    let none : (length c.next_word.result.0.now == 0) ≡ true = sym c.is_empty.ensures ∙ c.if-is_empty.true in
    prints_end s (length text) c.loop-at._at c.loop-at.rest.now c.next_word.result.0.now (lines s (words_of text))
    c.args.out.now c.loop-at.out c.loop-at-test.true c.next_word.ensures.word none c.loop-at.invariant

pub loop-at-preserved : goal.loop-at-preserved
loop-at-preserved c =
    let s = present (history c.args.self.now.history) in
    let text = c.args.names.now in
    let some : (length c.next_word.result.0.now == 0) ≡ false = sym c.is_empty.ensures ∙ c.if-is_empty.false in
    elim c.match-name_of.branch [
      | in-Some w ↦
          rw w.out-is (prints_name s (length text) c.loop-at._at c.loop-at.rest.now c.next_word.result.0.now
          (lines s (words_of text)) c.next_word.result.1.now w.in-Some.name c.args.out.now c.loop-at.out
          w.append_name.new.out c.loop-at-test.true c.next_word.ensures.word c.next_word.ensures.rest some
          (sym w.in-Some.is ∙ c.name_of.ensures) c.loop-at.invariant w.append_name.ensures)
      | in-None w ↦
          rw w.out-is (prints_other s (length text) c.loop-at._at c.loop-at.rest.now c.next_word.result.0.now
          (lines s (words_of text)) c.next_word.result.1.now c.args.out.now c.loop-at.out c.loop-at-test.true
          c.next_word.ensures.word c.next_word.ensures.rest some (sym w.in-None.is ∙ c.name_of.ensures)
          c.loop-at.invariant)
    ]

pub returns : goal.returns
returns c =
    let s = present (history c.args.self.now.history) in
    let text = c.args.names.now in
    prints_over s (length text) c.loop-at._at c.loop-at.rest.now (lines s (words_of text)) c.args.out.now c.loop-at.out
    c.loop-at-test.false c.loop-at.invariant
