use Rattle.std.proofs.Common.{◌≡◌, ◌+◌, ◌-◌, ◌==◌, ◌&&◌, true, false, not, length, is_some, sym, ap, ap₂, ◌∙◌}
use Rattle.ick_session.specs.Commands.{all_named, first_word, name_in, words_from, words_of}
use Rattle.ick_session.proofs.WordLaws.{names_end, names_off, names_on}
use Rattle.ick_session.proofs.commands.has_names.Goals as goal

pub returns-then-is_empty-2 : goal.returns-then-is_empty-2
returns-then-is_empty-2 c =
    let text = c.args.text.now in
    let some : (length (first_word text) == 0) ≡ false =
    ap (λ w. length w == 0) (sym c.next_word.ensures.word) ∙ (sym c.is_empty.ensures ∙ c.if-is_empty.false) in
    let none : (length (first_word c.loop-at.rest.now) == 0) ≡ true =
    ap (λ w. length w == 0) (sym c.next_word-in-loop-at.ensures.word)
    ∙ (sym c.is_empty-in-loop-at.ensures ∙ c.if-is_empty-2.true) in
    let all : all_named (words_of text) ≡ true =
    c.loop-at.invariant ∙ names_end (length text) c.loop-at._at c.loop-at.rest.now c.loop-at-test.true none in
    sym (ap₂ (λ a b. not a && b) some all)

pub returns-then-is_none : goal.returns-then-is_none
returns-then-is_none c =
    let text = c.args.text.now in
    let some : (length (first_word text) == 0) ≡ false =
    ap (λ w. length w == 0) (sym c.next_word.ensures.word) ∙ (sym c.is_empty.ensures ∙ c.if-is_empty.false) in
    let more : (length (first_word c.loop-at.rest.now) == 0) ≡ false =
    ap (λ w. length w == 0) (sym c.next_word-in-loop-at.ensures.word)
    ∙ (sym c.is_empty-in-loop-at.ensures ∙ c.if-is_empty-2.false) in
    let unnamed : is_some (name_in (first_word c.loop-at.rest.now)) ≡ false =
    ap (λ w. is_some (name_in w)) (sym c.next_word-in-loop-at.ensures.word)
    ∙ (ap is_some (sym c.name_of.ensures) ∙ (c.is_none.ensures ∙ ap not c.if-is_none.true)) in
    let all : all_named (words_of text) ≡ false =
    c.loop-at.invariant ∙ names_off (length text) c.loop-at._at c.loop-at.rest.now c.loop-at-test.true more unnamed in
    sym (ap₂ (λ a b. not a && b) some all)

pub loop-at-preserved : goal.loop-at-preserved
loop-at-preserved c =
    let more : (length (first_word c.loop-at.rest.now) == 0) ≡ false =
    ap (λ w. length w == 0) (sym c.next_word-in-loop-at.ensures.word)
    ∙ (sym c.is_empty-in-loop-at.ensures ∙ c.if-is_empty-2.false) in
    let named : is_some (name_in (first_word c.loop-at.rest.now)) ≡ true =
    ap (λ w. is_some (name_in w)) (sym c.next_word-in-loop-at.ensures.word)
    ∙ (ap is_some (sym c.name_of.ensures) ∙ (c.is_none.ensures ∙ ap not c.if-is_none.false)) in
    let on = names_on (length c.args.text.now) c.loop-at._at c.loop-at.rest.now c.loop-at-test.true more named in
    c.loop-at.invariant
    ∙ (on
    ∙ ap (λ rest. all_named (words_from (length c.args.text.now - (c.loop-at._at + 1)) rest))
    (sym c.next_word-in-loop-at.ensures.rest))
