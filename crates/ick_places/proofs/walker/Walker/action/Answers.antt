use Rattle.std.proofs.Common.{sym, subst}
use Rattle.std.specs.Prelude.{codes}
use Rattle.ick_source.specs.BodyGrammar.{after}
use Rattle.ick_syntax.specs.BodyTree.{give_up}
use Rattle.ick_places.specs.declared.body.Member.TheVariants.{Place, Item}
use Rattle.ick_places.specs.Bodies.{after_marks, is_ahead, list_marks, switch_marks}
use Rattle.ick_places.specs.Walks.{Walks, left}
use Rattle.ick_places.proofs.BodyWalks.{walks_give, walks_word_body}
use Rattle.ick_places.proofs.WalkLemmas.{walks_made}
use Rattle.ick_source.specs.Position.{left_at}
use Rattle.ick_places.proofs.walker.Walker.action.Goals as goal

pub returns-in-Forget : goal.returns-in-Forget
returns-in-Forget c =
    let old = c.args.self.now in
    subst (λ z. Walks (after z) old c.counted.new.self
    (after_marks old.text.now z (left_at old.text.now c.args.from) (left old))) (sym c.in-Forget.is)
    (walks_made _ _ _ _ _ c.counted.ensures)

pub returns-in-Resume : goal.returns-in-Resume
returns-in-Resume c =
    let old = c.args.self.now in
    subst (λ z. Walks (after z) old c.counted-in-Resume.new.self
    (after_marks old.text.now z (left_at old.text.now c.args.from) (left old))) (sym c.in-Resume.is)
    (walks_made _ _ _ _ _ c.counted-in-Resume.ensures)

pub returns-in-Stash : goal.returns-in-Stash
returns-in-Stash c =
    let old = c.args.self.now in
    subst (λ z. Walks (after z) old c.list.new.self
    (after_marks old.text.now z (left_at old.text.now c.args.from) (left old))) (sym c.in-Stash.is)
    (walks_made _ _ _ _ _ c.list.ensures)

pub returns-in-Retrieve : goal.returns-in-Retrieve
returns-in-Retrieve c =
    let old = c.args.self.now in
    subst (λ z. Walks (after z) old c.list-in-Retrieve.new.self
    (after_marks old.text.now z (left_at old.text.now c.args.from) (left old))) (sym c.in-Retrieve.is)
    (walks_made _ _ _ _ _ c.list-in-Retrieve.ensures)

pub returns-in-Ignore : goal.returns-in-Ignore
returns-in-Ignore c =
    let old = c.args.self.now in
    subst (λ z. Walks (after z) old c.list-in-Ignore.new.self
    (after_marks old.text.now z (left_at old.text.now c.args.from) (left old))) (sym c.in-Ignore.is)
    (walks_made _ _ _ _ _ c.list-in-Ignore.ensures)

pub returns-in-Remember : goal.returns-in-Remember
returns-in-Remember c =
    let old = c.args.self.now in
    subst (λ z. Walks (after z) old c.list-in-Remember.new.self
    (after_marks old.text.now z (left_at old.text.now c.args.from) (left old))) (sym c.in-Remember.is)
    (walks_made _ _ _ _ _ c.list-in-Remember.ensures)

pub returns-in-Abstain : goal.returns-in-Abstain
returns-in-Abstain c =
    let old = c.args.self.now in
    subst (λ z. Walks (after z) old c.switch.new.self
    (after_marks old.text.now z (left_at old.text.now c.args.from) (left old))) (sym c.in-Abstain.is)
    (walks_word_body (codes "FROM") _ _ _ _ c.args.from
    (λ text from here. switch_marks text (is_ahead (codes "(") here) from here) c.passes.ensures.walks c.switch.ensures.abstains)

pub returns-in-Reinstate : goal.returns-in-Reinstate
returns-in-Reinstate c =
    let old = c.args.self.now in
    subst (λ z. Walks (after z) old c.switch-in-Reinstate.new.self
    (after_marks old.text.now z (left_at old.text.now c.args.from) (left old))) (sym c.in-Reinstate.is)
    (c.switch-in-Reinstate.ensures.reinstates)

pub returns-in-Give : goal.returns-in-Give
returns-in-Give c =
    let old = c.args.self.now in
    subst (λ z. Walks (after z) old c.mark.new.self
    (after_marks old.text.now z (left_at old.text.now c.args.from) (left old))) (sym c.in-Give.is)
    (walks_give _ _ _ c.args.from c.passes-in-Give.ensures.walks c.mark.ensures give_up)

pub returns-in-Write : goal.returns-in-Write
returns-in-Write c =
    let old = c.args.self.now in
    subst (λ z. Walks (after z) old c.list-in-Write.new.self
    (after_marks old.text.now z (left_at old.text.now c.args.from) (left old))) (sym c.in-Write.is)
    (walks_word_body (codes "IN") _ _ _ _ c.args.from (λ text from here. list_marks text Place (codes "+") here)
    c.passes-in-Write.ensures.walks (walks_made _ _ _ _ _ c.list-in-Write.ensures))

pub returns-in-Read : goal.returns-in-Read
returns-in-Read c =
    let old = c.args.self.now in
    subst (λ z. Walks (after z) old c.list-in-Read.new.self
    (after_marks old.text.now z (left_at old.text.now c.args.from) (left old))) (sym c.in-Read.is)
    (walks_word_body (codes "OUT") _ _ _ _ c.args.from (λ text from here. list_marks text Item (codes "+") here)
    c.passes-in-Read.ensures.walks (walks_made _ _ _ _ _ c.list-in-Read.ensures))
