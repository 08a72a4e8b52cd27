use Rattle.std.proofs.Common.{Some, refl, sym, ap, ◌∙◌}
use Rattle.ick_syntax.specs.BodyTree.{forget, resume, stash, retrieve, ignore, remember, abstain_label, abstain_kinds}
use Rattle.ick_syntax.specs.BodyTree.{reinstate_label, reinstate_kinds, give_up, write_in, read_out}
use Rattle.ick_source.proofs.CursorLemmas.{does_by, does_decided, does_look, does_yield, reads_made}
use Rattle.ick_source.proofs.GrammarShorter.{gerunds-shorten, items-shorten, names-shorten, places-shorten}
use Rattle.ick_source.proofs.ListReadings.{map_same, no_faults_along}
use Rattle.ick_source.proofs.cursor.Cursor.action.Goals as goal

pub list-requires : goal.list-requires
list-requires c = names-shorten

pub list-requires-in-Retrieve : goal.list-requires-in-Retrieve
list-requires-in-Retrieve c = names-shorten

pub list-requires-in-Ignore : goal.list-requires-in-Ignore
list-requires-in-Ignore c = names-shorten

pub list-requires-in-Remember : goal.list-requires-in-Remember
list-requires-in-Remember c = names-shorten

pub list-requires-else-sees : goal.list-requires-else-sees
list-requires-else-sees c = gerunds-shorten

pub list-requires-else-sees-2 : goal.list-requires-else-sees-2
list-requires-else-sees-2 c = gerunds-shorten

pub list-requires-in-Write : goal.list-requires-in-Write
list-requires-in-Write c = places-shorten

pub list-requires-in-Read : goal.list-requires-in-Read
list-requires-in-Read c = items-shorten

pub returns-in-Forget : goal.returns-in-Forget
returns-in-Forget c =
    rw c.in-Forget.is
    (reads_made _ _ _ _ _ forget _ c.whole.ensures (λ x e. ap (λ v. Some (forget v)) e) (λ x. refl))

pub returns-in-Resume : goal.returns-in-Resume
returns-in-Resume c =
    rw c.in-Resume.is
    (reads_made _ _ _ _ _ resume _ c.whole-in-Resume.ensures (λ x e. ap (λ v. Some (resume v)) e) (λ x. refl))

pub returns-in-Stash : goal.returns-in-Stash
returns-in-Stash c =
    rw c.in-Stash.is
    (reads_made _ _ _ _ _ stash _ c.list.ensures (λ x e. ap (λ v. Some (stash v)) (sym (map_same _) ∙ e)) (λ x. refl))

pub returns-in-Retrieve : goal.returns-in-Retrieve
returns-in-Retrieve c =
    rw c.in-Retrieve.is
    (reads_made _ _ _ _ _ retrieve _ c.list-in-Retrieve.ensures (λ x e. ap (λ v. Some (retrieve v)) (sym (map_same _) ∙ e)) (λ x. refl))

pub returns-in-Ignore : goal.returns-in-Ignore
returns-in-Ignore c =
    rw c.in-Ignore.is
    (reads_made _ _ _ _ _ ignore _ c.list-in-Ignore.ensures (λ x e. ap (λ v. Some (ignore v)) (sym (map_same _) ∙ e)) (λ x. refl))

pub returns-in-Remember : goal.returns-in-Remember
returns-in-Remember c =
    rw c.in-Remember.is
    (reads_made _ _ _ _ _ remember _ c.list-in-Remember.ensures (λ x e. ap (λ v. Some (remember v)) (sym (map_same _) ∙ e)) (λ x. refl))

pub returns-in-Write : goal.returns-in-Write
returns-in-Write c =
    rw c.in-Write.is
    (does_decided _ _ _ _ _ _ _ c.expect-in-Write.ensures c.list-in-Write.ensures.stays
    (reads_made _ _ _ _ _ write_in _ c.list-in-Write.ensures (λ x e. ap (λ v. Some (write_in v)) e) (λ x. refl)))

pub returns-in-Read : goal.returns-in-Read
returns-in-Read c =
    rw c.in-Read.is
    (does_decided _ _ _ _ _ _ _ c.expect-in-Read.ensures c.list-in-Read.ensures.stays
    (reads_made _ _ _ _ _ read_out _ c.list-in-Read.ensures (λ x e. ap (λ v. Some (read_out v)) e) (λ x. refl)))

pub returns-in-Give : goal.returns-in-Give
returns-in-Give c =
    rw c.in-Give.is
    (does_decided _ _ _ _ _ _ _ c.expect-in-Give.ensures (λ u e. e)
    (does_yield _ give_up _ (record { is_clamped = refl; is_faults = refl })))

pub returns-then-sees : goal.returns-then-sees
returns-then-sees c =
    let label = c.label.ensures in
    rw c.in-Abstain.is
    (does_decided _ _ _ _ _ _ _ c.expect.ensures label.stays
    (does_by _ _ _ _ _ _ _ _ (does_look _ _ _ c.sees.ensures) c.if-sees.true label.stays
    (reads_made _ _ _ _ _ abstain_label _ label (λ x e. ap (λ v. Some (abstain_label v)) e) (λ x. refl))))

pub returns-else-sees : goal.returns-else-sees
returns-else-sees c =
    let list = c.list-else-sees.ensures in
    rw c.in-Abstain.is
    (does_decided _ _ _ _ _ _ _ c.expect.ensures list.stays
    (does_by _ _ _ _ _ _ _ _ (does_look _ _ _ c.sees.ensures) c.if-sees.false list.stays
    (reads_made _ _ _ _ _ abstain_kinds _ list
    (λ x e. ap (λ v. Some (abstain_kinds v)) (sym (map_same _) ∙ e ∙ map_same x)) no_faults_along)))

pub returns-then-sees-2 : goal.returns-then-sees-2
returns-then-sees-2 c =
    let label = c.label-then-sees-2.ensures in
    rw c.in-Reinstate.is
    (does_by _ _ _ _ _ _ _ _ (does_look _ _ _ c.sees-in-Reinstate.ensures) c.if-sees-2.true label.stays
    (reads_made _ _ _ _ _ reinstate_label _ label (λ x e. ap (λ v. Some (reinstate_label v)) e) (λ x. refl)))

pub returns-else-sees-2 : goal.returns-else-sees-2
returns-else-sees-2 c =
    let list = c.list-else-sees-2.ensures in
    rw c.in-Reinstate.is
    (does_by _ _ _ _ _ _ _ _ (does_look _ _ _ c.sees-in-Reinstate.ensures) c.if-sees-2.false list.stays
    (reads_made _ _ _ _ _ reinstate_kinds _ list
    (λ x e. ap (λ v. Some (reinstate_kinds v)) (sym (map_same _) ∙ e ∙ map_same x)) no_faults_along))
