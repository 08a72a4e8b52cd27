use Rattle.std.proofs.Common.{◌≡◌, ◌<◌, true, false, List, [], ◌∷◌, ◌++◌, length, Some, is_some}
use Rattle.std.proofs.Common.{Result, Ok, Err, IsOk}
use Rattle.std.proofs.Common.{is_ok, if◌then◌else◌, sym, ap, ◌∙◌, subst, arith, rules, nat_cmp}
use Rattle.std.specs.BTreeMap.{get, Updates}
use Rattle.std.specs.List.{IsDistinct, list_all}
use Rattle.ick_syntax.specs.declared.tree.Name.{Name}
use Rattle.ick_code.specs.meaning.State.{same_name}
use Rattle.ick_code.specs.Names.{found, rank_of, is_short}
use Rattle.ick_code.proofs.SlotLemmas.{few_names, once_more, short_more, indexed_more, among_indexed, with_present}
use Rattle.ick_code.proofs.SlotLemmas.{with_absent}
use Rattle.ick_code.proofs.names.Names.add.Goals as goal

pub returns-then-contains_key : goal.returns-then-contains_key
returns-then-contains_key c =
    let self = c.args.self.now in
    let has : is_some (get nat_cmp self.slots (rank_of c.args.name)) ≡ true =
    ap (λ r. is_some (get nat_cmp self.slots r)) (sym c.rank-rank.ensures) ∙ sym c.contains_key.ensures
    ∙ c.if-contains_key.true in
    with_present self.list.items c.args.name (among_indexed self.slots self.list.items c.args.name true self.index has)

pub overflow_cast-slot : goal.overflow_cast-slot
overflow_cast-slot c = let few = few_names _ c.args.self.now.once c.args.self.now.short in omega (arith, few)

pushed : {T E : Type 0} (r : Result T E) (items old : List Name) (name : Name) →
    items ≡ (if is_ok r then old ++ name ∷ [] else old) → IsOk r → items ≡ old ++ name ∷ []
pushed (Ok x) items old name h ok = h
pushed (Err e) items old name h ok = absurd (cc)

pub invariant_of-self-2 : goal.invariant_of-self-2
invariant_of-self-2 c =
    let self = c.args.self.now in
    let old = self.list.items in
    let name = c.args.name in
    let low : name.number < 65536 = search rules in
    let absent : is_some (get nat_cmp self.slots (rank_of name)) ≡ false =
    ap (λ r. is_some (get nat_cmp self.slots r)) (sym c.rank-rank.ensures) ∙ sym c.contains_key.ensures
    ∙ c.if-contains_key.false in
    let ok : IsOk c.push.result = search rules in
    let items : c.push.new.self.items ≡ old ++ name ∷ [] =
    pushed c.push.result c.push.new.self.items old name
    (subst (λ l. c.push.new.self.items ≡ (if is_ok c.push.result then l ++ name ∷ [] else l))
    c.reserve.ensures.items c.push.ensures.items) ok in
    let last : c.len-slot.result ≡ length old = search rules in
    let updates =
    subst (λ r. Updates nat_cmp self.slots c.insert.new.self r (Some c.len-slot.result)) c.rank-rank.ensures
    c.in_ok-insert.ensures.updates in
    record {
      index =
          λ q. indexed_more self.slots c.insert.new.self old name c.len-slot.result self.index absent last updates q
          ∙ ap (λ l. found l q) (sym items);
      once =
          subst (IsDistinct same_name) (sym items)
          (once_more old name self.once (among_indexed self.slots old name false self.index absent));
      short = ap (list_all is_short) items ∙ short_more old name self.short low;
    }

pub returns : goal.returns
returns c =
    let self = c.args.self.now in
    let absent : is_some (get nat_cmp self.slots (rank_of c.args.name)) ≡ false =
    ap (λ r. is_some (get nat_cmp self.slots r)) (sym c.rank-rank.ensures) ∙ sym c.contains_key.ensures
    ∙ c.if-contains_key.false in
    c.in-Ok.ensures.items ∙ ap (λ l. l ++ c.args.name ∷ []) c.reserve.ensures.items
    ∙ with_absent self.list.items c.args.name
    (among_indexed self.slots self.list.items c.args.name false self.index absent)
