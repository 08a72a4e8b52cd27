use Rattle.std.proofs.Common.{◌≡◌, ◌++◌, ◌∷◌, ◌∙◌, List, [], All, Bor, ap, refl, rules, subst, sym}
use Rattle.std.proofs.lemmas.List.{map-append}
use Rattle.std.proofs.lemmas.List.Elements.{All-nil, All-push}
use Rattle.clap.specs.Walk.{texts}
use Rattle.clap.specs.Words.{Text}
use Rattle.ick_c.specs.Arguments.{IsArgument, ended}
use Rattle.ick_c.proofs.ArgumentLemmas.{all_held, ended_more, further_held, is_none, is_some, none_held}
use Rattle.ick_c.proofs.arguments.list_of.Goals as goal

pub unreachable-requires : goal.unreachable-requires
unreachable-requires c =
    let further = c.loop-rest.invariant.further in
    none_held c.loop-rest.rest.now (is_some c.loop-rest.rest.now (cc)) (c.in_default.ensures.none refl) further.0
    further.1

pub loop-rest-init : goal.loop-rest-init
unfolding ended
loop-rest-init c =
    let none : c.new-list.result.items ≡ [] = search rules in
    record {
      whole = subst (λ (l : List (Bor Text)). ended (texts l) ++ c.args.bytes.now ≡ c.args.bytes.now) (sym none) refl;
      each = subst (λ (l : List (Bor Text)). All IsArgument (texts l)) (sym none) (All-nil IsArgument);
      further = c.requires;
    }

pub loop-rest-preserved : goal.loop-rest-preserved
loop-rest-preserved c =
    let i = c.loop-rest.invariant in
    let found = c.in-Some.ensures in
    let list = texts c.loop-rest.list.items in
    let items : c.push.new.self.items ≡ c.loop-rest.list.items ++ (c.in-Some.argument ∷ []) = search rules in
    let pushed : texts c.push.new.self.items ≡ list ++ (c.in-Some.argument.now ∷ []) =
    ap texts items ∙ map-append (λ (s : Bor Text). s.now) c.loop-rest.list.items (c.in-Some.argument ∷ []) in
    record {
      whole = subst (λ (l : List Text). ended l ++ c.in-Some.behind.now ≡ c.args.bytes.now) (sym pushed)
          (ended_more list _ _ ∙ ap (λ l. ended list ++ l) found.whole ∙ i.whole);
      each = subst (All IsArgument) (sym pushed) (All-push IsArgument list _ i.each found.argument);
      further = further_held _ _ _ found.whole found.argument i.further.0 i.further.1;
    }

pub returns : goal.returns
returns c =
    let i = c.loop-rest.invariant in
    all_held (texts c.loop-rest.list.items) c.loop-rest.rest.now c.args.bytes.now
    (is_none c.loop-rest.rest.now (cc)) i.each i.whole
