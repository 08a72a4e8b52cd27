use Rattle.std.proofs.Common.{◌++◌, ◌∷◌, ◌∙◌, [], ap, refl}
use Rattle.std.proofs.lemmas.List.Elements.{All-nil, All-push}
use Rattle.ick_c.specs.Arguments.{IsArgument, ended}
use Rattle.ick_c.proofs.ArgumentLemmas.{all_held, ended_more, further_held, is_none, is_some, none_held}
use Rattle.ick_c.proofs.arguments.has_arguments.Goals as goal

pub loop-rest-init : goal.loop-rest-init
unfolding ended
loop-rest-init c = record {
  front = ([], All-nil IsArgument, refl);
  further = λ arguments held. (arguments, held);
}

pub loop-rest-preserved : goal.loop-rest-preserved
loop-rest-preserved c =
    let i = c.loop-rest.invariant in
    let found = c.in-Some.ensures in
    record {
      front = (
        i.front.0 ++ (_ ∷ []),
        All-push IsArgument i.front.0 _ i.front.1 found.argument,
        ended_more i.front.0 _ _ ∙ ap (λ l. ended i.front.0 ++ l) found.whole ∙ i.front.2,
      );
      further = λ arguments held. let rest = i.further arguments held in
          further_held _ _ _ found.whole found.argument rest.0 rest.1;
    }

pub returns-in_default-clause-none : goal.returns-in_default-clause-none
returns-in_default-clause-none c = λ e arguments held.
    let rest = c.loop-rest.invariant.further arguments held in
    none_held c.loop-rest.rest.now (is_some c.loop-rest.rest.now (cc)) (c.in_default.ensures.none refl) rest.0
    rest.1

pub returns-clause-some : goal.returns-clause-some
returns-clause-some c = λ e.
    let front = c.loop-rest.invariant.front in (
      front.0,
      all_held front.0 c.loop-rest.rest.now c.args.bytes.now (is_none c.loop-rest.rest.now (cc)) front.1
          front.2,
    )
