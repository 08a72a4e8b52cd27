use Rattle.std.proofs.Common.{[], subst, sym}
use Rattle.ick_source.specs.BodyGrammar.{gerunds, second}
use Rattle.ick_places.specs.Walks.{Walks}
use Rattle.ick_places.proofs.BodyWalks.{walks_found, walks_unfound}
use Rattle.ick_places.proofs.WalkLemmas.{walks_yields, walks_made}
use Rattle.ick_places.proofs.walker.Walker.gerund_words.Goals as goal

pub returns-in_default : goal.returns-in_default
unfolding gerunds
returns-in_default c = let e = c.in_default.ensures in walks_unfound _ _ _ _ _ e.keeps e.finds

pub returns-in_default-second_word : goal.returns-in_default-second_word
unfolding gerunds
returns-in_default-second_word c =
    let e = c.in-Some.ensures in
    let now = c.first_word.new.self in
    let g = c.in-Some.gerund in
    walks_found _ _ _ now now g [] e.keeps e.same e.finds
    (subst (λ z. Walks (second g z) now now []) (sym c.in_default-second_word.ensures) (walks_yields g now))

pub returns : goal.returns
unfolding gerunds
returns c =
    let e = c.in-Some.ensures in
    let now = c.first_word.new.self in
    let new = c.passes.new.self in
    let g = c.in-Some.gerund in
    walks_found _ _ _ now new g [] e.keeps e.same e.finds
    (subst (λ z. Walks (second g z) now new []) (sym c.in-Some-second_word.ensures)
    (walks_made _ (λ w. g) now new [] c.passes.ensures.walks))
