-- When two names are one.
use Rattle.std.proofs.Common.{◌≡◌, ℕ, ◌<◌, ◌==◌, true, ◌&&◌, refl, ap, ◌∙◌, arith, eq-eqb}
use Rattle.std.proofs.lemmas.Bool.{eqb-true}
use Rattle.ick_syntax.specs.declared.tree.Name.{Name}
use Rattle.ick_syntax.specs.declared.tree.NameKind.{NameKind}
use Rattle.ick_syntax.specs.declared.tree.NameKind.TheVariants.{Onespot, Twospot, Tail, Hybrid}
use Rattle.ick_code.specs.meaning.State.{same_kind, same_name}
use Rattle.ick_code.specs.Names.{kind_rank, rank_of}
use Rattle.ick_code.proofs.Bools.{both_left, both_right}

same_kind-refl : (k : NameKind) → same_kind k k ≡ true
same_kind-refl Onespot = refl
same_kind-refl Twospot = refl
same_kind-refl Tail = refl
same_kind-refl Hybrid = refl

pub same_name-refl : (name : Name) → same_name name name ≡ true
same_name-refl name =
    ap (λ b. b && (name.number == name.number)) (same_kind-refl name.kind) ∙ eq-eqb name.number name.number refl

same_kind_is : (a b : NameKind) → same_kind a b ≡ true → a ≡ b
same_kind_is Onespot Onespot h = refl
same_kind_is Onespot Twospot h = absurd (cc)
same_kind_is Onespot Tail h = absurd (cc)
same_kind_is Onespot Hybrid h = absurd (cc)
same_kind_is Twospot Onespot h = absurd (cc)
same_kind_is Twospot Twospot h = refl
same_kind_is Twospot Tail h = absurd (cc)
same_kind_is Twospot Hybrid h = absurd (cc)
same_kind_is Tail Onespot h = absurd (cc)
same_kind_is Tail Twospot h = absurd (cc)
same_kind_is Tail Tail h = refl
same_kind_is Tail Hybrid h = absurd (cc)
same_kind_is Hybrid Onespot h = absurd (cc)
same_kind_is Hybrid Twospot h = absurd (cc)
same_kind_is Hybrid Tail h = absurd (cc)
same_kind_is Hybrid Hybrid h = refl

name_is : (a b : Name) → a.kind ≡ b.kind → a.number ≡ b.number → a ≡ b
name_is a b k n =
    let put : NameKind → ℕ → Name = λ k n. record { kind = k; number = n } in
    ap (λ k. put k a.number) k ∙ ap (put b.kind) n

pub same_name_is : (a b : Name) → same_name a b ≡ true → a ≡ b
same_name_is a b h =
    name_is a b (same_kind_is a.kind b.kind (both_left (same_kind a.kind b.kind) (a.number == b.number) h))
    (eqb-true a.number b.number (both_right (same_kind a.kind b.kind) (a.number == b.number) h))

kind_ranks : (a b : NameKind) → kind_rank a ≡ kind_rank b → a ≡ b
kind_ranks Onespot Onespot h = refl
kind_ranks Onespot Twospot h = absurd (omega arith)
kind_ranks Onespot Tail h = absurd (omega arith)
kind_ranks Onespot Hybrid h = absurd (omega arith)
kind_ranks Twospot Onespot h = absurd (omega arith)
kind_ranks Twospot Twospot h = refl
kind_ranks Twospot Tail h = absurd (omega arith)
kind_ranks Twospot Hybrid h = absurd (omega arith)
kind_ranks Tail Onespot h = absurd (omega arith)
kind_ranks Tail Twospot h = absurd (omega arith)
kind_ranks Tail Tail h = refl
kind_ranks Tail Hybrid h = absurd (omega arith)
kind_ranks Hybrid Onespot h = absurd (omega arith)
kind_ranks Hybrid Twospot h = absurd (omega arith)
kind_ranks Hybrid Tail h = absurd (omega arith)
kind_ranks Hybrid Hybrid h = refl

pub kind_rank-below : (k : NameKind) → kind_rank k < 4
kind_rank-below Onespot = omega arith
kind_rank-below Twospot = omega arith
kind_rank-below Tail = omega arith
kind_rank-below Hybrid = omega arith

-- names of one rank are one
pub rank_is : (a b : Name) → rank_of a ≡ rank_of b → a ≡ b
rank_is a b h =
    let low = kind_rank-below a.kind in
    let low' = kind_rank-below b.kind in
    let n : a.number ≡ b.number = omega arith in
    name_is a b (kind_ranks a.kind b.kind (omega arith)) n
