-- What holds of each of three errors of a run holds of an error that is one of them.
use Rattle.std.proofs.Common.{◌≡◌, ◌⊎◌, inl, inr, subst, sym}
use Rattle.ick_explorer.specs.declared.errors.RunsError.{RunsError}

pub one_of_three : (P : RunsError → Type 0) (a b c e : RunsError) → P a → P b → P c →
    (e ≡ a) ⊎ ((e ≡ b) ⊎ (e ≡ c)) → P e
one_of_three P a b c e x y z (inl is) = subst P (sym is) x
one_of_three P a b c e x y z (inr (inl is)) = subst P (sym is) y
one_of_three P a b c e x y z (inr (inr is)) = subst P (sym is) z
