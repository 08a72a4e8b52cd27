-- The texts of places and ends.
use Rattle.std.proofs.Common.{◌≡◌, ℕ, ◌++◌, List, codes, ap, sym}
use Rattle.std.specs.Prelude.{Some, decimal}
use Rattle.ick_code.specs.meaning.State.{State}
use Rattle.ick_code.specs.meaning.Move.{ended, ask}
use Rattle.ick_backtrack.specs.Asked.{Finish, asked_at_end, finished, at_limit}
use Rattle.ick_backtrack.specs.Machine.{Program}
use Rattle.ick_inspect.specs.declared.positions.LineColumn.{LineColumn}
use Rattle.ick_session.specs.Shown.{asking_text, here_text, over_text}

pub some_is : {A : Type 0} (x y : A) → Some x ≡ Some y → y ≡ x
some_is x y e = cc

pub here_over : (p : Program) (positions : List LineColumn) (steps : ℕ) (s : State) (finish : Finish) →
    asked_at_end finish ≡ Some (ask p s) →
    decimal steps ++ codes " " ++ over_text p positions finish s ≡ here_text p positions steps s
here_over p positions steps s (finished e) h = ap (asking_text p positions steps s) (sym (some_is (ended e) (ask p s) h))
here_over p positions steps s at_limit h = absurd (cc)
