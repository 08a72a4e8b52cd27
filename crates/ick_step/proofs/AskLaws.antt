-- What the answer of a machine says of a choice.
use Rattle.std.proofs.Common.{◌≡◌, ℕ, Bool, true, false, Some, refl, ap, sym, subst}
use Rattle.ick_code.specs.meaning.Move.{Asking, plain, choice, ended}
use Rattle.ick_backtrack.specs.Asked.{Finish, finished, at_limit, finish_of, asked_at_end, asked_of}
use Rattle.ick_backtrack.specs.declared.asking.Ask.{Ask}
use Rattle.ick_backtrack.specs.declared.asking.Ask.TheVariants.{Plain, Choice, Ended}
use Rattle.ick_step.specs.History.{Answers, asks_choice}

pub asks_one : (asked : Ask) (k : ℕ) (q : Asking) → asked ≡ Choice k → asked_of asked ≡ Some q → q ≡ choice k
asks_one asked k q is h = cc

pub choice_asked : (asked : Ask) (k : ℕ) (q : Asking) → asked ≡ Choice k → asked_of asked ≡ Some q →
    true ≡ asks_choice q
choice_asked asked k q is h = sym (ap asks_choice (asks_one asked k q is h))

pub choice_answered : (asked : Ask) (k : ℕ) (q : Asking) (b : Bool) → asked ≡ Choice k → asked_of asked ≡ Some q →
    Answers q (Some b)
choice_answered asked k q b is h = subst (λ x. Answers x (Some b)) (sym (asks_one asked k q is h)) tt

at_end : (f : Finish) (q : Asking) → asked_at_end f ≡ Some q → false ≡ asks_choice q
at_end (finished e) q h = let is : ended e ≡ q = cc in ap asks_choice is
at_end at_limit q h = absurd (cc)

pub no_choice : (asked : Ask) (q : Asking) → ((k : ℕ) → asked ≡ Choice k → ⊥) → asked_of asked ≡ Some q →
    false ≡ asks_choice q
no_choice Plain q never h = let is : plain ≡ q = cc in ap asks_choice is
no_choice (Choice k) q never h = absurd (never k refl)
no_choice (Ended e) q never h = at_end (finish_of e) q h
