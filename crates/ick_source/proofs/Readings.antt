-- From what stands at a position to what is found there.
use Rattle.std.proofs.Common.{◌≡◌, ℕ, min, List, Option, Some, None, refl, ap}
use Rattle.ick_syntax.specs.declared.tree.UnaryOp.{UnaryOp}
use Rattle.ick_source.specs.declared.lead.Lead.{Lead}
use Rattle.ick_source.specs.declared.lead.Lead.TheVariants.{Spot, Array, Hash, Group, Unary, Binary, Other}
use Rattle.ick_source.specs.declared.cursor.Sort.{Sort}
use Rattle.ick_source.specs.declared.cursor.Sort.TheVariants.{Mesh, Name, Label}
use Rattle.ick_source.specs.Cursors.{faults_by}
use Rattle.ick_source.specs.Expression.{unaries, unary_by}
use Rattle.ick_source.proofs.ClampedLemmas.{mesh_faults-capped, name_faults-capped}
use Rattle.ick_syntax.specs.Clamped.{no_faults, label_faults}
use Rattle.ick_syntax.specs.declared.faults.Faults.{Faults}
use Rattle.ick_source.specs.Position.{next_lead, past_lead}
use Rattle.ick_source.specs.Token.{IsWord, IsNumber, cap}
use Rattle.ick_source.specs.Grammar.{Grammar, stands, word, number}
use Rattle.ick_source.specs.Reading.{Found, read}
use Rattle.ick_source.proofs.GrammarLaws.{found, there}

pub found_nothing : {A : Type 0} (g : Grammar A) (from : List ℕ) →
    ((to : List ℕ) (x : A) → stands g from to x → ⊥) → read g from ≡ None
found_nothing {A} g from absent = by_found (read g from) (λ r e. absent r.left r.value (there g from r e))
  where
    by_found : (o : Option (Found A)) → ((r : Found A) → o ≡ Some r → ⊥) → o ≡ None
    by_found None f = refl
    by_found (Some r) f = absurd (f r refl)

pub word_found : (w from to : List ℕ) → IsWord w from to →
    read (word w) from ≡ Some (record { value = tt; left = to })
unfolding stands
word_found w from to p = found (word w) from to tt p

pub word_nothing : (w from : List ℕ) → ((to : List ℕ) → IsWord w from to → ⊥) → read (word w) from ≡ None
unfolding stands
word_nothing w from absent = found_nothing (word w) from (λ to x p. absent to p)

pub number_found : (from to : List ℕ) (n : ℕ) → IsNumber from to n →
    read number from ≡ Some (record { value = n; left = to })
unfolding stands
number_found from to n p = found number from to n p

pub number_nothing : (from : List ℕ) → ((to : List ℕ) (n : ℕ) → IsNumber from to n → ⊥) → read number from ≡ None
unfolding stands
number_nothing from absent = found_nothing number from (λ to x p. absent to x p)

pub unary_found : (from : List ℕ) (o : UnaryOp) → next_lead from ≡ Unary o →
    read unaries from ≡ Some (record { value = Some o; left = past_lead from })
unfolding read unaries
unary_found from o e = rw e refl

pub no_unary : (from : List ℕ) → ((o : UnaryOp) → next_lead from ≡ Unary o → ⊥) →
    read unaries from ≡ Some (record { value = None; left = from })
unfolding read unaries
no_unary from other = by_lead (next_lead from) other
  where
    by_lead : (l : Lead) → ((o : UnaryOp) → l ≡ Unary o → ⊥) →
        read (unary_by l) from ≡ Some (record { value = None; left = from })
    by_lead (Unary o) other = absurd (other o refl)
    by_lead (Spot k) other = refl
    by_lead (Array k) other = refl
    by_lead Hash other = refl
    by_lead (Group q) other = refl
    by_lead (Binary o) other = refl
    by_lead Other other = refl

label_faults-capped : (n : ℕ) → label_faults (min n cap) ≡ label_faults n
label_faults-capped n = ap (λ (f : Faults). record no_faults { label = f.name }) (name_faults-capped n)

pub faults-capped : (sort : Sort) (n : ℕ) → faults_by sort (min n cap) ≡ faults_by sort n
faults-capped Mesh n = mesh_faults-capped n
faults-capped Name n = name_faults-capped n
faults-capped Label n = label_faults-capped n
