-- The kinds of an error of clap.
use Rattle.std.proofs.Common.{◌≡◌, inl, inr, [], ◌∷◌, subst, sym}
use Rattle.clap.specs.Kinds.{HasKind, IsAmong}
use Rattle.clap.specs.Words.{Kinds, kind_of}
use Rattle.clap.specs.declared.error.ErrorKind.{ErrorKind}
use Rattle.clap.specs.declared.error.ErrorKind.TheVariants as kind
use Rattle.clap.specs.declared.error.Error.{Error}
use Rattle.ick_job.specs.Usage.{AreMistakes, AreRequests, EachIs, IsMistake, IsRequest}

-- what holds of each of several kinds holds of one among them
among : (P : ErrorKind → Type 0) (k : ErrorKind) (kinds : Kinds) → EachIs P kinds → IsAmong k kinds → P k
among P k [] each h = absurd h
among P k (x ∷ xs) each (inl e) = subst P (sym e) each.0
among P k (x ∷ xs) each (inr h) = among P k xs each.1 h

-- if the arguments are mistaken, an error is a mistake; running out of memory is one
pub mistaken : (error : Error) (kinds : Kinds) → AreMistakes kinds → HasKind kinds error → IsMistake (kind_of error)
mistaken error kinds mistakes (inl e) = (λ h. cc, λ h. cc)
mistaken error kinds mistakes (inr h) = among IsMistake (kind_of error) kinds mistakes.1 h

-- if the arguments ask for help, an error is such a request, or says that memory ran out
pub requested : (P : Type 0) (error : Error) (kinds : Kinds) → AreRequests kinds → HasKind kinds error →
    (IsRequest (kind_of error) → P) → (kind_of error ≡ kind.OutOfMemory → P) → P
requested P error kinds requests (inl e) request memory = memory e
requested P error kinds requests (inr h) request memory =
    request (among IsRequest (kind_of error) kinds requests.1 h)

-- if the arguments ask for a job, an error says that memory ran out
pub memory_ran_out : (error : Error) (kinds : Kinds) → kinds ≡ [] → HasKind kinds error →
    kind_of error ≡ kind.OutOfMemory
memory_ran_out error kinds none (inl e) = e
memory_ran_out error kinds none (inr h) = absurd (subst (λ (ks : Kinds). IsAmong (kind_of error) ks) none h)
