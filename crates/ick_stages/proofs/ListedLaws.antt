-- The lines of statements and of faults, one more at a time.
use Rattle.std.proofs.Common.{◌≡◌, ◌∙◌, ℕ, ◌+◌, Some, List, [], ◌++◌, ap, append_assoc, subst, sym}
use Rattle.std.proofs.lemmas.List.{append-nil}
use Rattle.std.proofs.lemmas.Option.{slice_get-map}
use Rattle.std.specs.Prelude.{option_map, slice_get}
use Rattle.ick_source.specs.Bytes.{IsGap}
use Rattle.ick_source.specs.declared.all_faults.FaultAt.{FaultAt}
use Rattle.ick_source.specs.declared.seen.Seen.{Seen}
use Rattle.ick_stages.specs.Listed.{AreFaults, AreSeen, HasFault, HasSeen, fault_more, no_fault, no_seen, seen_more}
use Rattle.ick_stages.specs.Listed.{texts_seen}
use Rattle.ick_stages.specs.Starts.{Reaches, Starts, behind, one_more}
use Rattle.ick_stages.specs.declared.stages.Asked.{Asked}

-- the lines of the first statements are written
pub record WroteSeen (source : List ℕ) (asked : Asked) (seen : List Seen) (n : ℕ) (before after : List ℕ) : Type 0 where
  pub lines : List ℕ
  pub are : AreSeen source asked seen n lines
  pub written : after ≡ before ++ lines

pub wrote_none : (source : List ℕ) (asked : Asked) (seen : List Seen) (before : List ℕ) →
    WroteSeen source asked seen 0 before before
wrote_none source asked seen before = record { lines = []; are = no_seen; written = sym (append-nil before) }

pub wrote_more : {source : List ℕ} {asked : Asked} {seen : List Seen} {n start : ℕ} {x : Seen} {a b c : List ℕ}
    (piece : List ℕ) → WroteSeen source asked seen n a b → slice_get seen n ≡ Some x →
    Starts source (texts_seen seen) n start → HasSeen source start asked x piece → c ≡ b ++ piece →
    WroteSeen source asked seen (n + 1) a c
wrote_more {source} {asked} {seen} {n} {start} {x} {a} {b} {c} piece first found starts has is = record {
  lines = first.lines ++ piece;
  are = seen_more first.are found starts has;
  written = is ∙ (ap (λ w. w ++ piece) first.written ∙ append_assoc a first.lines piece);
}

-- the next statement's text was gone through
pub seen_reaches : (source : List ℕ) (seen : List Seen) (n at start end : ℕ) (x : Seen) →
    Reaches source (texts_seen seen) n at → slice_get seen n ≡ Some x → IsGap source at start →
    end ≡ behind source start x.statement.text.now → Reaches source (texts_seen seen) (n + 1) end
seen_reaches source seen n at start end x reaches found gap is =
    subst (Reaches source (texts_seen seen) (n + 1)) (sym is)
    (one_more reaches
    (slice_get-map (λ y. y.statement.text.now) seen n ∙ ap (option_map (λ y. y.statement.text.now)) found) gap)

-- the lines of the first faults are written
pub record WroteFaults (source : List ℕ) (seen : List Seen) (faults : List FaultAt) (n : ℕ) (before after : List ℕ) : Type 0 where
  pub lines : List ℕ
  pub are : AreFaults source seen faults n lines
  pub written : after ≡ before ++ lines

pub faults_none : (source : List ℕ) (seen : List Seen) (faults : List FaultAt) (before : List ℕ) →
    WroteFaults source seen faults 0 before before
faults_none source seen faults before = record { lines = []; are = no_fault; written = sym (append-nil before) }

pub faults_more : {source : List ℕ} {seen : List Seen} {faults : List FaultAt} {n : ℕ} {fault : FaultAt} {a b c : List ℕ}
    (piece : List ℕ) → WroteFaults source seen faults n a b → slice_get faults n ≡ Some fault →
    HasFault source seen fault piece → c ≡ b ++ piece → WroteFaults source seen faults (n + 1) a c
faults_more {source} {seen} {faults} {n} {fault} {a} {b} {c} piece first found has is = record {
  lines = first.lines ++ piece;
  are = fault_more first.are found has;
  written = is ∙ (ap (λ w. w ++ piece) first.written ∙ append_assoc a first.lines piece);
}
