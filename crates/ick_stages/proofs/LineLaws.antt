-- Lines that are written one after another.
use Rattle.std.proofs.Common.{◌≡◌, ◌∙◌, ℕ, ◌+◌, zero, suc, Some, List, [], ◌∷◌, ◌++◌, length, ap, subst, take}
use Rattle.std.proofs.Common.{◌<◌, ◌≤◌, None, arith, get_or, refl, sym}
use Rattle.std.proofs.lemmas.Option.{slice_get-get_or}
use Rattle.std.specs.Prelude.{Result, Ok, Err, slice_get}
use Rattle.ick_explorer.specs.declared.errors.RunsError.{RunsError}
use Rattle.ick_explorer.specs.declared.errors.RunsError.TheVariants.{NoMemory, NoSuchRun, WorkFull, Failed, BadCursor}
use Rattle.ick_explorer.specs.declared.errors.RunsError.TheVariants.{Read, Write}
use Rattle.ick_stages.proofs.StagesLaws.{cut_behind, written_behind}
use Rattle.ick_inspect.specs.Text.{Adds}
use Rattle.ick_inspect.specs.declared.text.Text.{Text}
use Rattle.ick_stages.specs.Lines.{WritesLines, WritesPiece, WritesText}

-- what holds of each element, and of one more
pub each_more : (P : ℕ → ℕ → Type 0) (xs : List ℕ) (x : ℕ) →
    ((n s : ℕ) → slice_get xs n ≡ Some s → P n s) → P (length xs) x →
    (n s : ℕ) → slice_get (xs ++ x ∷ []) n ≡ Some s → P n s
each_more P [] x all p zero s e = let same : x ≡ s = cc in subst (P 0) same p
each_more P [] x all p (suc n) s e = absurd cc
each_more P (y ∷ xs) x all p zero s e = all zero s e
each_more P (y ∷ xs) x all p (suc n) s e =
    each_more (λ m. P (suc m)) xs x (λ m t h. all (suc m) t h) p n s e

-- a failure behind lines that are written
pub failed_behind : (T U : Type 0) (A W B V : List ℕ → Type 0) (before mid after lines : List ℕ) (e : RunsError) →
    mid ≡ before ++ lines → ((more : List ℕ) → W more → V (lines ++ more)) →
    WritesLines {T = T} A W mid after (Err e) → WritesLines {T = U} B V before after (Err e)
failed_behind T U A W B V before mid after lines NoMemory first within w =
    (lines ++ w.0, within w.0 w.1, written_behind before mid after lines w.0 first w.2)
failed_behind T U A W B V before mid after lines Write first within w =
    (lines ++ w.0, within w.0 w.1, length lines + w.2, cut_behind before mid after lines w.0 w.2 first w.3)
failed_behind T U A W B V before mid after lines NoSuchRun first within w = absurd w
failed_behind T U A W B V before mid after lines WorkFull first within w = absurd w
failed_behind T U A W B V before mid after lines Failed first within w = absurd w
failed_behind T U A W B V before mid after lines BadCursor first within w = absurd w
failed_behind T U A W B V before mid after lines Read first within w = absurd w

pub failed_first : (T U : Type 0) (A W B V : List ℕ → Type 0) (before after : List ℕ) (e : RunsError) →
    ((lines : List ℕ) → W lines → V lines) →
    WritesLines {T = T} A W before after (Err e) → WritesLines {T = U} B V before after (Err e)
failed_first T U A W B V before after NoMemory within w = (w.0, within w.0 w.1, w.2)
failed_first T U A W B V before after Write within w = (w.0, within w.0 w.1, w.2, w.3)
failed_first T U A W B V before after NoSuchRun within w = absurd w
failed_first T U A W B V before after WorkFull within w = absurd w
failed_first T U A W B V before after Failed within w = absurd w
failed_first T U A W B V before after BadCursor within w = absurd w
failed_first T U A W B V before after Read within w = absurd w

-- a piece that could not be written, behind lines that are
pub piece_failed : (T U : Type 0) (P A V : List ℕ → Type 0) (before mid after lines : List ℕ) (e : RunsError) →
    mid ≡ before ++ lines → V lines → ((piece : List ℕ) → P piece → V (lines ++ piece)) →
    WritesPiece {T = T} P mid after (Err e) → WritesLines {T = U} A V before after (Err e)
piece_failed T U P A V before mid after lines NoMemory first whole within w = (lines, whole, w ∙ first)
piece_failed T U P A V before mid after lines Write first whole within w =
    (lines ++ w.0, within w.0 w.1, length lines + w.2, cut_behind before mid after lines w.0 w.2 first w.3)
piece_failed T U P A V before mid after lines NoSuchRun first whole within w = absurd w
piece_failed T U P A V before mid after lines WorkFull first whole within w = absurd w
piece_failed T U P A V before mid after lines Failed first whole within w = absurd w
piece_failed T U P A V before mid after lines BadCursor first whole within w = absurd w
piece_failed T U P A V before mid after lines Read first whole within w = absurd w

-- the last piece, behind lines that are written
pub last_piece : (T : Type 0) (P A V : List ℕ → Type 0) (before mid after lines : List ℕ) (r : Result T RunsError) →
    mid ≡ before ++ lines → V lines → ((piece : List ℕ) → P piece → A (lines ++ piece)) →
    ((piece : List ℕ) → P piece → V (lines ++ piece)) →
    WritesPiece P mid after r → WritesLines A V before after r
last_piece T P A V before mid after lines (Ok x) first whole all within w =
    (lines ++ w.0, all w.0 w.1, written_behind before mid after lines w.0 first w.2)
last_piece T P A V before mid after lines (Err e) first whole all within w =
    piece_failed T T P A V before mid after lines e first whole within w

-- a text that began empty is written, and it is such a piece
pub text_written : (T : Type 0) (P : List ℕ → Type 0) (empty full : Text) (piece before after : List ℕ)
    (r : Result T RunsError) → empty.bytes.items ≡ [] → Adds empty full piece → P piece →
    WritesText full.refused full.bytes.items before after r → WritesPiece P before after r
text_written T P empty full piece before after (Ok x) none added is w =
    (piece, is, w.1 ∙ ap (λ l. before ++ l) (added.bytes w.0 ∙ ap (λ l. l ++ piece) none))
text_written T P empty full piece before after (Err NoMemory) none added is w = w
text_written T P empty full piece before after (Err Write) none added is w =
    (piece, is, w.1, w.2 ∙ ap (λ l. before ++ take w.1 l) (added.bytes w.0 ∙ ap (λ l. l ++ piece) none))
text_written T P empty full piece before after (Err NoSuchRun) none added is w = absurd w
text_written T P empty full piece before after (Err WorkFull) none added is w = absurd w
text_written T P empty full piece before after (Err Failed) none added is w = absurd w
text_written T P empty full piece before after (Err BadCursor) none added is w = absurd w
text_written T P empty full piece before after (Err Read) none added is w = absurd w

-- nothing is in an empty list
pub nowhere_in : (xs : List ℕ) (n s : ℕ) → xs ≡ [] → slice_get xs n ≡ Some s → ⊥
nowhere_in [] n s e f = absurd cc
nowhere_in (x ∷ xs) n s e f = absurd cc

-- an element that a loop has come to
pub element_at : {A : Type 0} (xs : List A) (k : ℕ) (x : A) → x ≡ get_or xs k x → k < length xs → slice_get xs k ≡ Some x
element_at xs k x is low = slice_get-get_or xs k x low ∙ ap Some (sym is)

-- more lines, behind lines that are written
pub lines_behind : (T : Type 0) (B W A V : List ℕ → Type 0) (before mid after lines : List ℕ) (r : Result T RunsError) →
    mid ≡ before ++ lines → ((more : List ℕ) → B more → A (lines ++ more)) →
    ((more : List ℕ) → W more → V (lines ++ more)) → WritesLines B W mid after r → WritesLines A V before after r
lines_behind T B W A V before mid after lines (Ok x) first all within w =
    (lines ++ w.0, all w.0 w.1, written_behind before mid after lines w.0 first w.2)
lines_behind T B W A V before mid after lines (Err e) first all within w =
    failed_behind T T B W A V before mid after lines e first within w

-- nothing is past the end of a list
pub none_at : {A : Type 0} (xs : List A) (k : ℕ) → length xs ≤ k → slice_get xs k ≡ None
none_at [] k h = refl
none_at (x ∷ xs) zero h = absurd (omega arith)
none_at (x ∷ xs) (suc k) h = none_at xs k (omega arith)
