-- The moves of bits that a table makes, pair by pair.
use Rattle.std.proofs.Common.{◌≡◌, ◌+◌, Bool, true, false, List, ℕ, ◌++◌, ap, refl, ◌∙◌, append_assoc, [], ◌∷◌, sym}
use Rattle.std.specs.Prelude.{codes, ◌||◌}
use Rattle.std.specs.List.{filter, range_with_len}
use Rattle.std.proofs.lemmas.List.{append-nil}
use Rattle.ick_stages.specs.Bodies.{joined_text}
use Rattle.ick_stages.specs.Tables.{is_pair, one_text, pair_text, separator_text}
use Rattle.ick_stages.proofs.TextLaws.{between, joined_more, passing_no, passing_yes}

abbrev pub has_some : List ℕ → Bool
has_some [] = false
has_some (x ∷ xs) = true

-- the first pairs that a table moves, and their text
abbrev pub pairs : List ℕ → ℕ → List ℕ
pairs table n = filter (is_pair table) (range_with_len 0 n)

abbrev pub pairs_text : List ℕ → ℕ → List ℕ
pairs_text table n = joined_text (codes " ") pair_text (pairs table n)

between_some : (xs : List ℕ) → separator_text (has_some xs) ≡ between (codes " ") xs
between_some [] = refl
between_some (x ∷ xs) = refl

some_behind : (xs : List ℕ) (x : ℕ) → has_some (xs ++ x ∷ []) ≡ true
some_behind [] x = refl
some_behind (y ∷ ys) x = refl

or_true : (b : Bool) → b || true ≡ true
or_true true = refl
or_true false = refl

or_false : (b : Bool) → b || false ≡ b
or_false true = refl
or_false false = refl

text_by : (table : List ℕ) (n : ℕ) (b : Bool) → is_pair table n ≡ b →
    pairs_text table n ++ one_text table (has_some (pairs table n)) n ≡ pairs_text table (n + 1)
text_by table n true moves =
    ap (λ l. pairs_text table n ++ l) (rw moves (ap (λ s. s ++ pair_text n) (between_some (pairs table n))))
    ∙ (sym (joined_more (codes " ") pair_text (pairs table n) n)
    ∙ ap (joined_text (codes " ") pair_text) (sym (passing_yes (is_pair table) n moves)))
text_by table n false stays =
    ap (λ l. pairs_text table n ++ l) (rw stays refl)
    ∙ (append-nil (pairs_text table n)
    ∙ ap (joined_text (codes " ") pair_text) (sym (passing_no (is_pair table) n stays)))

pub pairs_more : (table : List ℕ) (n : ℕ) →
    (codes "[" ++ pairs_text table n) ++ one_text table (has_some (pairs table n)) n ≡ codes "[" ++ pairs_text table (n + 1)
pairs_more table n =
    append_assoc (codes "[") (pairs_text table n) (one_text table (has_some (pairs table n)) n)
    ∙ ap (λ l. codes "[" ++ l) (text_by table n (is_pair table n) refl)

some_by : (table : List ℕ) (n : ℕ) (b : Bool) → is_pair table n ≡ b →
    has_some (pairs table n) || b ≡ has_some (pairs table (n + 1))
some_by table n true moves =
    or_true (has_some (pairs table n))
    ∙ (sym (some_behind (pairs table n) n) ∙ ap has_some (sym (passing_yes (is_pair table) n moves)))
some_by table n false stays =
    or_false (has_some (pairs table n)) ∙ ap has_some (sym (passing_no (is_pair table) n stays))

pub some_more : (table : List ℕ) (n : ℕ) →
    has_some (pairs table n) || is_pair table n ≡ has_some (pairs table (n + 1))
some_more table n = some_by table n (is_pair table n) refl
