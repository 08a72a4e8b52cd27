-- The arguments that bytes hold: the first one, the further ones, and that there is one list of them.
use Rattle.std.proofs.Common.{◌≡◌, ◌≢◌, ◌++◌, ◌∷◌, ◌∙◌, ◌==◌, ℕ, true, false, List, [], All, IsUtf8, length}
use Rattle.std.proofs.Common.{ap, append_assoc, arith, refl, subst, suc, sym}
use Rattle.std.proofs.lemmas.Bool.Decides.{nat_tests}
use Rattle.std.proofs.lemmas.List.{append-nil}
use Rattle.std.proofs.lemmas.List.Elements.{All-head, All-tail}
use Rattle.std.specs.Str.Iter.{LacksByte}
use Rattle.clap.specs.Words.{Text}
use Rattle.ick_c.specs.Arguments.{Holds, IsArgument, ended}

lacks_first : (b : ℕ) (text : List ℕ) → LacksByte 0 (b ∷ text) → b ≢ 0
lacks_first b text none = none 0 (omega arith)

lacks_rest : (b : ℕ) (text : List ℕ) → LacksByte 0 (b ∷ text) → LacksByte 0 text
lacks_rest b text none = λ k less. none (suc k) (omega arith)

not_empty : (text rest : List ℕ) → text ++ (0 ∷ rest) ≡ [] → ⊥
not_empty [] rest e = cc
not_empty (b ∷ text) rest e = cc

-- two texts without a byte 0, each in front of a byte 0 of the same bytes
first_zero : (one rest other rest' : List ℕ) → LacksByte 0 one → LacksByte 0 other
    → one ++ (0 ∷ rest) ≡ other ++ (0 ∷ rest') → (one ≡ other) × (rest ≡ rest')
first_zero [] rest [] rest' none none' e = (refl, cc)
first_zero [] rest (b ∷ other) rest' none none' e = let zero : b ≡ 0 = cc in absurd (lacks_first b other none' zero)
first_zero (a ∷ one) rest [] rest' none none' e = let zero : a ≡ 0 = cc in absurd (lacks_first a one none zero)
first_zero (a ∷ one) rest (b ∷ other) rest' none none' e =
    let tail : one ++ (0 ∷ rest) ≡ other ++ (0 ∷ rest') = cc in
    let same = first_zero one rest other rest' (lacks_rest a one none) (lacks_rest b other none') tail in
    (cc, same.1)

no_zero_at : (text rest : List ℕ) → LacksByte 0 (text ++ (0 ∷ rest)) → ⊥
no_zero_at [] rest none = lacks_first 0 rest none refl
no_zero_at (b ∷ text) rest none = no_zero_at text rest (lacks_rest b (text ++ (0 ∷ rest)) none)

-- no argument is at the front of bytes without a byte 0
pub none_without_zero : (bytes : List ℕ) → LacksByte 0 bytes
    → (text rest : List ℕ) → IsArgument text → ¬ (text ++ (0 ∷ rest) ≡ bytes)
none_without_zero bytes none text rest argument e =
    no_zero_at text rest (subst (LacksByte 0) (sym e) none)

-- nor if what is in front of the first byte 0 is no text
pub none_without_text : (front behind bytes : List ℕ) → LacksByte 0 front → front ++ (0 ∷ behind) ≡ bytes
    → ¬ IsUtf8 front → (text rest : List ℕ) → IsArgument text → ¬ (text ++ (0 ∷ rest) ≡ bytes)
none_without_text front behind bytes none whole no_text text rest argument e =
    no_text (subst IsUtf8 (first_zero text rest front behind argument.no_zero none (e ∙ sym whole)).0 argument.utf8)

-- bytes that aren't empty hold no arguments, if no argument is at their front
pub none_held : (bytes : List ℕ) → bytes ≢ []
    → ((text rest : List ℕ) → IsArgument text → ¬ (text ++ (0 ∷ rest) ≡ bytes))
    → (arguments : List Text) → ¬ Holds bytes arguments
unfolding ended
none_held bytes some none [] held = some (sym held.whole)
none_held bytes some none (text ∷ arguments) held =
    none text (ended arguments) (All-head IsArgument text arguments held.each) held.whole

-- what is behind the first argument holds the further arguments
pub further_held : (bytes text behind : List ℕ) → text ++ (0 ∷ behind) ≡ bytes → IsArgument text
    → (arguments : List Text) → Holds bytes arguments → (further : List Text) × Holds behind further
unfolding ended
further_held bytes text behind whole argument [] held = absurd (not_empty text behind (whole ∙ sym held.whole))
further_held bytes text behind whole argument (first ∷ further) held =
    let is = All-head IsArgument first further held.each in
    let same = first_zero first (ended further) text behind is.no_zero argument.no_zero (held.whole ∙ sym whole) in
    (further, record { whole = same.1; each = All-tail IsArgument first further held.each })

-- one argument more, at the end
pub ended_more : (arguments : List Text) (text behind : List ℕ)
    → ended (arguments ++ (text ∷ [])) ++ behind ≡ ended arguments ++ (text ++ (0 ∷ behind))
unfolding ended
ended_more [] text behind = append_assoc text (0 ∷ []) behind
ended_more (first ∷ arguments) text behind =
    append_assoc first (0 ∷ ended (arguments ++ (text ∷ []))) behind
    ∙ ap (λ l. first ++ (0 ∷ l)) (ended_more arguments text behind)
    ∙ sym (append_assoc first (0 ∷ ended arguments) (text ++ (0 ∷ behind)))

same_list : (one other : List Text) → All IsArgument one → All IsArgument other → ended one ≡ ended other → one ≡ other
unfolding ended
same_list [] [] each each' e = refl
same_list [] (b ∷ other) each each' e = absurd (not_empty b (ended other) (sym e))
same_list (a ∷ one) [] each each' e = absurd (not_empty a (ended one) e)
same_list (a ∷ one) (b ∷ other) each each' e =
    let is = All-head IsArgument a one each in
    let is' = All-head IsArgument b other each' in
    let first = first_zero a (ended one) b (ended other) is.no_zero is'.no_zero e in
    let further = same_list one other (All-tail IsArgument a one each) (All-tail IsArgument b other each') first.1 in
    cc

-- bytes hold one list of arguments
pub same_held : (bytes : List ℕ) (one other : List Text) → Holds bytes one → Holds bytes other → other ≡ one
same_held bytes one other held held' = same_list other one held'.each held.each (held'.whole ∙ sym held.whole)

pub is_some : (bytes : List ℕ) → (length bytes == 0) ≡ false → bytes ≢ []
is_some [] e = λ n. cc
is_some (b ∷ bytes) e = λ n. cc

pub is_none : (bytes : List ℕ) → (length bytes == 0) ≡ true → bytes ≡ []
is_none [] e = refl
is_none (b ∷ bytes) e = let zero : length (b ∷ bytes) ≡ 0 = grind (arith, nat_tests) in absurd (omega (arith, zero))

-- arguments behind which no byte is left
pub all_held : (arguments : List Text) (rest bytes : List ℕ) → rest ≡ [] → All IsArgument arguments
    → ended arguments ++ rest ≡ bytes → Holds bytes arguments
all_held arguments rest bytes none each whole = record {
  whole = sym (append-nil (ended arguments)) ∙ ap (λ r. ended arguments ++ r) (sym none) ∙ whole;
  each = each;
}
