-- The lines of the names that are the words of a text.
use Rattle.std.proofs.Common.{◌≡◌, ℕ, ◌+◌, ◌-◌, ◌<◌, ◌==◌, true, false, List, [], ◌∷◌, ◌++◌, length, refl, ap, ◌∙◌, arith}
use Rattle.std.proofs.Common.{Option, Some, None, sym, append_assoc}
use Rattle.std.proofs.lemmas.List.{append-nil}
use Rattle.std.proofs.Common.{◌≤◌}
use Rattle.std.specs.Prelude.{codes, filter_map}
use Rattle.ick_code.specs.meaning.State.{State}
use Rattle.ick_syntax.specs.declared.tree.Name.{Name}
use Rattle.ick_inspect.specs.Names.{variable_text}
use Rattle.ick_inspect.specs.Summary.{variables_text}
use Rattle.ick_inspect.specs.declared.text.Text.{Text}
use Rattle.ick_inspect.specs.Text.{Adds}
use Rattle.ick_session.specs.Commands.{behind_word, first_word, name_in, words_from, words_of}
use Rattle.ick_inspect.proofs.AddLaws.{nothing, same, then}
use Rattle.ick_session.proofs.WordLaws.{words_step}

-- the lines of the names among words
abbrev pub lines : State → List (List ℕ) → List ℕ
lines s words = variables_text (filter_map name_in words) s

no_line : (s : State) → variables_text [] s ≡ []
unfolding variables_text
no_line s = refl

named_line : (s : State) (word : List ℕ) (words : List (List ℕ)) (o : Option Name) (name : Name) → name_in word ≡ o →
    o ≡ Some name →
    lines s (word ∷ words) ≡ variable_text s name ++ codes "\n" ++ lines s words
unfolding variables_text
named_line s word words o name e f = rw (e, f) refl

unnamed_line : (s : State) (word : List ℕ) (words : List (List ℕ)) → name_in word ≡ None →
    lines s (word ∷ words) ≡ lines s words
unnamed_line s word words e = rw e refl

-- so many lines were added, and these are left
pub record Prints (s : State) (whole : List ℕ) (old new : Text) (left : List (List ℕ)) : Type 0 where
  pub so_far : List ℕ
  pub adds : Adds old new so_far
  pub whole_is : whole ≡ so_far ++ lines s left

pub prints_none : (s : State) (text : List ℕ) (old : Text) → Prints s (lines s (words_of text)) old old (words_of text)
prints_none s text old = record { so_far = []; adds = nothing old; whole_is = refl }

left_is : (s : State) (n at : ℕ) (rest word : List ℕ) → at < n → word ≡ first_word rest → (length word == 0) ≡ false →
    lines s (words_from (n - at) rest) ≡ lines s (word ∷ words_from (n - (at + 1)) (behind_word rest))
left_is s n at rest word lt e some =
    ap (lines s) (words_step n at rest lt)
    ∙ rw (← e, some) refl

pub prints_end : (s : State) (n at : ℕ) (rest word whole : List ℕ) (old new : Text) → at < n →
    word ≡ first_word rest → (length word == 0) ≡ true →
    Prints s whole old new (words_from (n - at) rest) → Adds old new whole
prints_end s n at rest word whole old new lt e none h =
    let left : lines s (words_from (n - at) rest) ≡ [] =
    ap (lines s) (words_step n at rest lt) ∙ rw (← e, none) (no_line s) in
    same (sym (h.whole_is ∙ (ap (λ l. h.so_far ++ l) left ∙ append-nil h.so_far))) h.adds

pub prints_name : (s : State) (n at : ℕ) (rest word whole behind : List ℕ) (name : Name) (old new newer : Text) →
    at < n → word ≡ first_word rest → behind ≡ behind_word rest → (length word == 0) ≡ false → Some name ≡ name_in word →
    Prints s whole old new (words_from (n - at) rest) → Adds new newer (variable_text s name ++ codes "\n") →
    Prints s whole old newer (words_from (n - (at + 1)) behind)
prints_name s n at rest word whole behind name old new newer lt e g some is h adds =
    let line = variable_text s name ++ codes "\n" in
    let others = words_from (n - (at + 1)) (behind_word rest) in
    rw g record {
      so_far = h.so_far ++ line;
      adds = then h.adds adds;
      whole_is = h.whole_is ∙ (ap (λ l. h.so_far ++ l) (left_is s n at rest word lt e some
          ∙ named_line s word others (name_in word) name refl (sym is))
          ∙ sym (append_assoc h.so_far line (lines s others)));
    }

pub prints_other : (s : State) (n at : ℕ) (rest word whole behind : List ℕ) (old new : Text) → at < n →
    word ≡ first_word rest → behind ≡ behind_word rest → (length word == 0) ≡ false → None ≡ name_in word →
    Prints s whole old new (words_from (n - at) rest) → Prints s whole old new (words_from (n - (at + 1)) behind)
prints_other s n at rest word whole behind old new lt e g some is h =
    rw g record {
      so_far = h.so_far;
      adds = h.adds;
      whole_is = h.whole_is ∙ ap (λ l. h.so_far ++ l) (left_is s n at rest word lt e some
          ∙ unnamed_line s word (words_from (n - (at + 1)) (behind_word rest)) (sym is));
    }

pub prints_over : (s : State) (n at : ℕ) (rest whole : List ℕ) (old new : Text) → n ≤ at →
    Prints s whole old new (words_from (n - at) rest) → Adds old new whole
prints_over s n at rest whole old new le h =
    let none : n - at ≡ 0 = omega arith in
    let left : lines s (words_from (n - at) rest) ≡ [] = rw none (no_line s) in
    same (sym (h.whole_is ∙ (ap (λ l. h.so_far ++ l) left ∙ append-nil h.so_far))) h.adds
