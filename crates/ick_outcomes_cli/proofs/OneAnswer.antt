-- Each job has one answer at most, unless it lists outcomes.
use Rattle.std.proofs.Common.{◌≡◌, ◌∙◌, ◌++◌, ◌⊎◌, inl, inr, ℕ, suc, Bool, true, false, List, [], ◌∷◌}
use Rattle.std.proofs.Common.{Option, Some, None, ap, ap₂, refl, subst, sym, arith, length}
use Rattle.std.specs.Str.Iter.{LacksByte}
use Rattle.std.proofs.lemmas.List.{length-append}
use Rattle.clap.specs.Words.{Text}
use Rattle.ick_bits.specs.Faults.{message_of}
use Rattle.ick_source.specs.Refusals.{Compiles}
use Rattle.ick_source.proofs.RefusalLemmas.{compiles_unique, refused_not, refused_unique}
use Rattle.ick_syntax.specs.StatementTree.{StatementTree}
use Rattle.ick_code.specs.meaning.State.{State}
use Rattle.ick_code.specs.meaning.Move.{first_state}
use Rattle.ick_backtrack.specs.Machine.{Program}
use Rattle.ick_explorer.proofs.GroupLaws.{reads_one}
use Rattle.ick_outcomes.specs.Askers.{asked, asked_line}
use Rattle.ick_outcomes.specs.Programs.{spoken}
use Rattle.ick_job.specs.Answer.{Answer, refusal, shown}
use Rattle.ick_outcomes_cli.specs.Asked.{Explains, ForeignAt, foreign_here, foreign_later, foreign_text, last_line}
use Rattle.ick_outcomes_cli.specs.Asked.{no_line, run_line}
use Rattle.ick_outcomes_cli.specs.Job.{Wanted, limit_or_usual}
use Rattle.ick_outcomes_cli.specs.Laws.{BothList, both_list}
use Rattle.ick_outcomes_cli.specs.Lines.{IsLast, IsRunLine}
use Rattle.ick_outcomes_cli.specs.Tool.{IsExplained, IsListed, IsOutcomesAnswer, IsProgramAnswer, IsReadAnswer}
use Rattle.ick_outcomes_cli.specs.Tool.{IsSourceAnswer, IsSummed, both, by_listing, by_outcomes, compiled, explained}
use Rattle.ick_outcomes_cli.specs.Tool.{foreign, input_too_long, listing_not_read, listing_too_long, not_read, one}
use Rattle.ick_outcomes_cli.specs.Tool.{read, refused, summed, too_long}
use Rattle.ick_outcomes_cli.specs.declared.words.job.Question.{Question}
use Rattle.ick_outcomes_cli.proofs.Explaining.{first_same}

-- two texts without a line end, each in front of one, and what is behind
rest_same : (line rest rest' : List ℕ) → line ++ 10 ∷ rest ≡ line ++ 10 ∷ rest' → rest ≡ rest'
rest_same [] rest rest' e = cc
rest_same (b ∷ line) rest rest' e =
    let tail : line ++ 10 ∷ rest ≡ line ++ 10 ∷ rest' = cc in rest_same line rest rest' tail

no_text : (line rest : List ℕ) → [] ≡ line ++ 10 ∷ rest → ⊥
no_text line rest e = let size = ap length e in let all = length-append line (10 ∷ rest) in absurd (omega arith)

module _ (p : Program) (s : State) (limit : ℕ) where
  -- a line is that of one run at most
  one_run : (line : List ℕ) (c d : List Bool) → IsRunLine p s limit line c → IsRunLine p s limit line d → d ≡ c
  one_run line c d g h =
      let word : h.word ≡ g.word =
      first_same 32 h.word h.is_word.rest g.word g.is_word.rest h.is_word.first g.is_word.first
      (sym h.is_word.whole ∙ g.is_word.whole) in
      let reads = h.reads in
      reads_one g.word d c (rw word at reads) g.reads

  -- lines at the front of equal listings
  module _ (line line' rest rest' : List ℕ) (lacks : LacksByte 10 line) (lacks' : LacksByte 10 line')
      (same : line ++ 10 ∷ rest ≡ line' ++ 10 ∷ rest') where
    front : line ≡ line'
    front = first_same 10 line rest line' rest' lacks lacks' same

    behind : rest ≡ rest'
    behind = rest_same line rest rest' (same ∙ ap (λ l. l ++ 10 ∷ rest') (sym front))

  same_explained : (l m : List ℕ) (t u : List ℕ) → Explains p s limit l t → Explains p s limit m u → l ≡ m → u ≡ t
  same_explained l m t u no_line no_line e = refl
  same_explained l m t u no_line (last_line line rest more lacks is h) e = absurd (no_text line rest e)
  same_explained l m t u no_line (run_line line rest more c lacks not is h) e = absurd (no_text line rest e)
  same_explained l m t u (last_line line rest more lacks is g) no_line e = absurd (no_text line rest (sym e))
  same_explained l m t u (run_line line rest more c lacks not is g) no_line e = absurd (no_text line rest (sym e))
  same_explained l m t u (last_line line rest more lacks is g) (last_line line' rest' more' lacks' is' h) e =
      same_explained rest rest' t u g h (behind line line' rest rest' lacks lacks' e)
  same_explained l m t u (last_line line rest more lacks is g) (run_line line' rest' more' c lacks' not is' h) e =
      absurd (not (subst IsLast (front line line' rest rest' lacks lacks' e) is))
  same_explained l m t u (run_line line rest more c lacks not is g) (last_line line' rest' more' lacks' is' h) e =
      absurd (not (subst IsLast (sym (front line line' rest rest' lacks lacks' e)) is'))
  same_explained l m t u (run_line line rest more c lacks not is g) (run_line line' rest' more' d lacks' not' is' h) e =
      let here = front line line' rest rest' lacks lacks' e in
      let run : d ≡ c = one_run line c d is (subst (λ x. IsRunLine p s limit x d) (sym here) is') in
      ap₂ (λ x y. asked_line (asked (spoken p) s limit x) ++ y) run
      (same_explained rest rest' more more' g h (behind line line' rest rest' lacks lacks' e))

  same_foreign : (l m : List ℕ) (i j : ℕ) → ForeignAt p s limit l i → ForeignAt p s limit m j → l ≡ m → j ≡ i
  same_foreign l m i j (foreign_here x some none) (foreign_here y some' none') e = refl
  same_foreign l m i j (foreign_here x some none) (foreign_later line rest n lacks is h) e =
      absurd (none line rest lacks e is)
  same_foreign l m i j (foreign_later line rest n lacks is h) (foreign_here y some none) e =
      absurd (none line rest lacks (sym e) is)
  same_foreign l m i j (foreign_later line rest n lacks is g) (foreign_later line' rest' n' lacks' is' h) e =
      ap suc (same_foreign rest rest' n n' g h (behind line line' rest rest' lacks lacks' e))

  not_foreign : (l m t : List ℕ) (j : ℕ) → Explains p s limit l t → ForeignAt p s limit m j → l ≡ m → ⊥
  not_foreign l m t j no_line (foreign_here y some none) e = some (sym e)
  not_foreign l m t j no_line (foreign_later line rest n lacks is h) e = no_text line rest e
  not_foreign l m t j (last_line line rest more lacks is g) (foreign_here y some none) e =
      none line rest lacks (sym e) (inl is)
  not_foreign l m t j (run_line line rest more c lacks not is g) (foreign_here y some none) e =
      none line rest lacks (sym e) (inr (c, is))
  not_foreign l m t j (last_line line rest more lacks is g) (foreign_later line' rest' n lacks' is' h) e =
      not_foreign rest rest' more n g h (behind line line' rest rest' lacks lacks' e)
  not_foreign l m t j (run_line line rest more c lacks not is g) (foreign_later line' rest' n lacks' is' h) e =
      not_foreign rest rest' more n g h (behind line line' rest rest' lacks lacks' e)

same_told : (program : Program) (input : List ℕ) (limit : ℕ) (listing : Option (List ℕ)) (a b : Answer)
    → IsExplained program input limit listing a → IsExplained program input limit listing b → b ≡ a
same_told program input limit listing a b listing_not_read listing_not_read = refl
same_told program input limit listing a b (listing_too_long l g) (listing_too_long m h) = refl
same_told program input limit listing a b (listing_too_long l g) (explained m t fits h) = absurd (omega arith)
same_told program input limit listing a b (listing_too_long l g) (foreign m n fits h) = absurd (omega arith)
same_told program input limit listing a b (explained l t fits g) (listing_too_long m h) = absurd (omega arith)
same_told program input limit listing a b (explained l t fits g) (explained m u low h) =
    ap shown (same_explained program (first_state program input) limit l l t u g h refl)
same_told program input limit listing a b (explained l t fits g) (foreign m n low h) =
    absurd (not_foreign program (first_state program input) limit l l t n g h refl)
same_told program input limit listing a b (foreign l i fits g) (listing_too_long m h) = absurd (omega arith)
same_told program input limit listing a b (foreign l i fits g) (explained m u low h) =
    absurd (not_foreign program (first_state program input) limit l l u i h g refl)
same_told program input limit listing a b (foreign l i fits g) (foreign m j low h) =
    ap (λ n. refusal 64 (foreign_text n)) (same_foreign program (first_state program input) limit l l i j g h refl)

-- both answers list the outcomes of a program
pub data BothSummed (program : Program) (input : List ℕ) (limit : Option ℕ) (q : Question)
    : (a b : Answer) → Type 0 where
  both_summed : (text other : List ℕ) → IsListed program input limit q text → IsListed program input limit q other
      → BothSummed program input limit q (shown text) (shown other)

sums : (program : Program) (input : List ℕ) (limit : Option ℕ) (q : Question) (a b : Answer)
    → IsSummed program input limit q a → IsSummed program input limit q b → BothSummed program input limit q a b
sums program input limit q a b (summed text g) (summed other h) = both_summed text other g h

same_program : (program : Program) (input : List ℕ) (limit : Option ℕ) (q : Question) (listing : Option (List ℕ))
    (named : Option Text) (a b : Answer) → IsProgramAnswer program input limit q listing named a
    → IsProgramAnswer program input limit q listing named b
    → (b ≡ a) ⊎ ((named ≡ None) × BothSummed program input limit q a b)
same_program program input limit q listing named a b (input_too_long n g) (input_too_long m h) = inl refl
same_program program input limit q listing named a b (input_too_long n g) (by_outcomes y fits h) = absurd (omega arith)
same_program program input limit q listing named a b (input_too_long n g) (by_listing m y fits h) = absurd (omega arith)
same_program program input limit q listing named a b (by_outcomes x fits g) (input_too_long m h) = absurd (omega arith)
same_program program input limit q listing named a b (by_outcomes x fits g) (by_outcomes y low h) =
    inr (refl, sums program input limit q x y g h)
same_program program input limit q listing named a b (by_listing n x fits g) (input_too_long m h) = absurd (omega arith)
same_program program input limit q listing named a b (by_listing n x fits g) (by_listing m y low h) =
    inl (same_told program input (limit_or_usual limit) listing x y g h)

both_listed : (w : Wanted) (input source : List ℕ) (program : Program) (a b : Answer) → Compiles source program
    → w.listing ≡ None → BothSummed program input w.limit w.question a b → BothList w input (Some source) a b
both_listed w input source program a b compiles none (both_summed text other g h) =
    both_list source program text other compiles none g h

abbrev Same : Wanted → List ℕ → Option (List ℕ) → Answer → Answer → Type 0
Same w input source a b = (b ≡ a) ⊎ BothList w input source a b

same_compiled : (w : Wanted) (input source : List ℕ) (program : Program) (a b : Answer) → Compiles source program
    → (b ≡ a) ⊎ ((w.listing ≡ None) × BothSummed program input w.limit w.question a b)
    → Same w input (Some source) a b
same_compiled w input source program a b compiles (inl same) = inl same
same_compiled w input source program a b compiles (inr h) =
    inr (both_listed w input source program a b compiles h.0 h.1)

same_source : (w : Wanted) (source input : List ℕ) (listing : Option (List ℕ)) (a b : Answer)
    → IsSourceAnswer w source input listing a → IsSourceAnswer w source input listing b
    → Same w input (Some source) a b
same_source w source input listing a b (too_long g) (too_long h) = inl refl
same_source w source input listing a b (too_long g) (refused kind n h) = let fits = h.fits in absurd (omega arith)
same_source w source input listing a b (too_long g) (compiled trees y h is) = let fits = h.fits in absurd (omega arith)
same_source w source input listing a b (refused kind n g) (too_long h) = let fits = g.fits in absurd (omega arith)
same_source w source input listing a b (refused kind n g) (refused other m h) =
    let same = refused_unique g h in inl (ap₂ (λ k i. refusal 2 (message_of k i [])) same.0 same.1)
same_source w source input listing a b (refused kind n g) (compiled trees y h is) = absurd (refused_not g trees h)
same_source w source input listing a b (compiled trees x g is) (too_long h) = let fits = g.fits in absurd (omega arith)
same_source w source input listing a b (compiled trees x g is) (refused kind n h) = absurd (refused_not h trees g)
same_source w source input listing a b (compiled trees x g is) (compiled others y h so) =
    same_compiled w input source trees a b g
    (same_program trees input w.limit w.question listing w.listing a b is
    (subst (λ (ts : List StatementTree). IsProgramAnswer ts input w.limit w.question listing w.listing b)
    (compiles_unique h g) so))

same_read : (w : Wanted) (input : List ℕ) (listing source : Option (List ℕ)) (a b : Answer)
    → IsReadAnswer w input listing source a → IsReadAnswer w input listing source b → Same w input source a b
same_read w input listing None a b not_read not_read = inl refl
same_read w input listing (Some source) a b (read x y g) (read u v h) = same_source w source input listing a b g h

pub same_answer : (w : Wanted) (input : List ℕ) (listing source : Option (List ℕ)) (a b : Answer)
    → IsOutcomesAnswer w input listing source a → IsOutcomesAnswer w input listing source b → Same w input source a b
same_answer w input listing source a b (both asks) (both is) = inl refl
same_answer w input listing source a b (both asks) (one y isnt h) =
    let e : true ≡ false = sym asks ∙ isnt in absurd (cc)
same_answer w input listing source a b (one x isnt g) (both asks) =
    let e : true ≡ false = sym asks ∙ isnt in absurd (cc)
same_answer w input listing source a b (one x isnt g) (one y is h) = same_read w input listing source a b g h
