-- The steps of a statement, one more at a time.
use Rattle.std.proofs.Common.{◌≡◌, ℕ, ◌+◌, ◌<◌, Bool, true, false, List, [], ◌∷◌, ◌++◌, length, take, get_or, sym, subst}
use Rattle.std.proofs.Common.{arith}
use Rattle.std.proofs.lemmas.List.{length-take, take_more}
use Rattle.ick_code.specs.Effects.{Slots}
use Rattle.ick_code.specs.declared.op.Op.{Op}
use Rattle.ick_inspect.proofs.AddLaws.{nothing, then}
use Rattle.ick_inspect.specs.Text.{Adds}
use Rattle.ick_inspect.specs.declared.text.Text.{Text}
use Rattle.ick_instructions.specs.declared.layout.Layout.{Layout}
use Rattle.ick_lowering.specs.declared.draft.StatementDraft.{StatementDraft}
use Rattle.ick_lowering.specs.Lowering.{Follows, Reached}
use Rattle.ick_stages.specs.Steps.{AreSteps, HasSteps, IsCleared, Made, asked_text, line_by, made_by, no_step, one_more}
use Rattle.ick_syntax.specs.StatementTree.{StatementTree}

no_lines : (asked : Bool) (text : Text) → Adds text text (asked_text asked [])
no_lines true text = nothing text
no_lines false text = nothing text

more_lines : (asked : Bool) {a b c : Text} (x y : List ℕ) → Adds a b (asked_text asked x) → Adds b c (asked_text asked y) →
    Adds a c (asked_text asked (x ++ y))
more_lines true x y p q = then p q
more_lines false x y p q = then p q

abbrev pub made_first : List ℕ → Made
made_first xs = record { first = xs; store = 0 }

module _ {program : List StatementTree} {slots : Slots} {layout : Layout} where
  pub steps_none : (asked : Bool) (old d : StatementDraft) (text : Text) (made : Made) → IsCleared old d → made ≡ made_first [] →
      HasSteps program slots layout asked [] old d text text made
  steps_none asked old d text made cleared none = record {
    first = d;
    cleared = cleared;
    lines = [];
    steps = subst (λ m. AreSteps program slots layout [] d d [] m) (sym none) no_step;
    added = no_lines asked text;
  }

  pub steps_next : (asked : Bool) (ops : List Op) (i : ℕ) (d : Op) {start old new : StatementDraft} {a b c : Text} {made more : Made} →
      i < length ops →
      HasSteps program slots layout asked (take i ops) start old a b made →
      Follows program slots layout (get_or ops i d) old new →
      Reached program slots layout (take (i + 1) ops) new →
      (number : ℕ) → number ≡ i + 1 →
      more ≡ made_by number (get_or ops i d) old new made →
      Adds b c (asked_text asked (line_by slots layout number (get_or ops i d) old new)) →
      HasSteps program slots layout asked (take (i + 1) ops) start new a c more
  steps_next asked ops i d {start} {old} {new} {a} {b} {c} {made} {more} within has follows reached number is makes adds =
      let op = get_or ops i d in
      let counted : number ≡ length (take i ops) + 1 = omega (arith, length-take i ops, is, within) in
      subst (λ l. HasSteps program slots layout asked l start new a c more) (sym (take_more ops i d within)) record {
        first = has.first;
        cleared = has.cleared;
        lines = has.lines ++ line_by slots layout number op old new;
        steps = subst (λ m. AreSteps program slots layout (take i ops ++ op ∷ []) has.first new
            (has.lines ++ line_by slots layout number op old new) m) (sym makes)
            (subst (λ n. AreSteps program slots layout (take i ops ++ op ∷ []) has.first new
            (has.lines ++ line_by slots layout n op old new) (made_by n op old new made)) (sym counted)
            (one_more has.steps follows (subst (λ l. Reached program slots layout l new) (take_more ops i d within) reached)));
        added = more_lines asked has.lines (line_by slots layout number op old new) has.added adds;
      }
