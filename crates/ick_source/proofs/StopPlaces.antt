-- Where the reading of an unrecognised statement stops, between bytes.
use Rattle.std.proofs.Common.{◌≡◌, ℕ, false, List, Option, Some, None, drop, refl, sym, ap, subst, ◌∙◌}
use Rattle.std.specs.Prelude.{MatchOption}
use Rattle.ick_syntax.specs.declared.faults.Faults.{Faults}
use Rattle.ick_source.specs.declared.cursor.Cursor.{Cursor}
use Rattle.ick_source.specs.declared.parsed.Unread.{Unread}
use Rattle.ick_source.specs.declared.parsed.Unread.TheVariants.{Absent}
use Rattle.ick_source.specs.declared.position.Position.{Position}
use Rattle.ick_source.specs.declared.stop.Stop.{Stop}
use Rattle.ick_source.specs.declared.wanted.Wanted.{Wanted}
use Rattle.ick_source.specs.Boundaries.{IsStart}
use Rattle.ick_source.specs.BodyGrammar.{bodies}
use Rattle.ick_source.specs.Cursors.{left, Does, Outcome}
use Rattle.ick_source.specs.Grammar.{stands}
use Rattle.ick_source.specs.Position.{characters, left_at}
use Rattle.ick_source.specs.Statements.{Ends, IsRecognised, IsStatement, recognised, unrecognised}
use Rattle.ick_source.specs.StopAnswers.{StopsAt, within_body, behind_body, IsStopFrom, IsStopOf}
use Rattle.ick_source.specs.Stops.{stops}
use Rattle.ick_syntax.specs.BodyTree.{BodyTree}
use Rattle.ick_syntax.specs.StatementTree.{StatementTree}
use Rattle.ick_source.proofs.BodyByteReadings.{from_byte}
use Rattle.ick_source.proofs.GrammarLaws.{found, one_stands}
use Rattle.ick_source.proofs.StatementLemmas.{statement_exists}
use Rattle.ick_source.proofs.StopLemmas.{stopped}

-- a cursor that has refused is where reading stops
pub halted : (s : List ℕ) (i : ℕ) (old new : Cursor) (Q : BodyTree → Faults → Type 0) (u : Unread) (w : Wanted) →
    Does bodies old new Q → old.refusal ≡ None → old.text.now ≡ s → old.at ≡ record { at = i; between = false } →
    new.refusal ≡ Some u → u ≡ Absent w →
    stops bodies (characters (drop i s)) (characters (drop i s)) (left_at s new.at) w
halted s i old new Q u w p fine text at refused e =
    let halts = subst (λ o. Outcome bodies old new Q o) refused (p.ends fine) w e in
    let before : left old ≡ characters (drop i s) = (λ j. left_at (text j) (at j)) ∙ from_byte s i in
    let behind : left new ≡ left_at s new.at =
    ap (λ t. left_at t.now new.at) halts.1 ∙ ap (λ t. left_at t new.at) text in
    subst (λ l. stops bodies l l (left_at s new.at) w) before
    (subst (λ l. stops bodies (left old) (left old) l w) behind (halts.0 (left old)))

-- where reading stops, no body is recognised
pub stop_unrecognised : {s : List ℕ} {i to : ℕ} {tree : BodyTree} {x : Stop} → IsStopFrom s i x →
    IsRecognised s i to tree → ⊥
stop_unrecognised {s} {i} {to} {tree} {x} stop r = by_stop stop.stops
  where
    by_stop : {w : Wanted} → StopsAt s i stop.last w → ⊥
    by_stop (within_body st) =
        absurd (let e = sym (stopped bodies _ _ _ _ st) ∙ found bodies _ _ _ r.body.is_body in cc)
    by_stop (behind_body other st none) =
        none to (record {
          last = r.last;
          inside = r.body.inside;
          same = (one_stands bodies _ _ _ _ _ r.body.is_body st).0;
          gap = r.gap;
          boundary = r.boundary;
        })

no_body_there : {s : List ℕ} {head begin to : ℕ} {body : Option BodyTree} → Ends s head begin to body →
    ((end : ℕ) (tree : BodyTree) → IsRecognised s begin end tree → ⊥) → body ≡ None
no_body_there (recognised r) none = absurd (none _ _ r)
no_body_there (unrecognised n b) none = refl

-- the statement that starts there is not recognised
pub stop_there : {s : List ℕ} {at begin : ℕ} {x : Stop} → IsStart s at →
    ((to : ℕ) (tree : StatementTree) (g : IsStatement s at to tree) → g.begin ≡ begin) → IsStopFrom s begin x →
    IsStopOf s at x
stop_there {s} {at} {x = x} start same stop =
    let g = statement_exists s at start in
    let here = subst (λ b. IsStopFrom s b x) (sym (same g.0 g.1 g.2)) stop in
    record {
      to = g.0;
      tree = g.1;
      statement = g.2;
      unrecognised = no_body_there g.2.ends (λ end tree r. stop_unrecognised here r);
      head = g.2.head;
      begin = g.2.begin;
      says = g.2.says;
      gap = g.2.gap;
      stops = here;
    }

-- the statement that starts there is recognised
pub recognised_there : {s : List ℕ} {at begin end : ℕ} {body : BodyTree} →
    ((to : ℕ) (tree : StatementTree) (g : IsStatement s at to tree) → g.begin ≡ begin) → IsRecognised s begin end body →
    (to : ℕ) (tree : StatementTree) → IsStatement s at to tree → tree.body ≡ None → ⊥
recognised_there {s} {end = end} {body = body} same r to tree g e =
    by_ends (subst (λ i. IsRecognised s i end body) (sym (same to tree g)) r) g.ends e
  where
    by_ends : {b : Option BodyTree} → IsRecognised s g.begin end body → Ends s g.head g.begin to b → b ≡ None → ⊥
    by_ends here (recognised x) e = absurd (cc)
    by_ends here (unrecognised n x) e = n end body here

pub either : {P Q : Type 0} {R S : Stop → Type 0} (o : Option Stop) → MatchOption o P R → (P → Q) →
    ((x : Stop) → R x → S x) → MatchOption o Q S
either None p f g = f p
either (Some x) p f g = g x p
