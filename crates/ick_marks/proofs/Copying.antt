-- States that are kept, and their copies.
use Rattle.std.proofs.Common.{ap, drop, length, rules, sym, ◌++◌, ◌∙◌, ◌≡◌, ◌≤◌}
use Rattle.ick_marks.proofs.Names.{AreSame, IsLoaded, IsProgram, LoweredParts, parts_of, saved_view, state_of, ∥∥₁_elim, Code, Input, IsReady, IsSaved}
use Rattle.ick_marks.proofs.Names.{IsSteady, props, Saved, View}
use Rattle.ick_marks.{proofs.Readiness.ready_of, proofs.Readiness.state_of_both, specs.Saved.IsKept}
use Rattle.ick_marks.proofs.Saving.{first_low, kept_state, loaded, same_parts_trans, used_low}

-- a kept state has the same lists as another one, but for spare room of stashes
pub record IsCopy (one copy : Saved) : Type 0 where
  pub place_same : copy.place ≡ one.place
  pub numbers_same : copy.numbers.items ≡ one.numbers.items
  pub home_same : copy.store_target.items ≡ one.store_target.items
  pub statuses_same : copy.statuses.items ≡ one.statuses.items
  pub returns_same : copy.returns.items ≡ one.returns.items
  pub parts_same : AreSame (parts_of one.rest) (parts_of copy.rest)

pub copy_kept : (code : Code) (lowered : LoweredParts) (one copy : Saved) → IsCopy one copy →
    IsKept code lowered one → IsKept code lowered copy
copy_kept code lowered one copy is kept = ∥∥₁_elim kept (hlevel props) (λ k. let was = k.2 in
    ∣ (
      k.0,
      k.1,
      record {
        place_kept = is.place_same ∙ was.place_kept;
        numbers_kept = is.numbers_same ∙ was.numbers_kept;
        home_kept = is.home_same ∙ was.home_kept;
        statuses_kept = is.statuses_same ∙ was.statuses_kept;
        returns_kept = is.returns_same ∙ was.returns_kept;
        parts_kept = same_parts_trans was.parts_kept is.parts_same;
      },
    ) ∣₁)

pub copy_state : (code : Code) (lowered : LoweredParts) (one copy : Saved) → IsCopy one copy → (input : Input) →
    state_of code lowered input (saved_view copy) ≡ state_of code lowered input (saved_view one)
copy_state code lowered one copy is input = search rules

-- the lists of a kept state fit into a memory of its program
pub record Fits (saved : Saved) (v : View) : Type 0 where
  pub numbers : length saved.numbers.items ≤ length v.registers
  pub returns : length saved.returns.items ≤ length v.returns
  pub store_target : length v.store_target ≡ length saved.store_target.items
  pub statuses : length v.statuses ≡ length saved.statuses.items

pub kept_fits : (code : Code) (lowered : LoweredParts) (saved : Saved) (v : View) → IsProgram code lowered →
    IsKept code lowered saved → IsSteady code lowered v → Fits saved v
kept_fits code lowered saved v is kept steady = ∥∥₁_elim kept (hlevel props) (λ h.
    let was = h.2 in
    let there = h.1.steady in
    record {
      numbers = rw was.numbers_kept (first_low code lowered is v h.0 steady h.1);
      returns = rw was.returns_kept (used_low code lowered is v h.0 steady h.1);
      store_target = steady.store_target ∙ sym (ap length was.home_kept ∙ there.store_target);
      statuses = steady.statuses.count ∙ sym (ap length was.statuses_kept ∙ there.statuses.count);
    })

-- a kept state that was put into a memory
pub kept_loaded : (code : Code) (lowered : LoweredParts) (saved : Saved) (old new : View) → IsProgram code lowered →
    IsKept code lowered saved → IsSteady code lowered old →
    new.registers ≡ saved.numbers.items ++ drop (length saved.numbers.items) old.registers →
    new.returns ≡ saved.returns.items ++ drop (length saved.returns.items) old.returns → new.store_target ≡ saved.store_target.items →
    new.statuses ≡ saved.statuses.items → new.place ≡ saved.place → new.depth ≡ length saved.returns.items →
    AreSame (parts_of saved.rest) new.parts → IsLoaded code lowered (saved_view saved) new
kept_loaded code lowered saved old new is kept steady registers returns store_target statuses place depth parts = record {
  ready = ready_of code lowered new kept (λ h. (by h).ready);
  states = λ input. state_of_both _ _ kept
      (λ h. (by h).states input ∙ sym (kept_state code lowered saved h.0 is.lowered_is.base h.2 input));
}
  where
    by : (h : (m : View) × IsReady code lowered m × IsSaved lowered saved m) → IsLoaded code lowered h.0 new
    by h = let was = h.2 in
        loaded code lowered is old h.0 steady h.1 new (parts_of saved.rest) (rw was.numbers_kept at registers)
        (rw was.returns_kept at returns) (store_target ∙ was.home_kept) (statuses ∙ was.statuses_kept) (place ∙ was.place_kept)
        (depth ∙ ap length was.returns_kept) was.parts_kept parts

-- for states that are copied
pub ruleset copying = (copy_kept, copy_state)
