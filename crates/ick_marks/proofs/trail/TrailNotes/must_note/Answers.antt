use Rattle.std.proofs.Common.{◌≡◌, ◌≢◌, ◌<◌, ◌∙◌, Some, ap, arith, rules}
use Rattle.ick_marks.proofs.{Names.{alike_rewinds, changes_in}, Changes.newest_register}
use Rattle.ick_runtime.proofs.Undoing.{keeps_register, register_left}
use Rattle.ick_marks.proofs.trail.TrailNotes.must_note.Goals as goal

pub returns-else-at-self : goal.returns-else-at-self
returns-else-at-self c = search (rules, alike_rewinds, register_left)

pub returns-then-at-self : goal.returns-then-at-self
returns-then-at-self c = λ same old k v m can h.
    let t = c.args.self.now in
    let at_is : t.newest ≡ c.args.at = search rules in
    let below : c.args.at < t.base = c.if-at-self.true in
    let set : t.newest ≢ 4294967295 = grind arith in
    let named = t.named set in
    let noted = newest_register t c.args.at named.0 (named.1 ∙ ap Some at_is) in (
      h.0,
      keeps_register t.base (changes_in t) noted.older t.low k c.args.at old noted.old v m c.if-at-self.true
          noted.noted_is (omega (arith, h.0, noted.newer)) h.1,
    )
