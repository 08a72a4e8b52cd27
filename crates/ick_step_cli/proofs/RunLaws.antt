-- A run stops at one place.
use Rattle.std.proofs.Common.{◌≡◌, ◌+◌, ℕ, zero, suc, Bool, List, Option, Some, None, arith, refl, sym}
use Rattle.ick_code.specs.declared.code.Code.{Code}
use Rattle.ick_inspect.specs.declared.positions.LineColumn.{LineColumn}
use Rattle.ick_step.specs.Seen.{Seen, with_answer}
use Rattle.ick_session.specs.Session.{Settings}
use Rattle.ick_session.specs.Travel.{next_answer}
use Rattle.ick_session.proofs.TravelLaws.{Made, made_more, none_made, stops_over, stops_stuck}
use Rattle.ick_step_cli.specs.Trace.{IsRun, begin, nowhere, trace_answer}
use Rattle.ick_step_cli.proofs.StopLaws.{seen_same, stops_same}

-- there is one
runs_from : (f : Settings) (n steps : ℕ) (t : Seen) → Made f.given nowhere steps (begin f) t → steps + n ≡ f.limit →
    (u : Seen) × IsRun f u
runs_from f zero steps t made e = (t, stops_over f.given nowhere steps f.limit (begin f) t made (omega arith))
runs_from f (suc n) steps t made e =
    by (next_answer f.given t) refl (λ u more count. runs_from f n (steps + 1) u more count)
  where
    by : (a : Option (Option Bool)) → next_answer f.given t ≡ a
        → ((u : Seen) → Made f.given nowhere (steps + 1) (begin f) u → steps + 1 + n ≡ f.limit → (v : Seen) × IsRun f v)
        → (u : Seen) × IsRun f u
    by None is on = (t, stops_stuck f.given nowhere steps f.limit (begin f) t t made (omega arith) refl is)
    by (Some a) is on =
        on (with_answer a t)
        (made_more f.given nowhere steps (begin f) t (with_answer a t) made (a, sym is, refl) refl) (omega arith)

pub has_run : (f : Settings) → (t : Seen) × IsRun f t
has_run f = runs_from f f.limit 0 (begin f) (none_made f.given nowhere (begin f)) (omega arith)

pub same_trace : (f : Settings) (code : Code) (positions : List LineColumn) (t u : Seen) → IsRun f t → IsRun f u →
    trace_answer f.limit code positions u ≡ trace_answer f.limit code positions t
same_trace f code positions t u h g =
    seen_same
    (λ p s xs. trace_answer f.limit code positions (record { program = p; start = s; answers = xs; work = 0 }))
    t u (stops_same f.given nowhere f.limit (begin f) 0 t u h g)
