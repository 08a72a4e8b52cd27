-- How much lines add to the count of work.
use Rattle.std.proofs.Common.{◌≡◌, ◌≤◌, ◌<◌, ◌+◌, ◌*◌, ◌^◌, ◌∙◌, ℕ, suc, Bool, List, [], ◌∷◌, ◌++◌, ap, arith, length, refl, subst}
use Rattle.std.proofs.Common.{sym}
use Rattle.std.specs.Prelude.{Some}
use Rattle.std.proofs.Math.Nat.{suc-mul}
use Rattle.std.proofs.lemmas.List.{length-append, length-take}
use Rattle.ick_code.specs.meaning.State.{State}
use Rattle.ick_syntax.specs.declared.tree.Name.{Name}
use Rattle.ick_inspect.specs.declared.positions.LineColumn.{LineColumn}
use Rattle.ick_step.specs.Seen.{Seen}
use Rattle.ick_session.specs.Answers.{Answers, AnswersCommand, Chooses, Explains, Goes, GoesOut, StopsShort, at_limit}
use Rattle.ick_session.specs.Answers.{changed, changes_settings, changes_state, chooses, goes_out, no_return, not_asked}
use Rattle.ick_session.specs.Answers.{not_changed}
use Rattle.ick_session.specs.Breakpoints.{AnswersBreakpoint, deletes, deletes_all, has_none, no_label, no_statement}
use Rattle.ick_session.specs.Breakpoints.{sets, sets_label}
use Rattle.ick_session.specs.Commands.{Order, to_break, to_break_label, to_choose, to_delete, to_delete_all}
use Rattle.ick_session.specs.Commands.{to_evaluate, to_explain, to_go_back}
use Rattle.ick_session.specs.Commands.{to_go_out, to_help, to_list, to_next, to_print}
use Rattle.ick_session.specs.Commands.{to_quit, to_run, to_run_until, to_show_cursor, to_show_output, to_show_stack}
use Rattle.ick_session.specs.Commands.{to_show_state, to_step, to_watch}
use Rattle.ick_session.specs.Lines.{AnswersLine, Talks, answered, full, no_command, no_line, one_more, quits, short}
use Rattle.ick_session.specs.Session.{Settings, HasNoRoom}
use Rattle.ick_session.specs.Travel.{CameSoFar, IsAt, IsBefore}

one_more_time : (n c : ℕ) → (n + 1) * c ≡ n * c + c
one_more_time n c =
    let next : n + 1 ≡ suc n = omega arith in
    ap (λ m. m * c) next ∙ suc-mul n c

-- a session that has kept within its limit still does so
module _ (f : Settings) (positions : List LineColumn) where
  on_within : (here : State → Bool) (most : ℕ) (s t : Seen) (text : List ℕ) → Goes f positions here most s t text →
      length s.answers ≤ f.limit → length t.answers ≤ f.limit
  on_within here most s t text h low = omega (arith, h.0.on.within)

  back_within : (s t : Seen) (steps : ℕ) → IsAt s t steps → length s.answers ≤ f.limit → length t.answers ≤ f.limit
  back_within s t steps h low = omega (arith, ap length h.answers, length-take steps s.answers)

  choice_within : (done : Bool) (s t : Seen) (text : List ℕ) → Chooses f positions done s t text →
      length s.answers ≤ f.limit → length t.answers ≤ f.limit
  choice_within done s t text (at_limit e) low = low
  choice_within done s t text (not_asked some none) low = low
  choice_within done s t text (chooses some asked) low =
      omega (arith, length-append s.answers (Some done ∷ []))

  why_within : (name : Name) (s t : Seen) (text : List ℕ) → Explains f positions name s t text →
      length s.answers ≤ f.limit → length t.answers ≤ f.limit
  why_within name s t text (changed at last is) low = back_within s t at is low
  why_within name s t text (not_changed none is) low = back_within s t (length s.answers) is low

  same_within : (s t : Seen) → t ≡ s → length s.answers ≤ f.limit → length t.answers ≤ f.limit
  same_within s t e low = subst (λ u. length u.answers ≤ f.limit) (sym e) low

  out_within : (s t : Seen) (text : List ℕ) → GoesOut f positions s t text → length s.answers ≤ f.limit →
      length t.answers ≤ f.limit
  out_within s t text (no_return none e) low = same_within s t e low
  out_within s t text (goes_out way some h) low = on_within _ _ s t way h low

  short_on_within : (here : State → Bool) (s t : Seen) → CameSoFar f here s t → length s.answers ≤ f.limit →
      length t.answers ≤ f.limit
  short_on_within here s t h low = omega (arith, h.on.within)

  short_back_within : (s t : Seen) → IsBefore s t → length s.answers ≤ f.limit → length t.answers ≤ f.limit
  short_back_within s t h low = back_within s t h.steps h.at low

  short_within : (s : Seen) (order : Order) (t : Seen) → StopsShort f s order t → length s.answers ≤ f.limit →
      length t.answers ≤ f.limit
  short_within s (to_step n) t h low = short_on_within _ s t h low
  short_within s (to_run n) t h low = short_on_within _ s t h low
  short_within s (to_run_until n) t h low = short_on_within _ s t h low
  short_within s to_next t h low = short_on_within _ s t h low
  short_within s to_go_out t h low = short_on_within _ s t h low
  short_within s (to_watch name) t h low = short_on_within _ s t h low
  short_within s (to_go_back n) t h low = short_back_within s t h low
  short_within s (to_explain name) t h low = short_back_within s t h low
  short_within s (to_choose done) t h low = same_within s t h low
  short_within s (to_break n) t h low = same_within s t h low
  short_within s (to_break_label label) t h low = same_within s t h low
  short_within s (to_evaluate expression) t h low = same_within s t h low
  short_within s (to_delete n) t h low = same_within s t h low
  short_within s to_delete_all t h low = same_within s t h low
  short_within s (to_print names) t h low = same_within s t h low
  short_within s to_show_stack t h low = same_within s t h low
  short_within s to_show_state t h low = same_within s t h low
  short_within s to_list t h low = same_within s t h low
  short_within s to_show_output t h low = same_within s t h low
  short_within s to_show_cursor t h low = same_within s t h low
  short_within s to_help t h low = same_within s t h low
  short_within s to_quit t h low = same_within s t h low

  command_within : (s : Seen) (order : Order) (t : Seen) (text : List ℕ) →
      AnswersCommand f positions s order t text → length s.answers ≤ f.limit → length t.answers ≤ f.limit
  command_within s (to_step n) t text h low = on_within _ _ s t text h low
  command_within s (to_run n) t text h low = on_within _ _ s t h.0 h.1 low
  command_within s to_go_out t text h low = out_within s t text h low
  command_within s (to_break n) t text h low = same_within s t h.0 low
  command_within s (to_break_label label) t text h low = same_within s t h.0 low
  command_within s (to_evaluate expression) t text h low = same_within s t h.0 low
  command_within s (to_delete n) t text h low = same_within s t h.0 low
  command_within s to_delete_all t text h low = same_within s t h.0 low
  command_within s (to_run_until n) t text h low = on_within _ _ s t text h low
  command_within s to_next t text h low = on_within _ _ s t text h low
  command_within s (to_watch name) t text h low = on_within _ _ s t h.0 h.1 low
  command_within s (to_go_back n) t text h low = back_within s t _ h.0 low
  command_within s (to_choose done) t text h low = choice_within done s t text h low
  command_within s (to_explain name) t text h low = why_within name s t text h low
  command_within s (to_print names) t text h low = same_within s t h.0 low
  command_within s to_show_stack t text h low = same_within s t h.0 low
  command_within s to_show_state t text h low = same_within s t h.0 low
  command_within s to_list t text h low = same_within s t h.0 low
  command_within s to_show_output t text h low = same_within s t h.0 low
  command_within s to_show_cursor t text h low = same_within s t h.0 low
  command_within s to_help t text h low = same_within s t h.0 low
  command_within s to_quit t text h low = same_within s t h.0 low

  answer_within : (s : Seen) (order : Order) (g : Settings) (t : Seen) (text : List ℕ) →
      Answers f positions s order g t text → length s.answers ≤ f.limit → length t.answers ≤ f.limit
  answer_within s order g t text (changes_state u words h) low = command_within s order t text h low
  answer_within s order g t text (changes_settings h words e) low = low

-- the settings keep their limit
set_limit : (f : Settings) (positions : List LineColumn) (order : Order) (g : Settings) (text : List ℕ) →
    AnswersBreakpoint f positions order g text → g.limit ≡ f.limit
set_limit f positions order g text (sets n h some e) = ap (λ x. x.limit) e.same
set_limit f positions order g text (no_statement n none) = refl
set_limit f positions order g text (sets_label label h some e) = ap (λ x. x.limit) e.same
set_limit f positions order g text (no_label label none) = refl
set_limit f positions order g text (deletes n h some e) = ap (λ x. x.limit) e.same
set_limit f positions order g text (has_none n none) = refl
set_limit f positions order g text (deletes_all h e) = ap (λ x. x.limit) e.same

answer_limit : (f : Settings) (positions : List LineColumn) (s : Seen) (order : Order) (g : Settings) (t : Seen)
    (text : List ℕ) → Answers f positions s order g t text → g.limit ≡ f.limit
answer_limit f positions s order g t text (changes_state u words h) = refl
answer_limit f positions s order g t text (changes_settings h words e) = set_limit f positions order g text e

-- what one line adds
record Adds (f g : Settings) (s t : Seen) (most : ℕ) : Type 0 where
  limit : g.limit ≡ f.limit
  within : length t.answers ≤ f.limit
  few : t.work ≤ s.work + most

line_adds : (f : Settings) (positions : List LineColumn) (s : Seen) (line : List ℕ) (g : Settings) (t : Seen)
    (text : List ℕ) (goes_on : Bool) → AnswersLine f positions s line g t text goes_on →
    length s.answers ≤ f.limit → Adds f g s t (f.limit + 3000)
line_adds f positions s line g t text goes_on (no_command e) low =
    record { limit = refl; within = low; few = omega arith }
line_adds f positions s line g t text goes_on (quits e) low =
    record { limit = refl; within = low; few = omega arith }
line_adds f positions s line g t text goes_on (answered order h u words is proper few a) low = record {
  limit = answer_limit f positions s order g t text a;
  within = answer_within f positions s order g t text a low;
  few = omega (arith, few);
}
line_adds f positions s line g t text goes_on (full order is proper none room) low =
    record { limit = refl; within = low; few = omega arith }
line_adds f positions s line g t text goes_on (short order u is proper few h) low =
    record { limit = refl; within = short_within f positions s order u h low; few = omega (arith, few) }

lines_add : (f : Settings) (positions : List LineColumn) (s : Seen) (lines : List (List ℕ)) (g : Settings) (t : Seen)
    (text : List ℕ) → Talks f positions s lines g t text → length s.answers ≤ f.limit →
    Adds f g s t (length lines * (f.limit + 3000))
lines_add f positions s lines g t text (no_line u) low =
    record { limit = refl; within = low; few = omega arith }
lines_add f positions s lines g t text (one_more h i r u v before line words more talks answers) low =
    let so_far = lines_add f positions s before h u words talks low in
    let last = line_adds h positions u line i v more _ answers (rw so_far.limit so_far.within) in
    let size : length (before ++ line ∷ []) ≡ length before + 1 = omega (arith, length-append before (line ∷ [])) in
    let grown = ap (λ n. n * (f.limit + 3000)) size ∙ one_more_time (length before) (f.limit + 3000) in
    record {
      limit = last.limit ∙ so_far.limit;
      within = omega (arith, last.within, so_far.limit);
      few = omega (arith, so_far.few, last.few, so_far.limit, grown);
    }

pub room_left : (f g : Settings) (positions : List LineColumn) (s t : Seen) (lines : List (List ℕ)) (text : List ℕ) →
    Talks f positions s lines g t text → length s.answers ≤ f.limit →
    s.work + (length lines + 1) * (f.limit + 3000) < 2 ^ 64 → ¬ HasNoRoom f.limit t
room_left f g positions s t lines text talks low room =
    let added = lines_add f positions s lines g t text talks low in
    λ full. omega (arith, added.few, added.within, full, one_more_time (length lines) (f.limit + 3000))
