-- The lines of a session have one answer at most, unless memory or the count of work lacks.
use Rattle.std.proofs.Common.{◌≡◌, ◌∙◌, ◌-◌, ◌==◌, ◌<◌, ◌⊎◌, ◌++◌, ◌∷◌, inl, inr, ℕ, Bool, List, []}
use Rattle.std.proofs.Common.{Some, None, ap, ap₂, arith, false, length, not, refl, subst, sym, true}
use Rattle.std.specs.Prelude.{min, nat_lt, take}
use Rattle.std.proofs.lemmas.Bool.{cases_eq, cases_order}
use Rattle.std.proofs.lemmas.List.{length-append, same_from_push}
use Rattle.ick_syntax.specs.declared.tree.Name.{Name}
use Rattle.ick_code.specs.meaning.Control.{place_of}
use Rattle.ick_code.specs.meaning.State.{State}
use Rattle.ick_inspect.specs.declared.positions.LineColumn.{LineColumn}
use Rattle.ick_source.specs.Laws.{OneRefusal}
use Rattle.ick_step.specs.Seen.{Seen, present}
use Rattle.ick_session.specs.Answers.{Answers, AnswersCommand, Chooses, Explains, Goes, GoesOut, at_limit, changed}
use Rattle.ick_session.specs.Answers.{changed_text, changes_settings, changes_state, chooses, goes_out, is_out}
use Rattle.ick_session.specs.Answers.{no_return, not_asked, not_changed, shown, watched_text}
use Rattle.ick_session.specs.Breakpoints.{AnswersBreakpoint, Clears, Sets, deletes, deletes_all, has_none}
use Rattle.ick_session.specs.Breakpoints.{no_label, no_statement, sets, sets_label}
use Rattle.ick_session.specs.Changes.{had_at}
use Rattle.ick_session.specs.Commands.{Order, any_number, to_break, to_break_label, to_choose, to_delete}
use Rattle.ick_session.specs.Commands.{to_delete_all, to_evaluate, to_explain, to_go_back, to_go_out, to_help, to_list}
use Rattle.ick_session.specs.Commands.{moves, to_next, to_print, to_quit, to_run, to_run_until, to_show_cursor}
use Rattle.ick_session.specs.Commands.{to_show_output, to_show_stack, to_show_state, to_step, to_watch}
use Rattle.ick_session.specs.Lines.{AnswersLine, answered, full, no_command, quits, short}
use Rattle.ick_session.specs.Session.{Settings}
use Rattle.ick_session.specs.Travel.{IsAt, IsLastChange, comes, differs, goes_on_text, steps_left, way_text}
use Rattle.ick_session.specs.Travel.{where_text}
use Rattle.ick_session.proofs.EvaluatedLaws.{evaluated_same}
use Rattle.ick_step_cli.specs.Laws.{ComeToOne, IsLack, SameSeen, TalksInFull, no_line, one_more}
use Rattle.ick_step_cli.specs.Talk.{last_said, meant, prompt}
use Rattle.ick_step_cli.proofs.StopLaws.{seen_same, stops_same}

-- two commands have come to the same state, with the same answer
pub record ComesToOne (t u : Seen) (text more : List ℕ) : Type 0 where
  pub seen : SameSeen t u
  pub text_is : more ≡ text

some_same : {A : Type 0} (x y : A) → Some x ≡ Some y → y ≡ x
some_same x y e = cc

-- the settings that commands of breakpoints lead to
sets_same : (n : ℕ) (has : Bool) (f g h : Settings) → Sets n has f g → Sets n has f h → h ≡ g
sets_same n has f g h one other =
    let at : (m : ℕ) → h.breakpoints m ≡ g.breakpoints m = λ m. elim (cases_eq m n) [
      | inl is ↦
          ap h.breakpoints is ∙ (other.there ∙ (sym one.there ∙ ap g.breakpoints (sym is)))
      | inr differ ↦ other.others m differ ∙ sym (one.others m differ)
    ] in
    let all : ◌≡◌ {A = ℕ → Bool} h.breakpoints g.breakpoints = λ i m. at m i in
    other.same ∙ (ap (λ b. record f { breakpoints = b }) all ∙ sym one.same)

clears_same : (f g h : Settings) → Clears f g → Clears f h → h ≡ g
clears_same f g h one other =
    let at : (m : ℕ) → h.breakpoints m ≡ g.breakpoints m = λ m. other.none m ∙ sym (one.none m) in
    let all : ◌≡◌ {A = ℕ → Bool} h.breakpoints g.breakpoints = λ i m. at m i in
    other.same ∙ (ap (λ b. record f { breakpoints = b }) all ∙ sym one.same)

breakpoint_same : (f : Settings) (positions : List LineColumn) (order : Order) (g h : Settings) (text more : List ℕ) →
    AnswersBreakpoint f positions order g text → AnswersBreakpoint f positions order h more → (h ≡ g) × (more ≡ text)
breakpoint_same f positions order g h text more (sets n a there one) (sets m b here other) =
    (sets_same n true f a b one other, refl)
breakpoint_same f positions order g h text more (sets n a there one) (no_statement m none) =
    let e : true ≡ false = sym there ∙ none in absurd (cc)
breakpoint_same f positions order g h text more (no_statement n none) (sets m b there other) =
    let e : true ≡ false = sym there ∙ none in absurd (cc)
breakpoint_same f positions order g h text more (no_statement n none) (no_statement m isnt) = (refl, refl)
breakpoint_same f positions order g h text more (sets_label label a there one) (sets_label l b here other) =
    (sets_same (place_of label f.program) true f a b one other, refl)
breakpoint_same f positions order g h text more (sets_label label a there one) (no_label l none) =
    let e : true ≡ false = sym there ∙ none in absurd (cc)
breakpoint_same f positions order g h text more (no_label label none) (sets_label l b there other) =
    let e : true ≡ false = sym there ∙ none in absurd (cc)
breakpoint_same f positions order g h text more (no_label label none) (no_label l isnt) = (refl, refl)
breakpoint_same f positions order g h text more (deletes n a has one) (deletes m b had other) =
    (sets_same n false f a b one other, refl)
breakpoint_same f positions order g h text more (deletes n a has one) (has_none m none) =
    let e : true ≡ false = sym has ∙ none in absurd (cc)
breakpoint_same f positions order g h text more (has_none n none) (deletes m b has other) =
    let e : true ≡ false = sym has ∙ none in absurd (cc)
breakpoint_same f positions order g h text more (has_none n none) (has_none m isnt) = (refl, refl)
breakpoint_same f positions order g h text more (deletes_all a one) (deletes_all b other) =
    (clears_same f a b one other, refl)

-- .. from a state of a session, whatever its count of work
module _ (f : Settings) (positions : List LineColumn) (s : Seen) (w : ℕ) where
  goes_same : (here : State → Bool) (most : ℕ) (t u : Seen) (text more : List ℕ) → Goes f positions here most s t text →
      Goes f positions here most (record s { work = w }) u more → ComesToOne t u text more
  goes_same here most t u text more g h =
      let same = stops_same f.given (comes f here) (min most (steps_left f.limit s)) s w t u g.0 h.0 in record {
        seen = same;
        text_is = h.1 ∙ (seen_same (λ p a xs. way_text f positions s
            (record { program = p; start = a; answers = xs; work = 0 })) t u same ∙ sym g.1);
      }

  run_same : (n : ℕ) (t u : Seen) (text more : List ℕ) → AnswersCommand f positions s (to_run n) t text →
      AnswersCommand f positions (record s { work = w }) (to_run n) u more → ComesToOne t u text more
  run_same n t u text more g h =
      let way = goes_same (λ v. false) n t u g.0 h.0 g.1 h.1 in record {
        seen = way.seen;
        text_is = h.2 ∙ (ap₂ (λ x y. x ++ y) way.text_is
            (seen_same (λ p a xs. goes_on_text f n s (record { program = p; start = a; answers = xs; work = 0 }))
            t u way.seen) ∙ sym g.2);
      }

  watch_same : (name : Name) (t u : Seen) (text more : List ℕ) → AnswersCommand f positions s (to_watch name) t text →
      AnswersCommand f positions (record s { work = w }) (to_watch name) u more → ComesToOne t u text more
  watch_same name t u text more g h =
      let way = goes_same (differs (had_at (present s) name) name) any_number t u g.0 h.0 g.1 h.1 in record {
        seen = way.seen;
        text_is = h.2 ∙ (ap₂ (λ x y. x ++ y) way.text_is
            (seen_same (λ p a xs. watched_text name s (record { program = p; start = a; answers = xs; work = 0 }))
            t u way.seen) ∙ sym g.2);
      }

  stays_same : (t u : Seen) → t ≡ s → u ≡ record s { work = w } → SameSeen t u
  stays_same t u g h = record {
    program = ap (λ (x : Seen). x.program) h ∙ sym (ap (λ (x : Seen). x.program) g);
    start = ap (λ (x : Seen). x.start) h ∙ sym (ap (λ (x : Seen). x.start) g);
    answers = ap (λ (x : Seen). x.answers) h ∙ sym (ap (λ (x : Seen). x.answers) g);
  }

  out_same : (t u : Seen) (text more : List ℕ) → GoesOut f positions s t text →
      GoesOut f positions (record s { work = w }) u more → ComesToOne t u text more
  out_same t u text more (no_return none g) (no_return isnt h) = record { seen = stays_same t u g h; text_is = refl }
  out_same t u text more (no_return none g) (goes_out x some h) =
      let size = ap length none in absurd (omega arith)
  out_same t u text more (goes_out x some g) (no_return none h) =
      let size = ap length none in absurd (omega arith)
  out_same t u text more (goes_out x some g) (goes_out y any h) =
      goes_same (is_out (present s)) any_number t u x y g h

  at_same : (t u : Seen) (n m : ℕ) → IsAt s t n → IsAt (record s { work = w }) u m → m ≡ n → SameSeen t u
  at_same t u n m g h e = record {
    program = h.program ∙ sym g.program;
    start = h.start ∙ sym g.start;
    answers = h.answers ∙ (ap (λ k. take k s.answers) e ∙ sym g.answers);
  }

  back_same : (n : ℕ) (t u : Seen) (text more : List ℕ) → AnswersCommand f positions s (to_go_back n) t text →
      AnswersCommand f positions (record s { work = w }) (to_go_back n) u more → ComesToOne t u text more
  back_same n t u text more g h =
      let same = at_same t u (length s.answers - n) (length s.answers - n) g.0 h.0 refl in record {
        seen = same;
        text_is = h.1 ∙ (seen_same (λ p a xs. where_text f positions
            (record { program = p; start = a; answers = xs; work = 0 })) t u same ∙ sym g.1);
      }

  choose_same : (done : Bool) (t u : Seen) (text more : List ℕ) → Chooses f positions done s t text →
      Chooses f positions done (record s { work = w }) u more → ComesToOne t u text more
  choose_same done t u text more (at_limit none) (at_limit isnt) =
      record { seen = record { program = refl; start = refl; answers = refl }; text_is = refl }
  choose_same done t u text more (at_limit none) (not_asked some h) = absurd (omega arith)
  choose_same done t u text more (at_limit none) (chooses some h) = absurd (omega arith)
  choose_same done t u text more (not_asked some g) (at_limit none) = absurd (omega arith)
  choose_same done t u text more (not_asked some g) (not_asked any h) =
      record { seen = record { program = refl; start = refl; answers = refl }; text_is = refl }
  choose_same done t u text more (not_asked some g) (chooses any h) =
      let e : false ≡ true = sym g ∙ h in absurd (cc)
  choose_same done t u text more (chooses some g) (at_limit none) = absurd (omega arith)
  choose_same done t u text more (chooses some g) (not_asked any h) =
      let e : true ≡ false = sym g ∙ h in absurd (cc)
  choose_same done t u text more (chooses some g) (chooses any h) =
      record { seen = record { program = refl; start = refl; answers = refl }; text_is = refl }

  -- one step changed a name last
  last_same : (name : Name) (count n m : ℕ) → IsLastChange s name count (Some n) →
      IsLastChange (record s { work = w }) name count (Some m) → m ≡ n
  last_same name count n m g h = by (cases_order m n) where
    by : (m ≡ n) ⊎ ((m < n) ⊎ (n < m)) → m ≡ n
    by (inl same) = same
    by (inr (inl less)) =
        let e : true ≡ false = sym (h.later n (omega arith) g.within) ∙ g.changes in absurd (cc)
    by (inr (inr more)) =
        let e : true ≡ false = sym (g.later m (omega arith) h.within) ∙ h.changes in absurd (cc)

  explain_same : (name : Name) (t u : Seen) (text more : List ℕ) → Explains f positions name s t text →
      Explains f positions name (record s { work = w }) u more → ComesToOne t u text more
  explain_same name t u text more (changed n last is) (changed m late so) =
      let same = at_same t u n m is so (last_same name (length s.answers) n m last late) in record {
        seen = same;
        text_is = seen_same (λ p a xs. changed_text name (present s) true
            (present (record { program = p; start = a; answers = xs; work = 0 })).place
            ++ where_text f positions (record { program = p; start = a; answers = xs; work = 0 })) t u same;
      }
  explain_same name t u text more (changed n last is) (not_changed none so) =
      let e : true ≡ false = sym (none n (omega arith) last.within) ∙ last.changes in absurd (cc)
  explain_same name t u text more (not_changed none is) (changed m last so) =
      let e : true ≡ false = sym (none m (omega arith) last.within) ∙ last.changes in absurd (cc)
  explain_same name t u text more (not_changed none is) (not_changed isnt so) =
      record { seen = at_same t u (length s.answers) (length s.answers) is so refl; text_is = refl }

  shown_same : (order : Order) (t u : Seen) (text more : List ℕ) → (t ≡ s) × (shown positions s order ≡ Some text) →
      (u ≡ record s { work = w }) × (shown positions s order ≡ Some more) → ComesToOne t u text more
  shown_same order t u text more g h =
      record { seen = stays_same t u g.0 h.0; text_is = some_same text more (sym g.1 ∙ h.1) }

  evaluate_same : OneRefusal → (expression : List ℕ) (t u : Seen) (text more : List ℕ) →
      AnswersCommand f positions s (to_evaluate expression) t text →
      AnswersCommand f positions (record s { work = w }) (to_evaluate expression) u more → ComesToOne t u text more
  evaluate_same refusals expression t u text more g h = record {
    seen = stays_same t u g.0 h.0;
    text_is = evaluated_same refusals (present s) expression text more g.1 h.1;
  }

  command_same : OneRefusal → (order : Order) (t u : Seen) (text more : List ℕ) →
      AnswersCommand f positions s order t text →
      AnswersCommand f positions (record s { work = w }) order u more → ComesToOne t u text more
  command_same refusals (to_step n) t u text more g h = goes_same (λ v. false) n t u text more g h
  command_same refusals (to_run n) t u text more g h = run_same n t u text more g h
  command_same refusals (to_run_until n) t u text more g h = goes_same (λ v. v.place == n) any_number t u text more g h
  command_same refusals to_next t u text more g h =
      goes_same (λ v. not (nat_lt (length (present s).returns) (length v.returns))) any_number t u text more g h
  command_same refusals to_go_out t u text more g h = out_same t u text more g h
  command_same refusals (to_watch name) t u text more g h = watch_same name t u text more g h
  command_same refusals (to_go_back n) t u text more g h = back_same n t u text more g h
  command_same refusals (to_choose done) t u text more g h = choose_same done t u text more g h
  command_same refusals (to_explain name) t u text more g h = explain_same name t u text more g h
  command_same refusals (to_evaluate expression) t u text more g h = evaluate_same refusals expression t u text more g h
  command_same refusals (to_print names) t u text more g h = shown_same (to_print names) t u text more g h
  command_same refusals to_show_stack t u text more g h = shown_same to_show_stack t u text more g h
  command_same refusals to_show_state t u text more g h = shown_same to_show_state t u text more g h
  command_same refusals to_list t u text more g h = shown_same to_list t u text more g h
  command_same refusals to_show_output t u text more g h = shown_same to_show_output t u text more g h
  command_same refusals to_show_cursor t u text more g h = shown_same to_show_cursor t u text more g h
  command_same refusals to_help t u text more g h = shown_same to_help t u text more g h
  command_same refusals to_quit t u text more g h = shown_same to_quit t u text more g h
  command_same refusals (to_break n) t u text more g h = shown_same (to_break n) t u text more g h
  command_same refusals (to_break_label label) t u text more g h = shown_same (to_break_label label) t u text more g h
  command_same refusals (to_delete n) t u text more g h = shown_same (to_delete n) t u text more g h
  command_same refusals to_delete_all t u text more g h = shown_same to_delete_all t u text more g h

-- a command of breakpoints has no other answer
no_other : (f : Settings) (positions : List LineColumn) (s : Seen) (order : Order) (g : Settings) (t : Seen)
    (text more : List ℕ) → AnswersBreakpoint f positions order g text → AnswersCommand f positions s order t more → ⊥
no_other f positions s order g t text more (sets n a there one) h = let e = h.1 in absurd (cc)
no_other f positions s order g t text more (no_statement n none) h = let e = h.1 in absurd (cc)
no_other f positions s order g t text more (sets_label label a there one) h = let e = h.1 in absurd (cc)
no_other f positions s order g t text more (no_label label none) h = let e = h.1 in absurd (cc)
no_other f positions s order g t text more (deletes n a has one) h = let e = h.1 in absurd (cc)
no_other f positions s order g t text more (has_none n none) h = let e = h.1 in absurd (cc)
no_other f positions s order g t text more (deletes_all a one) h = let e = h.1 in absurd (cc)

-- .. where a text compiles in one way at most, or is refused in one
module _ (refusals : OneRefusal) where
  order_answered : (f : Settings) (positions : List LineColumn) (s : Seen) (w : ℕ) (order : Order) (g h : Settings)
      (t u : Seen) (text more : List ℕ) → Answers f positions s order g t text →
      Answers f positions (record s { work = w }) order h u more → ComeToOne g h t u text more
  order_answered f positions s w order g h t u text more (changes_state t' text' one) (changes_state u' more' other) =
      let same = command_same f positions s w refusals order t' u' text' more' one other in
      record { settings = refl; seen = same.seen; text_is = same.text_is }
  order_answered f positions s w order g h t u text more (changes_state t' text' one)
      (changes_settings h' more' other) =
      absurd (no_other f positions s order h' t' more' text' other one)
  order_answered f positions s w order g h t u text more (changes_settings g' text' one)
      (changes_state u' more' other) =
      absurd (no_other f positions (record s { work = w }) order g' u' text' more' one other)
  order_answered f positions s w order g h t u text more (changes_settings g' text' one)
      (changes_settings h' more' other) =
      let same = breakpoint_same f positions order g' h' text' more' one other in
      record { settings = same.0; seen = record { program = refl; start = refl; answers = refl }; text_is = same.1 }

  -- the answer to a line
  line_answered : (f : Settings) (positions : List LineColumn) (s : Seen) (w : ℕ) (line : List ℕ) (g h : Settings)
      (t u : Seen) (text more : List ℕ) (on go : Bool) → AnswersLine f positions s line g t text on →
      AnswersLine f positions (record s { work = w }) line h u more go → ¬ IsLack t text → ¬ IsLack u more →
      ComeToOne g h t u text more
  line_answered f positions s w line g h t u text more on go (short o v is other room stops) that whole none =
      absurd (whole (inl (moves o, refl)))
  line_answered f positions s w line g h t u text more on go (full o is other moving room) that whole none =
      absurd (whole (inr refl))
  line_answered f positions s w line g h t u text more on go (no_command isnt)
      (short o v is other room stops) some none =
      absurd (none (inl (moves o, refl)))
  line_answered f positions s w line g h t u text more on go (no_command isnt) (full o is other moving room) some none =
      absurd (none (inr refl))
  line_answered f positions s w line g h t u text more on go (no_command isnt) (no_command nor) some none =
      record { settings = refl; seen = record { program = refl; start = refl; answers = refl }; text_is = refl }
  line_answered f positions s w line g h t u text more on go (no_command isnt) (quits is) some none =
      let e : None ≡ Some to_quit = sym isnt ∙ is in absurd (cc)
  line_answered f positions s w line g h t u text more on go (no_command isnt)
      (answered o a v x is other room answers) some none =
      let e : None ≡ Some o = sym isnt ∙ is in absurd (cc)
  line_answered f positions s w line g h t u text more on go (quits is) (short o v so other room stops) some none =
      absurd (none (inl (moves o, refl)))
  line_answered f positions s w line g h t u text more on go (quits is) (full o so other moving room) some none =
      absurd (none (inr refl))
  line_answered f positions s w line g h t u text more on go (quits is) (no_command isnt) some none =
      let e : None ≡ Some to_quit = sym isnt ∙ is in absurd (cc)
  line_answered f positions s w line g h t u text more on go (quits is) (quits so) some none =
      record { settings = refl; seen = record { program = refl; start = refl; answers = refl }; text_is = refl }
  line_answered f positions s w line g h t u text more on go (quits is)
      (answered o a v x so other room answers) some none =
      absurd (other (some_same to_quit o (sym is ∙ so)))
  line_answered f positions s w line g h t u text more on go (answered o a v x is other room answers)
      (short q y so differ fits stops) some none = absurd (none (inl (moves q, refl)))
  line_answered f positions s w line g h t u text more on go (answered o a v x is other room answers)
      (full q so differ moving fits) some none = absurd (none (inr refl))
  line_answered f positions s w line g h t u text more on go (answered o a v x is other room answers)
      (no_command isnt) some none =
      let e : None ≡ Some o = sym isnt ∙ is in absurd (cc)
  line_answered f positions s w line g h t u text more on go (answered o a v x is other room answers)
      (quits so) some none =
      absurd (other (some_same to_quit o (sym so ∙ is)))
  line_answered f positions s w line g h t u text more on go (answered o a v x is other room answers)
      (answered q b y z so differ fits answers') some none =
      order_answered f positions s w o a b v y x z answers
      (subst (λ (k : Order). Answers f positions (record s { work = w }) k b y z) (some_same o q (sym is ∙ so))
      answers')

  -- .. behind lines that had the same answers
  next_answered : (f f' : Settings) (positions : List LineColumn) (s s' : Seen) (line line' : List ℕ) (g h : Settings)
      (t u : Seen) (text more : List ℕ) → f' ≡ f → SameSeen s s' → line ≡ line' →
      AnswersLine f positions s line g t text true → AnswersLine f' positions s' line' h u more true →
      ¬ IsLack t text → ¬ IsLack u more → ComeToOne g h t u text more
  next_answered f f' positions s s' line line' g h t u text more set same is one other some none =
      let at : s' ≡ record s { work = s'.work } =
      seen_same (λ p a xs. record { program = p; start = a; answers = xs; work = s'.work }) s s' same in
      line_answered f positions s s'.work line g h t u text more true true one
      (subst (λ (x : Settings). AnswersLine x positions (record s { work = s'.work }) line h u more true) set
      (subst (λ (x : Seen). AnswersLine f' positions x line h u more true) at
      (subst (λ (l : List ℕ). AnswersLine f' positions s' l h u more true) (sym is) other))) some none

  no_push : (lines : List (List ℕ)) (line : List ℕ) → [] ≡ lines ++ line ∷ [] → ⊥
  no_push lines line e =
      let size = ap length e in let all = length-append lines (line ∷ []) in absurd (omega arith)

  lines_answered : (terminal : Bool) (f : Settings) (positions : List LineColumn) (s : Seen)
      (lines others : List (List ℕ)) (g h : Settings) (t u : Seen) (text more : List ℕ) → lines ≡ others →
      TalksInFull terminal f positions s lines g t text →
      TalksInFull terminal f positions s others h u more → ComeToOne g h t u text more
  lines_answered terminal f positions s lines others g h t u text more e (no_line a) (no_line b) =
      record { settings = refl; seen = record { program = refl; start = refl; answers = refl }; text_is = refl }
  lines_answered terminal f positions s lines others g h t u text more e (no_line a)
      (one_more p q b v y ls l x z before answers whole) = absurd (no_push ls l e)
  lines_answered terminal f positions s lines others g h t u text more e
      (one_more p q b v y ls l x z before answers whole) (no_line a) =
      absurd (no_push ls l (sym e))
  lines_answered terminal f positions s lines others g h t u text more e
      (one_more p q a v y ls l x z before answers whole)
      (one_more p' q' b v' y' ls' l' x' z' earlier answers' full') =
      let parts = same_from_push ls ls' l l' e in
      let front = lines_answered terminal f positions s ls ls' p p' v v' x x' parts.0 before earlier in
      let last = next_answered p p' positions v v' (meant terminal (last_said ls) l)
      (meant terminal (last_said ls') l') q q' y y' z z' front.settings front.seen
      (ap₂ (λ (a : List (List ℕ)) b. meant terminal (last_said a) b) parts.0 parts.1)
      answers answers' whole full' in
      record {
        settings = last.settings;
        seen = last.seen;
        text_is = ap₂ (λ c d. c ++ (d ++ prompt terminal)) front.text_is last.text_is;
      }

  pub same_session : (terminal : Bool) (f : Settings) (positions : List LineColumn) (s : Seen) (lines : List (List ℕ))
      (g h : Settings) (t u : Seen) (text more : List ℕ) → TalksInFull terminal f positions s lines g t text →
      TalksInFull terminal f positions s lines h u more → ComeToOne g h t u text more
  same_session terminal f positions s lines g h t u text more one other =
      lines_answered terminal f positions s lines lines g h t u text more refl one other
