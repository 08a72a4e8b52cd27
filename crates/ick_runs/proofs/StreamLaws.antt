-- How a streamed run goes.
use Rattle.std.proofs.Common.{◌≡◌, ℕ, zero, suc, ◌+◌, ◌-◌, ◌<◌, ◌≤◌, le_refl, Bool, true}
use Rattle.std.proofs.Common.{false, List, [], ◌∷◌, ◌++◌, length}
use Rattle.std.proofs.Common.{inl, inr, take, drop, refl, ap, sym, ◌∙◌, subst, arith, append_assoc}
use Rattle.std.specs.Prelude.{Result, Ok, Err, Some, if◌then◌else◌}
use Rattle.std.proofs.Math.Seq.{take-append-add}
use Rattle.std.proofs.lemmas.List.{append-nil, length-append, length-take, take_min, take-append-drop, take-append-le}
use Rattle.std.proofs.Props.{props}
use mathlib.Core.Logic.{∥∥₁_elim}
use Rattle.ick_code.specs.meaning.State.{State, Ending}
use Rattle.ick_code.specs.meaning.Move.{Asking, plain, choice, ended, ask, advance}
use Rattle.ick_code.specs.Laws.{after_output}
use Rattle.ick_code.proofs.AskLaws.{ask_same}
use Rattle.ick_code.proofs.Frames.{advance_frame}
use Rattle.ick_backtrack.specs.Machine.{Program, Machine}
use Rattle.ick_backtrack.specs.Asked.{Finish, finished, at_limit, IsGoing}
use Rattle.ick_backtrack.specs.Steps.{after_steps, IsPlain, RunsOn}
use Rattle.ick_devices.specs.declared.feed_fault.FeedFault.{FeedFault}
use Rattle.ick_devices.specs.declared.feed_fault.FeedFault.TheVariants.{NoMemory as FeedOutOfMemory, Read as NotRead}
use Rattle.ick_explorer.specs.Errors.{error_of}
use Rattle.ick_explorer.specs.declared.errors.RunsError.TheVariants.{Read}
use Rattle.ick_machine.specs.LiveAsk.{end_kind_of, live_asked}
use Rattle.ick_machine.specs.Feeds.{MeetsInput}
use Rattle.ick_machine.specs.Live.{LiveMachine, fed, cleared, live_ask, fault_message}
use Rattle.ick_machine.specs.Printing.{IsAtInput, IsDone, Prints}
use Rattle.ick_machine.specs.Message.{asked_message}
use Rattle.ick_machine.specs.declared.asking.LiveAsk.{LiveAsk}
use Rattle.ick_machine.specs.declared.asking.LiveAsk.TheVariants.{Choice, Ended, Failed}
use Rattle.ick_machine.specs.declared.asking.EndKind.{EndKind}
use Rattle.ick_machine.specs.declared.asking.EndKind.TheVariants.{Wants, Limit}
use Rattle.ick_explorer.specs.Runs.{ends, wants, run, run_at_limit, Execution}
use Rattle.ick_explorer.specs.Paths.{Leads}
use Rattle.ick_explorer.specs.Walks.{EndsHere}
use Rattle.ick_runs.specs.Chosen.{Chosen, IsChosen, answer_of}
use Rattle.ick_runs.specs.Streams.{finish_kind, finish_message, stop_kind, stop_message, HasStreamed, StopsAtInput}
use Rattle.ick_runs.specs.Streaming.{IsAlong, AreTaken, HasStopped, IsCutOff}
use Rattle.ick_runs.specs.declared.streamed.Streamed.{Streamed}
use Rattle.ick_explorer.specs.declared.errors.RunsError.{RunsError}
use Rattle.ick_explorer.proofs.RunLaws.{Leads-start, Leads-plain, Leads-choice, Leads-wants, Leads-ends}
use Rattle.ick_explorer.proofs.RunLaws.{ends_finished, ends_limit}
use Rattle.ick_runs.proofs.OutputLaws.{leads_grows}
use Rattle.ick_runs.proofs.ChosenLaws.{taken_on}

-- what a state asks rests neither on its input nor on its output
ask_fed : (p : Program) (s : State) (input : List ℕ) → ask p (fed input s) ≡ ask p s
ask_fed p s input = ask_same p s (fed input s) refl refl refl

ask_after : (p : Program) (s : State) (o : List ℕ) → ask p (after_output o s) ≡ ask p s
ask_after p s o = ask_same p s (after_output o s) refl refl refl

taken_split : (c taken : List Bool) → AreTaken c taken → taken ++ drop (length taken) c ≡ c
taken_split c taken f = ap (λ x. x ++ drop (length taken) c) f.same ∙ take-append-drop (length taken) c

pub none_taken : (c : List Bool) → AreTaken c []
none_taken c = record { within = omega arith; same = refl }

take_whole : (text : List ℕ) → take (length text) text ≡ text
take_whole [] = refl
take_whole (x ∷ text) = ap (λ r. x ∷ r) (take_whole text)

-- the beginning of a longer text
part_of : (before sent out rest whole after : List ℕ) (k : ℕ) → k ≤ length out →
    whole ≡ (sent ++ out) ++ rest → after ≡ (before ++ sent) ++ take k out →
    after ≡ before ++ take (length sent + k) whole
part_of before sent out rest whole after k le e f =
    f ∙ (append_assoc before sent (take k out) ∙ ap (λ x. before ++ x)
    (ap (λ x. sent ++ x) (sym (take-append-le k out rest le))
    ∙ (sym (take-append-add sent (out ++ rest) k)
    ∙ ap (take (length sent + k)) (sym (append_assoc sent out rest) ∙ sym e))))

-- a state whose output has left is the same with what was written before it
left_then : (sent : List ℕ) (u : State) → after_output sent u ≡ after_output (sent ++ u.output) (cleared u)
left_then sent u = ap (λ x. record u { output = x }) (sym (append-nil (sent ++ u.output)))

-- where nothing is held, what has left is all
last_of : (sent : List ℕ) (now : State) → now.output ≡ [] → (after_output sent now).output ≡ sent
last_of sent now e = ap (λ x. sent ++ x) e ∙ append-nil sent

same_choice : (a : Asking) (k : ℕ) → live_asked a ≡ Choice k → a ≡ choice k
same_choice plain k h = cc
same_choice (choice j) k h = let x : j ≡ k = cc in ap choice x
same_choice (ended e) k h = cc

same_end : (a : Asking) (kind : EndKind) → live_asked a ≡ Ended kind →
    (e : Ending) × (a ≡ ended e) × (end_kind_of e ≡ kind)
same_end plain kind h = cc
same_end (choice k) kind h = cc
same_end (ended e) kind h = let x : end_kind_of e ≡ kind = cc in (e, refl, x)

same_plain : (a : Asking) (r : LiveAsk) → live_asked a ≡ r → ((k : ℕ) → r ≡ Choice k → ⊥) →
    ((kind : EndKind) → r ≡ Ended kind → ⊥) → a ≡ plain
same_plain plain r h i j = refl
same_plain (choice k) r h i j = absurd (i k (sym h))
same_plain (ended e) r h i j = absurd (j (end_kind_of e) (sym h))

still_going : (a : Asking) (r : LiveAsk) → live_asked a ≡ r → ((kind : EndKind) → r ≡ Ended kind → ⊥) →
    IsGoing a
still_going plain r h j = tt
still_going (choice k) r h j = tt
still_going (ended e) r h j = absurd (j (end_kind_of e) (sym h))

-- a run that goes on has no message
no_message : (a : Asking) → IsGoing a → asked_message a ≡ []
no_message plain h = refl
no_message (choice k) h = refl
no_message (ended e) h = absurd h

asked_by : (m : LiveMachine) (r : LiveAsk) → r ≡ live_ask m → m.failed ≡ false →
    live_asked (ask m.program m.state) ≡ r
asked_by m r e f = sym (e ∙ ap (λ b. if b then Failed else live_asked (ask m.program m.state)) f)

pub asks_chance : (m : LiveMachine) (r : LiveAsk) (chance : ℕ) → m.failed ≡ false → r ≡ live_ask m →
    r ≡ Choice chance → ask m.program m.state ≡ choice chance
asks_chance m r chance sound e f = same_choice _ chance (asked_by m r e sound ∙ f)

-- where no choice is asked and the run hasn't ended, nothing is asked
asks_nothing : (m : LiveMachine) (r : LiveAsk) → m.failed ≡ false → r ≡ live_ask m →
    ((k : ℕ) → r ≡ Choice k → ⊥) → ((kind : EndKind) → r ≡ Ended kind → ⊥) → ask m.program m.state ≡ plain
asks_nothing m r sound e i j = same_plain (ask m.program m.state) r (asked_by m r e sound) i j

-- a run that asks nothing and hasn't ended stops only at the limit
pub all_made : (m : LiveMachine) (r : LiveAsk) → m.failed ≡ false → r ≡ live_ask m → ((k : ℕ) → r ≡ Choice k → ⊥) →
    ((kind : EndKind) → r ≡ Ended kind → ⊥) → (limit steps made : ℕ) → steps ≤ limit → IsDone (limit - steps) made m →
    steps + made ≡ limit
all_made m r sound e i j limit steps made le done = elim done.rests [
  | inl all ↦ omega (arith, all, le)
  | inr rests ↦ absurd (rests (asks_nothing m r sound e i j))
]

-- a run that may make a step
pub may_go_on : (m : LiveMachine) (r : LiveAsk) → m.failed ≡ false → r ≡ live_ask m →
    ((kind : EndKind) → r ≡ Ended kind → ⊥) → IsGoing (ask m.program m.state)
may_go_on m r sound e j = still_going (ask m.program m.state) r (asked_by m r e sound) j

text_set : IsSet (List ℕ)
text_set = hlevel props

-- how long the front is that was written
cut_by : (before after output : List ℕ) (k : ℕ) → after ≡ before ++ take k output →
    after ≡ before ++ take (length after - length before) output
cut_by before after output k is =
    let whole = ap (λ o. length o) is ∙ length-append before (take k output) in
    let count : length after - length before ≡ length (take k output) = omega (arith, whole) in
    is ∙ ap (λ o. before ++ o)
    (sym (ap (λ n. take n output) (count ∙ length-take k output) ∙ take_min k output))

-- the answer of a run that has stopped, and its refusal
pub stopped_streams : (told : Bool) (x : Execution) (c taken : List Bool) (message w w' left : List ℕ)
    (kind : EndKind) (n : ℕ) → HasStopped told x c taken message w w' left kind n → (answer : Streamed) →
    answer.end ≡ kind → answer.message.items ≡ message → answer.choices.items ≡ taken → answer.steps ≡ n →
    HasStreamed told x c w w' left answer
stopped_streams told x c taken message w w' left kind n h answer is same_text same_list same_count = record {
  end = is ∙ h.end;
  message = same_text ∙ h.message_is;
  steps = same_count ∙ h.steps_are;
  choices = ap (λ t. t ++ x.unused) same_list ∙ h.choices;
  input = h.input;
  output = h.output;
}

pub stopped_cut : (told : Bool) (x : Execution) (c taken : List Bool) (message w w' left : List ℕ)
    (kind : EndKind) (n : ℕ) → HasStopped told x c taken message w w' left kind n → IsCutOff told x w w'
stopped_cut told x c taken message w w' left kind n h =
    (length x.last.output, λ t. h.output t ∙ ap (λ o. w ++ o) (sym (take_whole x.last.output)))

-- one step onwards of a run of a program from a state, under a limit
module _ (p : Program) (s : State) (l : ℕ) where
  leads_choice : (c : List Bool) (now : State) (sent : List ℕ) (n chance : ℕ) (b : Bool) →
      Leads p s l c (after_output sent now) n → ask p now ≡ choice chance → n < l →
      Leads p s l (c ++ b ∷ []) (after_output sent (advance p now b)) (n + 1)
  leads_choice c now sent n chance b h a lt =
      subst (λ x. Leads p s l (c ++ b ∷ []) x (n + 1)) (advance_frame p now b sent)
      (Leads-choice p s l c (after_output sent now) n chance b h (ask_after p now sent ∙ a) lt)

  leads_plain : (c : List Bool) (now : State) (sent : List ℕ) (n : ℕ) →
      Leads p s l c (after_output sent now) n → ask p now ≡ plain → n < l →
      Leads p s l c (after_output sent (advance p now false)) (n + 1)
  leads_plain c now sent n h a lt =
      subst (λ x. Leads p s l c x (n + 1)) (advance_frame p now false sent)
      (Leads-plain p s l c (after_output sent now) n h (ask_after p now sent ∙ a) lt)

  -- and many, where the run goes on by itself
  leads_on : (c : List Bool) (now u : State) (sent : List ℕ) (n k : ℕ) →
      Leads p s l c (after_output sent now) n → RunsOn IsPlain p now k u → n + k ≤ l →
      Leads p s l c (after_output sent u) (n + k)
  leads_on c now u sent n k h runs within =
      subst (λ x. Leads p s l c (after_output sent x) (n + k)) (sym runs.leads) (leads_up_to k (le_refl k))
    where
      leads_up_to : (i : ℕ) → i ≤ k → Leads p s l c (after_output sent (after_steps p now i)) (n + i)
      leads_up_to zero le =
          let none : n ≡ n + 0 = omega arith in subst (Leads p s l c (after_output sent now)) none h
      leads_up_to (suc i) le =
          let next : n + i + 1 ≡ n + suc i = omega arith in
          let lt : i < k = omega (arith, le) in
          subst (Leads p s l c (after_output sent (after_steps p now (suc i)))) next
          (leads_plain c (after_steps p now i) sent (n + i) (leads_up_to i (omega (arith, le))) (runs.on i lt)
          (omega (arith, within, lt)))

-- a read of the feed failed
pub feed_read : (fault : FeedFault) → error_of fault ≡ Read → fault ≡ NotRead
feed_read FeedOutOfMemory is = cc
feed_read NotRead is = refl

pub same_error : {A : Type 0} (r : Result A RunsError) (e f : RunsError) → r ≡ Err e → r ≡ Err f → e ≡ f
same_error r e f is also = let same : Err e ≡ Err f = sym is ∙ also in cc

-- the state after n steps is the last state of the run under the limit n
last_here : (p : Program) (u : State) (c : List Bool) → (run p u 0 c).last ≡ u
unfolding run
last_here p u c =
    elim (ask p u) as (λ a. (run_at_limit a u c).last ≡ u) [ plain ↦ refl | choice k ↦ refl | ended e ↦ refl ]

last_at : (p : Program) (s : State) (c taken : List Bool) (u : State) (n : ℕ) → AreTaken c taken →
    Leads p s n taken u n → (run p s n c).last ≡ u
last_at p s c taken u n f h =
    let rest = drop (length taken) c in
    ap (λ x. (run p s n x).last) (sym (taken_split c taken f))
    ∙ (ap (λ x. x.last) (h.goes_on 0 rest (omega arith)) ∙ last_here p u rest)

-- a run makes all the steps that lead to one of its states
steps_past : (p : Program) (s : State) (l : ℕ) (c taken : List Bool) (t : State) (n : ℕ) → AreTaken c taken →
    Leads p s l taken t (n + 1) → n < (run p s l c).steps
steps_past p s l c taken t n f h =
    let rest = drop (length taken) c in
    let le = h.within in
    let m = l - (n + 1) in
    let all : n + 1 + m ≡ l = omega (arith, le) in
    let same : (run p s l c).steps ≡ n + 1 + (run p t m rest).steps =
    ap (λ x. (run p s l x).steps) (sym (taken_split c taken f)) ∙ ap (λ x. x.steps) (h.goes_on m rest all) in
    omega (arith, same)

-- a streamed run: whether its writer is told, its program, first state and limit
module _ (told : Bool) (p : Program) (s : State) (l : ℕ) where
  -- the start
  pub along_start : (written : List ℕ) → IsAlong told p s l [] s written written 0
  along_start written = record {
    sent = [];
    within = omega arith;
    leads = λ bound le. Leads-start p s bound;
    text = λ t. sym (append-nil written);
  }

  -- a run that was refused where it had come to u, of whose output k bytes left
  refused : (c taken : List Bool) (u : State) (sent before mid after : List ℕ) (n k : ℕ) →
      AreTaken c taken → Leads p s l taken (after_output sent u) n → (told ≡ true → mid ≡ before ++ sent) →
      k ≤ length u.output → (told ≡ true → after ≡ mid ++ take k u.output) →
      IsCutOff told (run p s l c) before after
  refused c taken u sent before mid after n k f w so_far le wrote =
      let r = leads_grows p s l taken (drop (length taken) c) (after_output sent u) n w in (
        length sent + k,
        λ t. part_of before sent u.output r.0 (run p s l c).last.output after k le
            (ap (λ x. (run p s l x).last.output) (sym (taken_split c taken f)) ∙ r.1)
            (wrote t ∙ ap (λ x. x ++ take k u.output) (so_far t)),
      )

  turned : (c : List Bool) (u now' : State) (sent before mid after : List ℕ) (n : ℕ) → n ≤ l →
      ((bound : ℕ) → n ≤ bound → Leads p s bound c (after_output sent u) n) →
      (told ≡ true → mid ≡ before ++ sent) →
      now' ≡ cleared u → (told ≡ true → after ≡ mid ++ u.output) → IsAlong told p s l c now' before after n
  turned c u now' sent before mid after n within h so_far is wrote = record {
    sent = sent ++ u.output;
    within = within;
    leads = λ bound le.
        subst (λ x. Leads p s bound c x n) (left_then sent u ∙ ap (after_output (sent ++ u.output)) (sym is))
        (h bound le);
    text = λ t. wrote t ∙ (ap (λ x. x ++ u.output) (so_far t) ∙ append_assoc before sent u.output);
  }

  -- a run that has come to a WRITE IN in the state u, all of whose output is written
  pub stopped_at_input : (c taken : List Bool) (u : State) (before after : List ℕ) (n : ℕ) → AreTaken c taken →
      ((bound : ℕ) → n ≤ bound → Leads p s bound taken u n) → n < (run p s l c).steps →
      MeetsInput p u → (told ≡ true → after ≡ before ++ u.output) → StopsAtInput told p s l c before after
  stopped_at_input c taken u before after n f h lt meets wrote =
      let last = last_at p s c taken u n f (h n (le_refl n)) in
      record {
        steps = n;
        within = lt;
        meets = subst (MeetsInput p) (sym last) meets;
        output = λ t. wrote t ∙ ap (λ x. before ++ x.output) (sym last);
      }

  -- the run has stopped at an end
  stopped_end : (c taken : List Bool) (now : State) (message before after left : List ℕ) (n : ℕ) (f : Finish)
      (m : Machine) (kind : EndKind) (along : IsAlong told p s l taken now before after n) → AreTaken c taken →
      now.output ≡ [] →
      now.input ≡ left → m.program ≡ p → m.state ≡ after_output along.sent now → EndsHere l m n f →
      kind ≡ finish_kind f → message ≡ finish_message f →
      HasStopped told (run p s l c) c taken message before after left kind n
  stopped_end c taken now message before after left n f m kind along first empty input same state here is same_text =
      let sent = along.sent in
      let whole : run p s l c ≡ record {
        last = after_output sent now;
        stop = ends f;
        steps = n;
        unused = drop (length taken) c;
      } =
      ap (run p s l) (sym (taken_split c taken first))
      ∙ (subst (λ q. run q s l (taken ++ drop (length taken) c)
      ≡ record { last = m.state; stop = ends f; steps = n; unused = drop (length taken) c }) same
      (Leads-ends s l m taken (drop (length taken) c) n f
      (subst (λ q. Leads q s l taken m.state n) (sym same)
      (subst (λ x. Leads p s l taken x n) (sym state) (along.leads l along.within))) here)
      ∙ ap (λ x. record { last = x; stop = ends f; steps = n; unused = drop (length taken) c }) state) in
      record {
        end = is ∙ sym (ap (λ x. stop_kind x.stop) whole);
        message_is = same_text ∙ sym (ap (λ x. stop_message x.stop) whole);
        steps_are = sym (ap (λ x. x.steps) whole);
        choices = ap (λ x. taken ++ x.unused) whole ∙ taken_split c taken first;
        input = sym input ∙ sym (ap (λ x. x.last.input) whole);
        output = λ t. along.text t
            ∙ ap (λ x. before ++ x) (sym (ap (λ x. x.last.output) whole ∙ last_of sent now empty));
      }

  -- and where a choice is wanted
  stopped_wants : (c taken : List Bool) (now : State) (message before after left : List ℕ) (n chance : ℕ) →
      IsAlong told p s l taken now before after n → taken ≡ c → now.output ≡ [] →
      now.input ≡ left → ask p now ≡ choice chance → n < l → message ≡ [] →
      HasStopped told (run p s l c) c taken message before after left Wants n
  stopped_wants c taken now message before after left n chance along all empty input a lt no_text =
      let sent = along.sent in
      let whole : run p s l c ≡ record { last = after_output sent now; stop = wants; steps = n; unused = [] } =
      ap (run p s l) (sym all)
      ∙ Leads-wants p s l taken (after_output sent now) n chance (along.leads l along.within) (ask_after p now sent ∙ a) lt in
      record {
        end = sym (ap (λ x. stop_kind x.stop) whole);
        message_is = no_text ∙ sym (ap (λ x. stop_message x.stop) whole);
        steps_are = sym (ap (λ x. x.steps) whole);
        choices = ap (λ x. taken ++ x.unused) whole ∙ (append-nil taken ∙ all);
        input = sym input ∙ sym (ap (λ x. x.last.input) whole);
        output = λ t. along.text t
            ∙ ap (λ x. before ++ x) (sym (ap (λ x. x.last.output) whole ∙ last_of sent now empty));
      }

  -- where a streamed run stands
  pub record Here (taken : List Bool) (m : LiveMachine) (left before mid : List ℕ) (n : ℕ) : Type 0 where
    pub along : IsAlong told p s l taken (fed left m.state) before mid n
    pub program : m.program ≡ p
    pub sound : m.failed ≡ false
    pub empty : m.state.output ≡ []

  module _ {taken : List Bool} {m : LiveMachine} {left before mid : List ℕ} {n : ℕ}
      (h : Here taken m left before mid n) where
    asks_fed : ask p (fed left m.state) ≡ ask m.program m.state
    asks_fed = ask_fed p m.state left ∙ ap (λ x. ask x m.state) (sym h.program)

    pub here_stays : (c : List Bool) → AreTaken c taken → IsCutOff told (run p s l c) before mid
    here_stays c f =
        refused c taken (fed left m.state) h.along.sent before mid mid n 0 f (h.along.leads l h.along.within)
        h.along.text
        (omega arith) (λ t. sym (append-nil mid))

    abbrev machine_here : Machine
    machine_here = record { program = p; state = after_output h.along.sent (fed left m.state); marks = []; work = 0 }

    asks_here : ask p machine_here.state ≡ ask m.program m.state
    asks_here = ask_after p (fed left m.state) h.along.sent ∙ asks_fed

    pub here_ended : (c : List Bool) → AreTaken c taken → (r : LiveAsk) (kind : EndKind) → r ≡ live_ask m →
        r ≡ Ended kind → HasStopped told (run p s l c) c taken (fault_message m) before mid left kind n
    here_ended c f r kind e g =
        let (end, asks, same) = same_end (ask m.program m.state) kind (asked_by m r e h.sound ∙ g) in
        stopped_end c taken (fed left m.state) (fault_message m) before mid left n (finished end) machine_here kind
        h.along f h.empty refl refl refl (ends_finished l machine_here n end (asks_here ∙ asks))
        (sym same) (ap asked_message asks)

    pub here_limit : (c : List Bool) → AreTaken c taken → (r : LiveAsk) → r ≡ live_ask m →
        ((kind : EndKind) → r ≡ Ended kind → ⊥) → n ≡ l →
        HasStopped told (run p s l c) c taken (fault_message m) before mid left Limit n
    here_limit c f r e g all =
        let going = still_going (ask m.program m.state) r (asked_by m r e h.sound) g in
        stopped_end c taken (fed left m.state) (fault_message m) before mid left n at_limit machine_here Limit
        h.along f h.empty refl refl refl
        (ends_limit l machine_here n all (subst IsGoing (sym asks_here) going))
        refl (no_message (ask m.program m.state) going)

    -- where a choice is asked
    module _ {r : LiveAsk} {chance : ℕ} (e : r ≡ live_ask m) (g : r ≡ Choice chance) (lt : n < l) where
      asks_choice : ask p (fed left m.state) ≡ choice chance
      asks_choice = asks_fed ∙ asks_chance m r chance h.sound e g

      pub here_wants : (c : List Bool) → taken ≡ c →
          HasStopped told (run p s l c) c taken (fault_message m) before mid left Wants n
      here_wants c all =
          stopped_wants c taken (fed left m.state) (fault_message m) before mid left n chance h.along all h.empty refl
          asks_choice lt (ap asked_message (asks_chance m r chance h.sound e g))

      pub taken_choice : (chosen : Chosen) (c taken' : List Bool) (b : Bool) → IsChosen p s l chosen c →
          AreTaken c taken → Some b ≡ answer_of chosen (length taken) chance → taken' ≡ taken ++ b ∷ [] →
          AreTaken c taken'
      taken_choice chosen c taken' b is f answer x =
          taken_on p s l chosen c taken taken' machine_here.state n chance b is (h.along.leads l h.along.within)
          (ask_after p (fed left m.state) h.along.sent ∙ asks_choice) lt f answer x

      pub leads_by_choice : {taken' : List Bool} (b : Bool) → taken' ≡ taken ++ b ∷ [] → (bound : ℕ) → n + 1 ≤ bound →
          Leads p s bound taken' (after_output h.along.sent (advance m.program (fed left m.state) b)) (n + 1)
      leads_by_choice {taken'} b x bound le =
          let state : Program → State = λ q. after_output h.along.sent (advance q (fed left m.state) b) in
          subst (λ y. Leads p s bound y (state m.program) (n + 1)) (sym x)
          (subst (λ q. Leads p s bound (taken ++ b ∷ []) (state q) (n + 1)) (sym h.program)
          (leads_choice p s bound taken (fed left m.state) h.along.sent n chance b
          (h.along.leads bound (omega (arith, le))) asks_choice (omega (arith, le))))

    -- one step further
    module _ (lt : n < l) {taken' : List Bool} (b : Bool) (leads : (bound : ℕ) → n + 1 ≤ bound →
        Leads p s bound taken' (after_output h.along.sent (advance m.program (fed left m.state) b)) (n + 1)) where
      pub step_made : (now' : State) → now' ≡ advance m.program (fed left m.state) b →
          IsAlong told p s l taken' now' before mid (n + 1)
      step_made now' is = record {
        sent = h.along.sent;
        within = omega (arith, lt);
        leads = λ bound le. subst (λ x. Leads p s bound taken' (after_output h.along.sent x) (n + 1)) (sym is) (leads bound le);
        text = h.along.text;
      }

      pub step_at_input : (c : List Bool) → AreTaken c taken → AreTaken c taken' → MeetsInput m.program m.state →
          StopsAtInput told p s l c before mid
      step_at_input c f f' meets =
          stopped_at_input c taken (after_output h.along.sent (fed left m.state)) before mid n f h.along.leads
          (steps_past p s l c taken' (after_output h.along.sent (advance m.program (fed left m.state) b)) n f'
          (leads l (omega (arith, lt))))
          (subst (λ q. MeetsInput q m.state) h.program meets)
          (λ t. h.along.text t ∙ ap (λ o. before ++ o) (sym (last_of h.along.sent (fed left m.state) h.empty)))

  -- many steps, where the run goes on by itself
  module _ {taken : List Bool} (m : LiveMachine) (left : List ℕ) {before mid : List ℕ} {n : ℕ}
      (h : IsAlong told p s l taken (fed left m.state) before mid n) (same : m.program ≡ p) where
    leads_by_steps : (k : ℕ) (u : State) → RunsOn IsPlain m.program (fed left m.state) k u → (bound : ℕ) →
        n + k ≤ bound → Leads p s bound taken (after_output h.sent u) (n + k)
    leads_by_steps k u runs bound le =
        leads_on p s bound taken (fed left m.state) u h.sent n k (h.leads bound (omega (arith, le)))
        (subst (λ q. RunsOn IsPlain q (fed left m.state) k u) same runs) le

    pub strode : (k : ℕ) (m' : LiveMachine) (left' after : List ℕ) → m'.program ≡ m.program → m'.failed ≡ false →
        m'.state.output ≡ [] → k ≤ l - n →
        Prints {E = RunsError} told m.program (fed left m.state) (l - n) (fed left' m'.state) mid after (Ok k) →
        Here taken m' left' before after (n + k)
    strode k m' left' after program sound empty within (all, now) =
        let low = h.within in
        record {
          along = turned taken all.state (fed left' m'.state) h.sent before mid after (n + k) (omega (arith, within, low))
              (leads_by_steps k all.state all.runs) h.text now all.text;
          program = program ∙ same;
          sound = sound;
          empty = empty;
        }

    -- and where they were cut short
    pub stride_cut : (c : List Bool) → AreTaken c taken → (now' : State) (after : List ℕ) (error : RunsError) →
        Prints told m.program (fed left m.state) (l - n) now' mid after (Err error) → IsCutOff told (run p s l c) before after
    stride_cut c f now' after error prints =
        let low = h.within in
        let whole = run p s l c in (
          length after - length before,
          λ t. ∥∥₁_elim (prints t)
              (text_set after (before ++ take (length after - length before) whole.last.output))
              (λ found.
              let left' = found.1 in
              let within = left'.reaches.within in
              let cut = refused c taken left'.state h.sent before mid after (n + left'.reaches.steps) found.0 f
              (leads_by_steps left'.reaches.steps left'.state left'.reaches.runs l (omega (arith, within, low)))
              h.text left'.within (λ _. left'.text) in
              cut_by before after whole.last.output cut.0 (cut.1 t)),
        )

    -- or came to a WRITE IN that had no input
    pub stride_at_input : (c : List Bool) → AreTaken c taken → (after : List ℕ) →
        IsAtInput told m.program (fed left m.state) (l - n) mid after → StopsAtInput told p s l c before after
    stride_at_input c f after at =
        let u = at.all.state in
        let j = at.steps in
        let within = at.within in
        let lt : n + j < l = omega (arith, within) in
        let leads = leads_by_steps j u at.all.runs in
        stopped_at_input c taken (after_output h.sent u) before after (n + j) f leads
        (steps_past p s l c taken (after_output h.sent (advance p u false)) (n + j) f
        (leads_plain p s l taken u h.sent (n + j) (leads l (omega (arith, lt))) (subst (λ q. IsPlain q u) same at.plain) lt))
        (subst (λ q. MeetsInput q u) same at.meets)
        (λ t. at.all.text t ∙ (ap (λ x. x ++ u.output) (h.text t) ∙ append_assoc before h.sent u.output))
