-- Laws of what the choices of a run were asked by.
use Prim.Native.Nat.{zero, suc}
use Rattle.std.proofs.Common.{◌≡◌, ℕ, ◌+◌, ◌-◌, ◌<◌, ◌≤◌, Bool, false, List, [], ◌∷◌, ◌++◌, length, take, drop}
use Rattle.std.proofs.Common.{refl, ap, sym, ◌∙◌, subst, arith, append_assoc, get_or, Some, None, min, ◌⊎◌, inl, inr}
use Rattle.std.specs.List.{flat_map}
use Rattle.std.proofs.lemmas.List.{append-nil, length-drop, length-take-le, take-append-drop, take_all}
use Rattle.std.proofs.lemmas.Bool.{cases_lt}
use Rattle.std.proofs.Math.Seq.{take-suc}
use Rattle.ick_code.specs.meaning.State.{State, Ending}
use Rattle.ick_code.specs.meaning.Move.{Asking, plain, choice, ended}
use Rattle.ick_outcomes.specs.Programs.{ask, advance, Program, after_steps, RunsOn, Leads, IsWhole, run}
use Rattle.ick_backtrack.specs.Asked.{Finish, asked_at_end, at_limit, finish_of, finished}
use Rattle.ick_backtrack.specs.declared.asking.End.{End}
use Rattle.ick_explorer.specs.Paths.{later}
use Rattle.ick_explorer.specs.Runs.{Execution, IsEnd, ends, stays}
use Rattle.ick_outcomes.proofs.ProgramRuns.{Leads-choice, Leads-on, Leads-plain, Leads-start, Leads-wants, limit-going}
use Rattle.ick_outcomes.proofs.ProgramRuns.{run-ended, run-plain}
use Rattle.ick_outcomes.specs.Accounts.{Configuration}
use Rattle.ick_outcomes.specs.Askers.{IsFollowed, asked, asked_on, asker_text, askers_text}
use Rattle.ick_outcomes.specs.declared.following.AskedBy.{AskedBy}

asked-ended : (p : Program) (s : State) (l : ℕ) (c : List Bool) (e : Ending) → ask p s ≡ ended e → asked p s l c ≡ []
unfolding asked
asked-ended p s zero c e h = refl
asked-ended p s (suc l) c e h = ap (λ a. asked_on a s c (λ b rest. asked p (advance p s b) l rest)) h

asked-plain : (p : Program) (s : State) (l : ℕ) (c : List Bool) → ask p s ≡ plain →
    asked p s (suc l) c ≡ asked p (advance p s false) l c
unfolding asked
asked-plain p s l c h = ap (λ a. asked_on a s c (λ b rest. asked p (advance p s b) l rest)) h

asked-wants : (p : Program) (s : State) (l k : ℕ) → ask p s ≡ choice k → asked p s (suc l) [] ≡ []
unfolding asked
asked-wants p s l k h = ap (λ a. asked_on a s [] (λ b rest. asked p (advance p s b) l rest)) h

abbrev asker : State → ℕ → AskedBy
asker s k = record { statement = s.place; chance = k }

asked-choice : (p : Program) (s : State) (l k : ℕ) (b : Bool) (c : List Bool) → ask p s ≡ choice k →
    asked p s (suc l) (b ∷ c) ≡ asker s k ∷ asked p (advance p s b) l c
unfolding asked
asked-choice p s l k b c h = ap (λ a. asked_on a s (b ∷ c) (λ d rest. asked p (advance p s d) l rest)) h

asked-none : (p : Program) (s : State) (c : List Bool) → asked p s 0 c ≡ []
unfolding asked
asked-none p s c = refl

-- the run from s uses all of c, which was asked by these, and goes on from t with so many steps left
pub record Follows (p : Program) (s : State) (limit : ℕ) (c : List Bool) (t : State) (left : ℕ)
    (askers : List AskedBy) : Type 0 where
  pub within : left ≤ limit
  pub leads : Leads p s limit c t (limit - left)
  pub asks : (more : List Bool) → asked p s limit (c ++ more) ≡ askers ++ asked p t left more

pub follows-start : (p : Program) (s : State) (limit : ℕ) → Follows p s limit [] s limit []
follows-start p s limit = record {
  within = omega arith;
  leads = let none : 0 ≡ limit - limit = omega arith in subst (Leads p s limit [] s) none (Leads-start p s limit);
  asks = λ more. refl;
}

follows-plain : (p : Program) (s : State) (limit : ℕ) (c : List Bool) (t : State) (left : ℕ) (askers : List AskedBy) →
    Follows p s limit c t (suc left) askers → ask p t ≡ plain → Follows p s limit c (advance p t false) left askers
follows-plain p s limit c t left askers h a =
    let w = h.within in
    let next : limit - suc left + 1 ≡ limit - left = omega (arith, w) in
    record {
      within = omega (arith, w);
      leads = subst (Leads p s limit c (advance p t false)) next
          (Leads-plain p s limit c t (limit - suc left) h.leads a (omega (arith, w)));
      asks = λ more. h.asks more ∙ ap (λ l. askers ++ l) (asked-plain p t left more a);
    }

-- many plain steps
asked-on : (p : Program) (t u : State) (k left : ℕ) (more : List Bool) → RunsOn p t k u → k ≤ left →
    asked p t left more ≡ asked p u (left - k) more
asked-on p t u k left more runs within =
    subst (λ x. asked p t left more ≡ asked p x (left - k) more) (sym runs.leads) (up_to k (omega arith))
  where
    up_to : (i : ℕ) → i ≤ k → asked p t left more ≡ asked p (after_steps p t i) (left - i) more
    up_to zero le = let none : left ≡ left - 0 = omega arith in ap (λ l. asked p t l more) none
    up_to (suc i) le =
        let some : left - i ≡ suc (left - suc i) = omega (arith, within, le) in
        up_to i (omega (arith, le)) ∙ (ap (λ l. asked p (after_steps p t i) l more) some
        ∙ asked-plain p (after_steps p t i) (left - suc i) more (runs.on i (omega (arith, le))))

pub follows-on : (p : Program) (s : State) (limit : ℕ) (c : List Bool) (t u : State) (left k : ℕ)
    (askers : List AskedBy) → Follows p s limit c t left askers → RunsOn p t k u → k ≤ left →
    Follows p s limit c u (left - k) askers
follows-on p s limit c t u left k askers h runs le =
    let w = h.within in
    let next : limit - left + k ≡ limit - (left - k) = omega (arith, w, le) in
    record {
      within = omega (arith, w);
      leads = subst (Leads p s limit c u) next
          (Leads-on p s limit c t u (limit - left) k h.leads runs (omega (arith, w, le)));
      asks = λ more. h.asks more ∙ ap (λ l. askers ++ l) (asked-on p t u k left more runs le);
    }

-- a plain step, with one step left or more
pub follows-step : (p : Program) (s : State) (limit : ℕ) (c : List Bool) (t : State) (left : ℕ)
    (askers : List AskedBy) → Follows p s limit c t left askers → ask p t ≡ plain → 0 < left →
    Follows p s limit c (advance p t false) (left - 1) askers
follows-step p s limit c t left askers h a some =
    let e : left ≡ suc (left - 1) = omega (arith, some) in
    follows-plain p s limit c t (left - 1) askers (subst (λ l. Follows p s limit c t l askers) e h) a

follows-choice : (p : Program) (s : State) (limit : ℕ) (c : List Bool) (t : State) (left k : ℕ) (b : Bool)
    (askers : List AskedBy) → Follows p s limit c t (suc left) askers → ask p t ≡ choice k →
    Follows p s limit (c ++ b ∷ []) (advance p t b) left (askers ++ asker t k ∷ [])
follows-choice p s limit c t left k b askers h a =
    let w = h.within in
    let next : limit - suc left + 1 ≡ limit - left = omega (arith, w) in
    record {
      within = omega (arith, w);
      leads = subst (Leads p s limit (c ++ b ∷ []) (advance p t b)) next
          (Leads-choice p s limit c t (limit - suc left) k b h.leads a (omega (arith, w)));
      asks = λ more. ap (asked p s limit) (append_assoc c (b ∷ []) more)
          ∙ (h.asks (b ∷ more) ∙ (ap (λ l. askers ++ l) (asked-choice p t left k b more a)
          ∙ sym (append_assoc askers (asker t k ∷ []) (asked p (advance p t b) left more))));
    }

-- the choice at an index, with one step left or more
pub follows-chosen : (p : Program) (s : State) (limit : ℕ) (c : List Bool) (t : State) (left k at : ℕ) (d : Bool)
    (askers : List AskedBy) → Follows p s limit (take at c) t left askers → ask p t ≡ choice k → 0 < left →
    at < length c →
    Follows p s limit (take (suc at) c) (advance p t (get_or c at d)) (left - 1) (askers ++ asker t k ∷ [])
follows-chosen p s limit c t left k at d askers h a some within =
    let e : left ≡ suc (left - 1) = omega (arith, some) in
    subst (λ l. Follows p s limit l (advance p t (get_or c at d)) (left - 1) (askers ++ asker t k ∷ []))
    (sym (take-suc c at d within))
    (follows-choice p s limit (take at c) t (left - 1) k (get_or c at d) askers
    (subst (λ l. Follows p s limit (take at c) t l askers) e h) a)

-- where a run ends, nothing more is asked
asked-here : (p : Program) (t : State) (left : ℕ) (f : Finish) → run p t left [] ≡ stays t (ends f) [] →
    asked p t left [] ≡ []
asked-here p t zero f h = asked-none p t []
asked-here p t (suc l) f h = by_asking (ask p t) refl
  where
    by_asking : (a : Asking) → ask p t ≡ a → asked p t (suc l) [] ≡ []
    by_asking plain e =
        let longer : suc (run p (advance p t false) l []).steps ≡ 0 =
        ap (λ (r : Execution). r.steps) (sym (run-plain p t l [] e) ∙ h) in absurd (omega (arith, longer))
    by_asking (choice k) e = asked-wants p t l k e
    by_asking (ended x) e = asked-ended p t (suc l) [] x e

goes_on : (p : Program) (s : State) (limit : ℕ) (c more : List Bool) (t : State) (left : ℕ) (f : Finish)
    (askers : List AskedBy) → Follows p s limit c t left askers →
    ((d : List Bool) → run p t left d ≡ stays t (ends f) d) →
    run p s limit (c ++ more) ≡ later (limit - left) (stays t (ends f) more)
goes_on p s limit c more t left f askers h here =
    let w = h.within in
    h.leads.goes_on left more (omega (arith, w)) ∙ ap (later (limit - left)) (here more)

-- a run that uses all its choices and ends is whole
pub followed : (p : Program) (s : State) (limit : ℕ) (c : List Bool) (t : State) (left : ℕ) (f : Finish)
    (askers : List AskedBy) → Follows p s limit c t left askers →
    ((d : List Bool) → run p t left d ≡ stays t (ends f) d) → IsFollowed p s limit c t f askers
followed p s limit c t left f askers h here =
    let r : run p s limit c ≡ later (limit - left) (stays t (ends f) []) =
    ap (run p s limit) (sym (append-nil c)) ∙ goes_on p s limit c [] t left f askers h here in
    record {
      whole = record {
        at_end = subst IsEnd (sym (ap (λ (x : Execution). x.stop) r)) tt;
        all_used = ap (λ (x : Execution). x.unused) r;
      };
      last_is = ap (λ (x : Execution). x.last) r;
      stop_is = ap (λ (x : Execution). x.stop) r;
      askers_are = sym (ap (asked p s limit) (sym (append-nil c)) ∙ (h.asks []
          ∙ (ap (λ l. askers ++ l) (asked-here p t left f (here [])) ∙ append-nil askers)));
    }

pub followed-all : (p : Program) (s : State) (limit : ℕ) (c : List Bool) (t : State) (left at : ℕ) (f : Finish)
    (askers : List AskedBy) → Follows p s limit (take at c) t left askers →
    ((d : List Bool) → run p t left d ≡ stays t (ends f) d) → length c ≤ at → IsFollowed p s limit c t f askers
followed-all p s limit c t left at f askers h here all =
    followed p s limit c t left f askers
    (subst (λ l. Follows p s limit l t left askers) (take_all at c all) h) here

-- a run that ends and leaves choices over is not whole
pub left-over : (p : Program) (s : State) (limit : ℕ) (c : List Bool) (t : State) (left at : ℕ) (f : Finish)
    (askers : List AskedBy) → Follows p s limit (take at c) t left askers →
    ((d : List Bool) → run p t left d ≡ stays t (ends f) d) → at < length c → ¬ IsWhole p s limit c
left-over p s limit c t left at f askers h here more = λ w.
    let r : run p s limit c ≡ later (limit - left) (stays t (ends f) (drop at c)) =
    ap (run p s limit) (sym (take-append-drop at c)) ∙ goes_on p s limit (take at c) (drop at c) t left f askers h here in
    let none : drop at c ≡ [] = sym (ap (λ (x : Execution). x.unused) r) ∙ w.all_used in
    let size = length-drop at c in
    let empty = ap (λ (l : List Bool). length l) none in
    omega (arith, more, size, empty)

-- a run that wants a choice behind all that are given is not whole
pub wants-more : (p : Program) (s : State) (limit : ℕ) (c : List Bool) (t : State) (left k at : ℕ)
    (askers : List AskedBy) → Follows p s limit (take at c) t left askers → ask p t ≡ choice k → 0 < left →
    length c ≤ at → ¬ IsWhole p s limit c
wants-more p s limit c t left k at askers h a some all = λ w.
    let all_of = subst (λ l. Follows p s limit l t left askers) (take_all at c all) h in
    let within = all_of.within in
    let wanted = Leads-wants p s limit c t (limit - left) k all_of.leads a (omega (arith, some, within)) in
    subst IsEnd (ap (λ (x : Execution). x.stop) wanted) w.at_end

-- where a run ends, whatever choices are left
abbrev pub EndsAt : Program → State → ℕ → Finish → Type 0
EndsAt p t left f = (d : List Bool) → run p t left d ≡ stays t (ends f) d

pub ended_at : (p : Program) (t : State) (left : ℕ) (f : Finish) → asked_at_end f ≡ Some (ask p t) → EndsAt p t left f
ended_at p t left (finished e) h = λ d. let is : ended e ≡ ask p t = cc in run-ended p t left d e (sym is)
ended_at p t left at_limit h = let bad : None ≡ Some (ask p t) = h in cc

limit_at : (p : Program) (t : State) (a : Asking) → ask p t ≡ a → (going : (e : Ending) → a ≡ ended e → ⊥)
    → EndsAt p t 0 at_limit
limit_at p t plain is going = λ d. limit-going p t d plain is tt
limit_at p t (choice k) is going = λ d. limit-going p t d (choice k) is tt
limit_at p t (ended e) is going = absurd (going e refl)

pub plain_at_limit : (p : Program) (t : State) (left : ℕ) → left ≡ 0 → ask p t ≡ plain → EndsAt p t left at_limit
plain_at_limit p t left none is =
    subst (λ l. EndsAt p t l at_limit) (sym none) (limit_at p t plain is (λ e bad. cc))

pub choice_at_limit : (p : Program) (t : State) (left k : ℕ) → left ≡ 0 → ask p t ≡ choice k
    → EndsAt p t left at_limit
choice_at_limit p t left k none is =
    subst (λ l. EndsAt p t l at_limit) (sym none) (limit_at p t (choice k) is (λ e bad. cc))

-- the forms in which functions use these laws: the state is that of a configuration
pub went_on : (p q : Program) (s : State) (limit : ℕ) (c : List Bool) (t u : State) (left k : ℕ)
    (askers : List AskedBy) → q ≡ p → Follows p s limit c t left askers → RunsOn q t k u → k ≤ left →
    Follows p s limit c u (left - k) askers
went_on p q s limit c t u left k askers same h runs le =
    follows-on p s limit c t u left k askers h (subst (λ x. RunsOn x t k u) same runs) le

pub followed_by : {S : Type 0} (state_of : S → State) (p : Program) (s : State) (limit : ℕ) (c : List Bool)
    (mine theirs : S) (left at : ℕ) (end end' : End) (askers askers' : List AskedBy) →
    Follows p s limit (take at c) (state_of mine) left askers → EndsAt p (state_of mine) left (finish_of end) →
    theirs ≡ mine → end' ≡ end → askers' ≡ askers → length c ≤ at →
    IsFollowed p s limit c (state_of theirs) (finish_of end') askers'
followed_by state_of p s limit c mine theirs left at end end' askers askers' h here is ends_so asks_so all =
    subst (λ x. IsFollowed p s limit c (state_of x) (finish_of end') askers') (sym is)
    (subst (λ e. IsFollowed p s limit c (state_of mine) (finish_of e) askers') (sym ends_so)
    (subst (λ l. IsFollowed p s limit c (state_of mine) (finish_of end) l) (sym asks_so)
    (followed-all p s limit c (state_of mine) left at (finish_of end) askers h here all)))

-- a step of the state of a configuration, and plain steps behind it
pub stepped_plain : {S : Type 0} (seen : S → Configuration) (p : Program) (s : State) (limit : ℕ) (c : List Bool)
    (old new : S) (left k : ℕ) (askers : List AskedBy) →
    Follows p s limit c (seen old).state left askers → (seen old).program ≡ p →
    ask (seen old).program (seen old).state ≡ plain → 0 < left →
    RunsOn (seen old).program (advance (seen old).program (seen old).state false) k (seen new).state →
    k ≤ left - 1 → Follows p s limit c (seen new).state (left - (k + 1)) askers
stepped_plain seen p s limit c old new left k askers h same plainly some runs le =
    let t = (seen old).state in
    let q = (seen old).program in
    let next : left - 1 - k ≡ left - (k + 1) = omega arith in
    subst (λ n. Follows p s limit c (seen new).state n askers) next
    (went_on p q s limit c (advance q t false) (seen new).state (left - 1) k askers same
    (subst (λ x. Follows p s limit c (advance x t false) (left - 1) askers) (sym same)
    (follows-step p s limit c t left askers h (subst (λ x. ask x t ≡ plain) same plainly) some)) runs le)

pub length-push : (l : List AskedBy) (x : AskedBy) → length (l ++ x ∷ []) ≡ suc (length l)
length-push [] x = refl
length-push (y ∷ l) x = ap suc (length-push l x)

pub stepped_chosen : {S : Type 0} (seen : S → Configuration) (p : Program) (s : State) (limit : ℕ) (c : List Bool)
    (old new : S) (left k chance statement : ℕ) (b d : Bool) (askers askers' : List AskedBy) →
    Follows p s limit (take (length askers) c) (seen old).state left askers → (seen old).program ≡ p →
    ask (seen old).program (seen old).state ≡ choice chance → 0 < left → length askers < length c →
    statement ≡ (seen old).state.place → b ≡ get_or c (length askers) d →
    RunsOn (seen old).program (advance (seen old).program (seen old).state b) k (seen new).state →
    k ≤ left - 1 → askers' ≡ askers ++ record { statement = statement; chance = chance } ∷ [] →
    Follows p s limit (take (length askers') c) (seen new).state (left - (k + 1)) askers'
stepped_chosen seen p s limit c old new left k chance statement b d askers askers' h same asks some within at_place
    chosen runs le asks_so =
    let t = (seen old).state in
    let q = (seen old).program in
    let all = askers ++ asker t chance ∷ [] in
    let front = take (suc (length askers)) c in
    let next : left - 1 - k ≡ left - (k + 1) = omega arith in
    let pushed : askers' ≡ all =
    asks_so ∙ ap (λ (n : ℕ). askers ++ record { statement = n; chance = chance } ∷ []) at_place in
    let longer : length askers' ≡ suc (length askers) =
    ap (λ (l : List AskedBy). length l) pushed ∙ length-push askers (asker t chance) in
    subst (λ n. Follows p s limit (take n c) (seen new).state (left - (k + 1)) askers') (sym longer)
    (subst (λ l. Follows p s limit front (seen new).state (left - (k + 1)) l) (sym pushed)
    (subst (λ n. Follows p s limit front (seen new).state n all) next
    (went_on p q s limit front (advance q t b) (seen new).state (left - 1) k all same
    (subst (λ u. Follows p s limit front u (left - 1) all)
    (sym (ap (λ x. advance x t b) same ∙ ap (advance p t) chosen))
    (follows-chosen p s limit c t left chance (length askers) d askers h
    (subst (λ x. ask x t ≡ choice chance) same asks) some within)) runs le)))

-- the texts of askers, one after another
abbrev behind : AskedBy → List ℕ
behind x = 32 ∷ asker_text x

behind_more : (l : List AskedBy) (x : AskedBy) → flat_map behind (l ++ x ∷ []) ≡ flat_map behind l ++ behind x
behind_more [] x = append-nil (behind x)
behind_more (y ∷ l) x =
    ap (λ t. behind y ++ t) (behind_more l x) ∙ sym (append_assoc (behind y) (flat_map behind l) (behind x))

more_askers : (l : List AskedBy) (x : AskedBy) → 0 < length l → askers_text (l ++ x ∷ []) ≡ askers_text l ++ behind x
more_askers [] x some = absurd (omega (arith, some))
more_askers (y ∷ l) x some =
    ap (λ t. asker_text y ++ t) (behind_more l x) ∙ sym (append_assoc (asker_text y) (flat_map behind l) (behind x))

pub first_asker : (askers : List AskedBy) (at : ℕ) (d : AskedBy) → at ≡ 0 → at < length askers →
    askers_text (take (suc at) askers) ≡ askers_text (take at askers) ++ asker_text (get_or askers at d)
first_asker askers at d none within =
    ap askers_text (take-suc askers at d within)
    ∙ subst (λ n. askers_text (take n askers ++ get_or askers n d ∷ []) ≡ askers_text (take n askers)
    ++ asker_text (get_or askers n d)) (sym none) (append-nil (asker_text (get_or askers 0 d)))

pub next_asker : (askers : List AskedBy) (at : ℕ) (d : AskedBy) → 0 < at → at < length askers →
    askers_text (take (suc at) askers) ≡ askers_text (take at askers) ++ behind (get_or askers at d)
next_asker askers at d some within =
    let size = length-take-le at askers (omega (arith, within)) in
    ap askers_text (take-suc askers at d within)
    ∙ more_askers (take at askers) (get_or askers at d) (omega (arith, some, size))

pub all_askers : (askers : List AskedBy) (most at : ℕ) → at ≡ min (length askers) most →
    askers_text (take at askers) ≡ askers_text (take most askers)
all_askers askers most at is = ap askers_text (fronts (cases_lt most (length askers)))
  where
    fronts : (most < length askers) ⊎ (length askers ≤ most) → take at askers ≡ take most askers
    fronts (inl more) = let same : at ≡ most = omega (arith, is, more) in ap (λ n. take n askers) same
    fronts (inr few) =
        let same : length askers ≤ at = omega (arith, is, few) in
        take_all at askers same ∙ sym (take_all most askers few)
