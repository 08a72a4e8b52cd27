-- The text of a listing grows line by line.
use Rattle.std.proofs.Common.{◌≡◌, ◌⊎◌, ℕ, suc, zero, ◌+◌, ◌*◌, ◌<◌, ◌≤◌, ◌^◌, Bool, true}
use Rattle.std.proofs.Common.{false, List, [], ◌∷◌, ◌++◌, length, take, drop, nat_lt, refl, ap, sym}
use Rattle.std.proofs.Common.{◌∙◌, subst, arith, append_assoc, if◌then◌else◌}
use Rattle.std.specs.Prelude.{Option, Some, IfSome, Result, Ok, Err, OnOk, IfOk, IfErr}
use Rattle.std.specs.List.{Contains}
use Rattle.std.proofs.lemmas.Bool.Decides.{nat_tests}
use Rattle.std.proofs.lemmas.Grind.{flat_map-append}
use Rattle.std.proofs.Math.Nat.{mul-le-mul_right}
use Rattle.std.proofs.Math.Seq.{take-add}
use Rattle.std.proofs.lemmas.List.{append-nil, take-take}
use Rattle.ick_backtrack.specs.Machine.{Program, Machine}
use Rattle.ick_code.specs.meaning.State.{State}
use Rattle.ick_backtrack.specs.Asked.{Finish}
use Rattle.ick_explorer.specs.declared.errors.RunsError.{RunsError}
use Rattle.ick_explorer.specs.declared.errors.RunsError.TheVariants.{NoMemory, NoSuchRun, WorkFull, Failed, BadCursor, Read}
use Rattle.ick_explorer.specs.declared.errors.RunsError.TheVariants.{Write}
use Rattle.ick_explorer.specs.Runs.{IsWhole}
use Rattle.ick_explorer.specs.Order.{IsAfter}
use Rattle.ick_explorer.specs.Listings.{IsListing, IsLast, IsLeastAfter}
use Rattle.ick_explorer.specs.Standing.{Explored, IsFull, HasFailed, Stands}
use Rattle.ick_explorer.specs.Walks.{Arrives, Reaches, IsOver, EndsHere}
use Rattle.ick_explorer.specs.Lines.{line_of, compiled_at, line_next, last_line, listed_of, run_line, run_lines}
use Rattle.ick_explorer.specs.Writes.{position_after, Counts, Gave, Wrote, WroteInPart, Writes}
use Rattle.ick_explorer.specs.WritingSteps.{WritesOne, WritesNone, WritesPart, Along, WritesNext, Moves, AtEnd}
use Rattle.ick_explorer.specs.declared.listing.Listed2.{Listed2}
use Rattle.ick_explorer.specs.declared.listing.Listed2.TheVariants.{More, Done}
use Rattle.ick_explorer.proofs.ListingLaws.{listing-least, listing-last, listing_unique, contains-nil}
use Rattle.ick_explorer.proofs.Existence.{listing_exists}

contains-some : (xs : List (List Bool)) (x : List Bool) → Contains xs x → 0 < length xs
contains-some [] x h = absurd (contains-nil x h)
contains-some (y ∷ xs) x h = omega arith

-- each run raises the count by the limit at most
pub one_more_limit : (old mid new i l l' : ℕ) → mid ≤ old + i * l → new ≤ mid + l' → l' ≡ l →
    new ≤ old + (i + 1) * l
one_more_limit old mid new i l l' h k e = omega arith

-- a count that is full at a run is full after this run
full_in : (most first limit now l i count : ℕ) → most ≤ now + l → l ≡ limit → now ≤ first + i * limit → i < count →
    most ≤ first + count * limit
full_in most first limit now l i count full same within lt =
    let more : (i + 1) * limit ≤ count * limit = mul-le-mul_right limit (let le : i + 1 ≤ count = omega arith in le) in
    omega (arith, more)

-- what an option holds
pub some_of : {R : Type 0} (found : Option R) (r : R) (P : R → Type 0) → found ≡ Some r → IfSome found P → P r
some_of found r P e h = subst (λ x. IfSome x P) e h

-- the explorer reached the run that it found
pub found_run : (limit : ℕ) (machine : Machine) (s : State) (old new : Explored) (c : List Bool) (found : Option ℕ)
    (n : ℕ) (f : Finish) → found ≡ Some n → IfSome found (IsOver limit machine) →
    IfSome found (λ steps. (finish : Finish) → EndsHere limit machine steps finish → (t : State) → Stands t old →
    Reaches t old new c steps finish) →
    ((l steps : ℕ) → IsOver l machine steps → EndsHere l machine steps f) → Stands s old → Reaches s old new c n f
found_run limit machine s old new c found n f is over some ends h =
    some_of found n
    (λ steps. (finish : Finish) → EndsHere limit machine steps finish → (t : State) → Stands t old →
    Reaches t old new c steps finish)
    is some f (ends limit n (some_of found n (IsOver limit machine) is over)) s h

-- a listing that isn't at its end begins with the least list, and goes on with the listing after it
pub record Begins (p : Program) (s : State) (l : ℕ) (d : List Bool) (xs : List (List Bool)) : Type 0 where
  pub first : take 1 xs ≡ d ∷ []
  pub rest : IsListing p s l (Some d) (drop 1 xs)
  pub some : 0 < length xs

pub listing_begins : (p : Program) (s : State) (l : ℕ) (from : Option (List Bool)) (d : List Bool) (xs : List (List
    Bool)) → IsLeastAfter p s l from d → IsListing p s l from xs → Begins p s l d xs
listing_begins p s l from d xs least k =
    let r = listing_exists p s l (Some d) in
    let e : d ∷ r.0 ≡ xs = listing_unique p s l from (d ∷ r.0) xs (listing-least p s l from d r.0 least r.1) k in
    subst (Begins p s l d) e (record { first = refl; rest = r.1; some = omega arith })

pub listing_none : (p : Program) (s : State) (l : ℕ) (from : Option (List Bool)) (xs : List (List Bool)) →
    IsLast p s l from → IsListing p s l from xs → xs ≡ []
listing_none p s l from xs h k = listing_unique p s l from xs [] k (listing-last p s l from h)

pub listing_some : (p : Program) (s : State) (l : ℕ) (from : Option (List Bool)) (xs : List (List Bool)) →
    (d : List Bool) × IsWhole p s l d × IsAfter from d → IsListing p s l from xs → 0 < length xs
listing_some p s l from xs (d, w, a) k = contains-some xs d (k.complete d w a)

-- the explorer gave one more run
pub gave_one : (s : State) (old new : Explored) (c : List Bool) (n : ℕ) (f : Finish) (xs : List (List Bool)) →
    Reaches s old new c n f → new.program ≡ old.program → new.limit ≡ old.limit →
    old.work + old.limit < 2 ^ 64 → take 1 xs ≡ c ∷ [] → Gave s old (take 1 xs) new
gave_one s old new c n f xs g p l room e = subst (λ x. Gave s old x new) (sym e) (record {
  position = g.position;
  stands = g.stands;
  program = p;
  limit = l;
  counts = (room, (new.work, g.work ∙ ap (λ k. old.work + k) (sym (ap (λ r. r.steps) g.arrives.is)), refl));
})

-- the text of its line
pub line_is : (p : Program) (s : State) (l : ℕ) (c : List Bool) (t : State) (n : ℕ) (f : Finish) →
    Arrives p s l c t n f → run_line p s l c ≡ line_of c f t.output
line_is p s l c t n f a = ap (λ r. compiled_at c r.stop r.last.output) a.is

pub one_line : (p : Program) (s : State) (l : ℕ) (c : List Bool) (t : State) (n : ℕ) (f : Finish)
    (xs : List (List Bool)) (line : List ℕ) → Arrives p s l c t n f → take 1 xs ≡ c ∷ [] →
    line ≡ line_of c f t.output → line ≡ run_lines p s l (take 1 xs)
one_line p s l c t n f xs line a e h =
    h ∙ (sym (line_is p s l c t n f a)
    ∙ (sym (append-nil (run_line p s l c)) ∙ ap (run_lines p s l) (sym e)))

pub rest_after : (s : State) (old new : Explored) (d : List Bool) (xs : List (List Bool)) →
    new.program ≡ old.program → new.limit ≡ old.limit → new.from ≡ Some d →
    IsListing old.program s old.limit (Some d) xs →
    IsListing new.program s new.limit new.from xs
rest_after s old new d xs p l f k =
    subst (λ q. IsListing q s new.limit new.from xs) (sym p)
    (subst (λ q. IsListing old.program s q new.from xs) (sym l)
    (subst (λ q. IsListing old.program s old.limit q xs) (sym f) k))

-- counts, one stretch of runs after another
position-append : (from : Option (List Bool)) (a b : List (List Bool)) →
    position_after from (a ++ b) ≡ position_after (position_after from a) b
position-append from [] b = refl
position-append from (c ∷ a) b = position-append (Some c) a b

counts-append : (p : Program) (s : State) (l : ℕ) (from : Option (List Bool)) (w m w' : ℕ) (a b : List (List
    Bool)) → Counts p s l from w a m → Counts p s l (position_after from a) m b w' →
    Counts p s l from w (a ++ b) w'
counts-append p s l from w m w' [] b h k = subst (λ x. Counts p s l from x b w') h k
counts-append p s l from w m w' (c ∷ a) b h k =
    (h.0, (h.1.0, h.1.1, counts-append p s l (Some c) h.1.0 m w' a b h.1.2 k))

pub gave-append : (s : State) (old mid new : Explored) (a b : List (List Bool)) → Gave s old a mid →
    Gave s mid b new → Gave s old (a ++ b) new
gave-append s old mid new a b g h = record {
  position = h.position ∙ (ap (λ x. position_after x b) g.position ∙ sym (position-append old.from a b));
  stands = h.stands;
  program = h.program ∙ g.program;
  limit = h.limit ∙ g.limit;
  counts = counts-append old.program s old.limit old.from old.work mid.work new.work a b g.counts
      (subst (λ q. Counts q s old.limit (position_after old.from a) mid.work b new.work) g.program
      (subst (λ q. Counts mid.program s q (position_after old.from a) mid.work b new.work) g.limit
      (subst (λ q. Counts mid.program s mid.limit q mid.work b new.work) g.position h.counts)));
}

lines-append : (p : Program) (s : State) (l : ℕ) (a b : List (List Bool)) →
    run_lines p s l (a ++ b) ≡ run_lines p s l a ++ run_lines p s l b
lines-append p s l a b = flat_map-append (run_line p s l) a b

lines-in : (s : State) (old mid : Explored) (b : List (List Bool)) → mid.program ≡ old.program →
    mid.limit ≡ old.limit → run_lines mid.program s mid.limit b ≡ run_lines old.program s old.limit b
lines-in s old mid b p l = ap (λ q. run_lines q s mid.limit b) p ∙ ap (λ q. run_lines old.program s q b) l

drop-nil : (j : ℕ) → drop {A = List Bool} j [] ≡ []
drop-nil zero = refl
drop-nil (suc j) = refl

drop-drop : (i j k : ℕ) (xs : List (List Bool)) → k ≡ i + j → drop j (drop i xs) ≡ drop k xs
drop-drop zero j k xs e = let f : j ≡ k = omega arith in ap (λ n. drop n xs) f
drop-drop (suc i) j k [] e = drop-nil j ∙ sym (drop-nil k)
drop-drop (suc i) j zero (x ∷ xs) e = absurd (omega arith)
drop-drop (suc i) j (suc k) (x ∷ xs) e = drop-drop i j k xs (omega arith)

drop-some : (i : ℕ) (xs : List (List Bool)) → i ≤ length xs → 0 < length (drop i xs) → i + 1 ≤ length xs
drop-some zero xs h k = k
drop-some (suc i) [] h k = absurd (omega arith)
drop-some (suc i) (x ∷ xs) h k = let r = drop-some i xs (omega arith) k in omega arith

pub along-on : (told : Bool) (s : State) (cs : List (List Bool)) (i : ℕ) (old mid new : Explored)
    (w w₁ w' : List ℕ) → Along told s cs i old mid w w₁ → WritesOne told s (drop i cs) mid new w₁ w' →
    Along told s cs (i + 1) old new w w'
along-on told s cs i old mid new w w₁ w' h k = record {
  within = drop-some i cs h.within k.some;
  gave =
      subst (λ x. Gave s old x new) (sym (take-add i 1 cs))
      (gave-append s old mid new (take i cs) (take 1 (drop i cs)) h.gave k.gave);
  rest = subst (IsListing new.program s new.limit new.from) (drop-drop i 1 (i + 1) cs refl) k.rest;
  text = λ t. k.text t
      ∙ (ap (λ x. x ++ run_lines mid.program s mid.limit (take 1 (drop i cs))) (h.text t)
      ∙ (append_assoc w (run_lines old.program s old.limit (take i cs))
      (run_lines mid.program s mid.limit (take 1 (drop i cs)))
      ∙ ap (λ x. w ++ x) (ap (λ x. run_lines old.program s old.limit (take i cs) ++ x)
      (lines-in s old mid (take 1 (drop i cs)) h.gave.program h.gave.limit)
      ∙ (sym (lines-append old.program s old.limit (take i cs) (take 1 (drop i cs)))
      ∙ ap (run_lines old.program s old.limit) (sym (take-add i 1 cs))))));
}

-- what writing one line answers
pub writes_none : (told : Bool) (s : State) (xs : List (List Bool)) (e : Explored) (w : List ℕ) →
    IsLast e.program s e.limit e.from → IsListing e.program s e.limit e.from xs → WritesNone told xs e e w w
writes_none told s xs e w h k =
    record { none = listing_none e.program s e.limit e.from xs h k; same = refl; text = λ t. refl }

-- the explorer reached a run, whose line this is
pub record HasLine (s : State) (old new : Explored) (c : List Bool) (n : ℕ) (f : Finish) (line : List ℕ) : Type 0 where
  pub reached : Reaches s old new c n f
  pub program : new.program ≡ old.program
  pub limit : new.limit ≡ old.limit
  pub room : old.work + old.limit < 2 ^ 64
  pub line_is : line ≡ line_of c f new.present.output

pub found_line : (limit : ℕ) (machine : Machine) (s : State) (old new : Explored) (c : List Bool) (found : Option ℕ)
    (n : ℕ) (f : Finish) (line : List ℕ) → found ≡ Some n → IfSome found (IsOver limit machine) →
    IfSome found (λ steps. (finish : Finish) → EndsHere limit machine steps finish → (t : State) → Stands t old →
    Reaches t old new c steps finish) →
    ((l steps : ℕ) → IsOver l machine steps → EndsHere l machine steps f) → Stands s old →
    new.program ≡ old.program → new.limit ≡ old.limit → old.work + old.limit < 2 ^ 64 →
    line ≡ line_of c f new.present.output → HasLine s old new c n f line
found_line limit machine s old new c found n f line is over some ends h program same room line_is = record {
  reached = found_run limit machine s old new c found n f is over some ends h;
  program = program;
  limit = same;
  room = room;
  line_is = line_is;
}

pub writes_one : (told : Bool) (s : State) (xs : List (List Bool)) (old new : Explored) (w w' : List ℕ)
    (c : List Bool) (n : ℕ) (f : Finish) (line : List ℕ) → HasLine s old new c n f line →
    IsListing old.program s old.limit old.from xs →
    (told ≡ true → w' ≡ w ++ line) → WritesOne told s xs old new w w'
writes_one told s xs old new w w' c n f line g k h =
    let b = listing_begins old.program s old.limit old.from c xs g.reached.least k in record {
      some = b.some;
      gave = gave_one s old new c n f xs g.reached g.program g.limit g.room b.first;
      rest = rest_after s old new c (drop 1 xs) g.program g.limit g.reached.position b.rest;
      text = λ t. h t ∙ ap (λ x. w ++ x)
          (one_line old.program s old.limit c new.present n f xs line g.reached.arrives b.first g.line_is);
    }

pub writes_part : (told : Bool) (s : State) (xs : List (List Bool)) (old new : Explored) (w w' : List ℕ)
    (c : List Bool) (n : ℕ) (f : Finish) (line : List ℕ) → HasLine s old new c n f line →
    IsListing old.program s old.limit old.from xs →
    (k : ℕ) → (told ≡ true → w' ≡ w ++ take k line) → WritesPart told s xs old new w w' k
writes_part told s xs old new w w' c n f line g k m h =
    let b = listing_begins old.program s old.limit old.from c xs g.reached.least k in record {
      some = b.some;
      gave = gave_one s old new c n f xs g.reached g.program g.limit g.room b.first;
      text = λ t. h t ∙ ap (λ x. w ++ take m x)
          (one_line old.program s old.limit c new.present n f xs line g.reached.arrives b.first g.line_is);
    }

-- how much of a text was written, where that is told
pub told_part : (told : Bool) (w w' text : List ℕ) → (told ≡ true →
    (n : ℕ) × (n ≤ length text) × (w' ≡ w ++ take n text)) →
    (n : ℕ) × (told ≡ true → w' ≡ w ++ take n text)
told_part true w w' text f = let r = f refl in (r.0, λ t. r.2)
told_part false w w' text f = (0, λ t. cc)

drop_none : (i : ℕ) (cs : List (List Bool)) → i ≤ length cs → drop i cs ≡ [] → length cs ≡ i
drop_none zero [] h e = refl
drop_none zero (x ∷ cs) h e = cc
drop_none (suc i) [] h e = absurd (omega arith)
drop_none (suc i) (x ∷ cs) h e = let r = drop_none i cs (omega arith) e in omega arith

take_all_of : (n : ℕ) (cs : List (List Bool)) → length cs ≤ n → take n cs ≡ cs
take_all_of zero [] h = refl
take_all_of zero (x ∷ cs) h = absurd (omega arith)
take_all_of (suc n) [] h = refl
take_all_of (suc n) (x ∷ cs) h = ap (λ r. x ∷ r) (take_all_of n cs (omega arith))

listed_done_of : (cs : List (List Bool)) (count : ℕ) → length cs ≤ count → Done ≡ listed_of cs count
listed_done_of cs count h = let e : nat_lt count (length cs) ≡ false = grind (arith, nat_tests) in
    ap (λ b. if b then More else Done) (sym e)

listed_more_of : (cs : List (List Bool)) (count : ℕ) → count < length cs → More ≡ listed_of cs count
listed_more_of cs count h = let e : nat_lt count (length cs) ≡ true = grind (arith, nat_tests) in
    ap (λ b. if b then More else Done) (sym e)

along_end : (told : Bool) (s : State) (cs : List (List Bool)) (i count : ℕ) (old now : Explored) (w w' : List ℕ)
    (listed : Listed2) → Along told s cs i old now w w' → take i cs ≡ take count cs →
    listed ≡ listed_of cs count → AtEnd told s cs count old now w w' listed
along_end told s cs i count old now w w' listed h e f = record {
  gave = subst (λ x. Gave s old x now) e h.gave;
  says = f;
  text = λ t. h.text t ∙ ap (λ x. w ++ run_lines old.program s old.limit x) e;
}

-- `count` lines are written, or fewer if no run is left
pub record Through (told : Bool) (s : State) (cs : List (List Bool)) (count : ℕ) (old now : Explored)
    (w w' : List ℕ) : Type 0 where
  pub lines : ℕ
  pub within : lines ≤ count
  pub along : Along told s cs lines old now w w'
  pub all : 0 < length (drop lines cs) → lines ≡ count

pub through_all : (told : Bool) (s : State) (cs : List (List Bool)) (i count : ℕ) (old now : Explored)
    (w w' : List ℕ) → i ≡ count → Along told s cs i old now w w' → Through told s cs count old now w w'
through_all told s cs i count old now w w' e h =
    record { lines = i; within = omega (arith, e); along = h; all = λ some. e }

pub through_none : (told : Bool) (s : State) (cs : List (List Bool)) (i count : ℕ) (old mid new : Explored)
    (w w₁ w' : List ℕ) → i ≤ count → Along told s cs i old mid w w₁ →
    WritesNone told (drop i cs) mid new w₁ w' → Through told s cs count old new w w'
through_none told s cs i count old mid new w w₁ w' le h k = record {
  lines = i;
  within = le;
  along = record {
    within = h.within;
    gave = subst (λ x. Gave s old (take i cs) x) (sym k.same) h.gave;
    rest = subst (λ x. IsListing x.program s x.limit x.from (drop i cs)) (sym k.same) h.rest;
    text = λ t. k.text t ∙ h.text t;
  };
  all = λ some. let none : length (drop i cs) ≡ 0 = ap length k.none in absurd (omega (arith, none, some));
}

-- and more is left
pub end_more : (told : Bool) (s : State) (cs : List (List Bool)) (count : ℕ) (old now : Explored)
    (w w' : List ℕ) → (h : Through told s cs count old now w w') →
    (d : List Bool) × IsWhole now.program s now.limit d × IsAfter now.from d →
    AtEnd told s cs count old now w w' More
end_more told s cs count old now w w' h m =
    let i = h.lines in
    let rest = listing_some now.program s now.limit now.from (drop i cs) m h.along.rest in
    let some = drop-some i cs h.along.within rest in
    let e = h.all rest in
    along_end told s cs i count old now w w' More h.along (ap (λ n. take n cs) e)
    (listed_more_of cs count (omega (arith, some, e)))

-- and nothing is left
pub end_done : (told : Bool) (s : State) (cs : List (List Bool)) (count : ℕ) (old now : Explored)
    (w w' : List ℕ) → (h : Through told s cs count old now w w') →
    IsLast now.program s now.limit now.from → AtEnd told s cs count old now w w' Done
end_done told s cs count old now w w' h m =
    let i = h.lines in
    let le = h.within in
    let size = drop_none i cs h.along.within
    (listing_none now.program s now.limit now.from (drop i cs) m h.along.rest) in
    along_end told s cs i count old now w w' Done h.along
    (take_all_of i cs (omega (arith, size)) ∙ sym (take_all_of count cs (omega (arith, size, le))))
    (listed_done_of cs count (omega (arith, size, le)))

take_size : (n : ℕ) (cs : List (List Bool)) → take (length (take n cs)) cs ≡ take n cs
take_size zero cs = refl
take_size (suc n) [] = refl
take_size (suc n) (x ∷ cs) = ap (λ r. x ∷ r) (take_size n cs)

drop_size : (xs : List (List Bool)) → drop (length xs) xs ≡ []
drop_size [] = refl
drop_size (x ∷ xs) = drop_size xs

size_take : (i n : ℕ) (cs : List (List Bool)) → i ≤ n → i ≤ length cs → i ≤ length (take n cs)
size_take zero n cs h k = omega arith
size_take (suc i) zero cs h k = absurd (omega arith)
size_take (suc i) (suc n) [] h k = absurd (omega arith)
size_take (suc i) (suc n) (x ∷ cs) h k = let r = size_take i n cs (omega arith) (omega arith) in omega arith

end_part : (told : Bool) (s : State) (cs : List (List Bool)) (count : ℕ) (old now : Explored) (w w' w'' : List ℕ)
    (listed : Listed2) (n : ℕ) → AtEnd told s cs count old now w w' listed →
    (told ≡ true → w'' ≡ w' ++ take n (last_line listed)) →
    WroteInPart told s cs count old now w w'' (length (take count cs)) n
end_part told s cs count old now w w' w'' listed n a f = record {
  within = omega arith;
  gave =
      subst (λ x. Gave s old x now) (sym (take_all_of (length (take count cs) + 1) (take count cs) (omega arith)))
      a.gave;
  text = λ t. f t ∙ (ap (λ x. x ++ take n (last_line listed)) (a.text t)
      ∙ (append_assoc w (run_lines old.program s old.limit (take count cs)) (take n (last_line listed))
      ∙ (ap (λ x. w ++ (run_lines old.program s old.limit x ++ take n (last_line listed))) (sym (take_size count cs))
      ∙ ap (λ x. w ++ (run_lines old.program s old.limit (take (length (take count cs)) cs) ++ take n x))
      (ap last_line a.says ∙ ap (λ x. line_next old.program s old.limit x (last_line (listed_of cs count)))
      (sym (drop_size (take count cs)))))));
}

end_whole : (told : Bool) (s : State) (cs : List (List Bool)) (count : ℕ) (old now : Explored) (w w' w'' : List ℕ)
    (listed : Listed2) → AtEnd told s cs count old now w w' listed →
    (told ≡ true → w'' ≡ w' ++ last_line listed) → Wrote told s cs count old now w w'' listed
end_whole told s cs count old now w w' w'' listed a f = record {
  gave = a.gave;
  says = a.says;
  text = λ t. f t ∙ (ap (λ x. x ++ last_line listed) (a.text t)
      ∙ (append_assoc w (run_lines old.program s old.limit (take count cs)) (last_line listed)
      ∙ ap (λ x. w ++ (run_lines old.program s old.limit (take count cs) ++ last_line x)) a.says));
}

-- the answer of the last line is that of the whole
pub last_writes : (told : Bool) (s : State) (cs : List (List Bool)) (count : ℕ) (old now : Explored)
    (w w' w'' : List ℕ) (listed : Listed2) (r : Result Listed2 RunsError) →
    AtEnd told s cs count old now w w' listed → IfOk r (λ x. x ≡ listed) → IfErr r (λ e. e ≡ Write) →
    (n : ℕ) × (told ≡ true → w'' ≡ w' ++ take n (last_line listed)) →
    (told ≡ true → OnOk r (w'' ≡ w' ++ last_line listed)) →
    Writes told s cs count old now w w'' r
last_writes told s cs count old now w w' w'' listed (Ok x) a e f part all =
    subst (λ y. Wrote told s cs count old now w w'' y) (sym e)
    (end_whole told s cs count old now w w' w'' listed a all)
last_writes told s cs count old now w w' w'' listed (Err x) a e f part all =
    subst (λ y. Writes told s cs count old now w w'' (Err y)) (sym f)
    (length (take count cs), part.0, end_part told s cs count old now w w' w'' listed part.0 a part.1)

line_at_position : (p : Program) (s : State) (l i n : ℕ) (cs : List (List Bool)) (last : List ℕ) → i < n →
    0 < length (drop i cs) → run_lines p s l (take 1 (drop i cs)) ≡ line_next p s l (drop i (take n cs)) last
line_at_position p s l i zero cs last h k = absurd (omega arith)
line_at_position p s l zero (suc n) [] last h k = absurd (omega arith)
line_at_position p s l zero (suc n) (x ∷ cs) last h k = append-nil (run_line p s l x)
line_at_position p s l (suc i) (suc n) [] last h k = absurd (omega arith)
line_at_position p s l (suc i) (suc n) (x ∷ cs) last h k = line_at_position p s l i n cs last (omega arith) k

-- a refusal at one line is that of the whole
pub next_refused : (told : Bool) (s : State) (cs : List (List Bool)) (i count : ℕ) (old mid new : Explored)
    (w w₁ w' : List ℕ) (e : RunsError) → i < count → Along told s cs i old mid w w₁ →
    WritesNext told s (drop i cs) mid new w₁ w' (Err e) → Writes told s cs count old new w w' (Err e)
next_refused told s cs i count old mid new w w₁ w' NoMemory lt h k = (
  i,
  record {
    fewer = lt;
    due = let d = drop-some i cs h.within k.due in omega arith;
    begun = (mid.work, h.gave.counts, let b = k.begun in let e = h.gave.limit in omega arith);
    failed = k.failed;
    text = λ t. k.text t ∙ h.text t;
  },
)
next_refused told s cs i count old mid new w w₁ w' WorkFull lt h k = (
  i,
  record {
    fewer = lt;
    due = let d = drop-some i cs h.within k.due in omega arith;
    full = subst IsFull (sym k.same) k.full;
    gave = subst (λ x. Gave s old (take i cs) x) (sym k.same) h.gave;
    text = λ t. k.text t ∙ h.text t;
  },
)
next_refused told s cs i count old mid new w w₁ w' Write lt h (n, k) = (
  i,
  n,
  record {
    within = size_take i count cs (omega arith) h.within;
    gave = subst (λ x. Gave s old x new) (sym (take-add i 1 cs) ∙ sym (take-take (i + 1) count cs (omega arith)))
        (gave-append s old mid new (take i cs) (take 1 (drop i cs)) h.gave k.gave);
    text =
        λ t. k.text t ∙ (ap (λ x. x ++ take n (run_lines mid.program s mid.limit (take 1 (drop i cs)))) (h.text t)
        ∙ (append_assoc w (run_lines old.program s old.limit (take i cs))
        (take n (run_lines mid.program s mid.limit (take 1 (drop i cs))))
        ∙ ap (λ x. w ++ (run_lines old.program s old.limit (take i cs) ++ take n x))
        (lines-in s old mid (take 1 (drop i cs)) h.gave.program h.gave.limit
        ∙ line_at_position old.program s old.limit i count cs (last_line (listed_of cs count)) lt k.some)));
  },
)
next_refused told s cs i count old mid new w w₁ w' Failed lt h k = absurd k
next_refused told s cs i count old mid new w w₁ w' NoSuchRun lt h k = absurd k
next_refused told s cs i count old mid new w w₁ w' BadCursor lt h k = absurd k
next_refused told s cs i count old mid new w w₁ w' Read lt h k = absurd k

pub told_beginning : (told : Bool) (w w' text : List ℕ) → (told ≡ true →
    (n : ℕ) × (w' ≡ w ++ take n text)) → (n : ℕ) × (told ≡ true → w' ≡ w ++ take n text)
told_beginning true w w' text f = let r = f refl in (r.0, λ t. r.1)
told_beginning false w w' text f = (0, λ t. cc)

pub is_one : (told : Bool) (s : State) (xs : List (List Bool)) (old new : Explored) (w w' : List ℕ) (some : Bool) →
    some ≡ true → WritesNext told s xs old new w w' (Ok some) → WritesOne told s xs old new w w'
is_one told s xs old new w w' true n h = h
is_one told s xs old new w w' false n h = cc

pub is_none : (told : Bool) (s : State) (xs : List (List Bool)) (old new : Explored) (w w' : List ℕ) (some : Bool) →
    some ≡ false → WritesNext told s xs old new w w' (Ok some) → WritesNone told xs old new w w'
is_none told s xs old new w w' false n h = h
is_none told s xs old new w w' true n h = cc

-- the explorer after a move that was refused
pub move_refused : {T : Type 0} (old new : Explored) (e : RunsError) → old.failed ≡ false →
    (◌≡◌ {A = Result T RunsError} (Err e) (Err Failed) → old.failed ≡ true) →
    (◌≡◌ {A = Result T RunsError} (Err e) (Err WorkFull) → IsFull old) →
    (◌≡◌ {A = Result T RunsError} (Err e) (Err NoMemory) → HasFailed new) →
    (e ≡ NoMemory) ⊎ ((e ≡ Failed) ⊎ (e ≡ WorkFull)) → Moves old new (Err e)
move_refused old new NoMemory sound failed full no_memory some = no_memory refl
move_refused old new WorkFull sound failed full no_memory some = full refl
move_refused old new Write sound failed full no_memory some = tt
move_refused old new Failed sound failed full no_memory some = let f = failed refl in cc
move_refused old new NoSuchRun sound failed full no_memory some = absurd (grind arith)
move_refused old new BadCursor sound failed full no_memory some = absurd (grind arith)
move_refused old new Read sound failed full no_memory some = absurd (grind arith)

-- what a refused line says of the listing
pub refused_errors : (old new : Explored) (e : RunsError) → Moves old new (Err e) →
    (e ≡ NoMemory) ⊎ ((e ≡ WorkFull) ⊎ ((e ≡ Write) ⊎ (e ≡ Failed)))
refused_errors old new NoMemory h = grind arith
refused_errors old new WorkFull h = grind arith
refused_errors old new Write h = grind arith
refused_errors old new Failed h = absurd h
refused_errors old new NoSuchRun h = absurd h
refused_errors old new BadCursor h = absurd h
refused_errors old new Read h = absurd h

pub refused_memory : (old new : Explored) (e : RunsError) → Moves old new (Err e) → e ≡ NoMemory → HasFailed new
refused_memory old new e h is = subst (λ x. Moves old new (Err x)) is h

pub refused_full : (first old new : Explored) (i count : ℕ) (e : RunsError) → Moves old new (Err e) →
    old.limit ≡ first.limit → old.work ≤ first.work + i * first.limit → i < count → e ≡ WorkFull →
    2 ^ 64 ≤ first.work + count * first.limit
refused_full first old new i count e h same within lt is =
    let full : IsFull old = subst (λ x. Moves old new (Err x)) is h in
    full_in (2 ^ 64) first.work first.limit old.work old.limit i count full same within lt
