-- Texts of lists, piece by piece.
use Rattle.std.proofs.Common.{◌≡◌, ◌<◌, ◌+◌, ◌-◌, Bool, true, false, List, ℕ, zero, suc, ◌++◌, length, ap, refl, ◌∙◌, arith}
use Rattle.std.proofs.Common.{append_assoc, [], ◌∷◌, sym, add-one, get_or, take}
use Rattle.std.specs.Prelude.{if◌then◌else◌, map}
use Rattle.std.specs.List.{filter, flat_map, range_with_len}
use Rattle.std.proofs.lemmas.List.{append-nil, take_more}
use Rattle.std.proofs.lemmas.List.Elements.{filter-append}
use Rattle.ick_code.specs.Counts.{count_after, popped_by, pushed_by}
use Rattle.ick_code.specs.Effects.{Slots}
use Rattle.ick_code.specs.declared.op.Op.{Op}
use Rattle.ick_inspect.proofs.AddLaws.{pieces_more, range_more}
use Rattle.ick_stages.specs.Bodies.{joined_text}
use Rattle.ick_stages.specs.Operations.{operation_line, operations_from}

-- what stands before one more part of a list
abbrev pub between : {A : Type 0} → List ℕ → List A → List ℕ
between separator [] = []
between separator (x ∷ xs) = separator

pub joined_more : {A : Type 0} (separator : List ℕ) (words : A → List ℕ) (xs : List A) (x : A) →
    joined_text separator words (xs ++ x ∷ []) ≡ joined_text separator words xs ++ (between separator xs ++ words x)
joined_more separator words [] x = append-nil (words x)
joined_more separator words (y ∷ ys) x =
    ap (λ l. words y ++ l) (pieces_more (λ z. separator ++ words z) ys x)
    ∙ sym (append_assoc (words y) (flat_map (λ z. separator ++ words z) ys) (separator ++ words x))

pub between_more : {A : Type 0} (separator : List ℕ) (xs : List A) (x : A) →
    between separator (xs ++ x ∷ []) ≡ separator
between_more separator [] x = refl
between_more separator (y ∷ ys) x = refl

pub joined_taken : {A : Type 0} (separator : List ℕ) (words : A → List ℕ) (xs : List A) (k : ℕ) (d : A) → k < length xs →
    joined_text separator words (take (k + 1) xs)
    ≡ joined_text separator words (take k xs) ++ (between separator (take k xs) ++ words (get_or xs k d))
joined_taken separator words xs k d lt =
    ap (joined_text separator words) (take_more xs k d lt) ∙ joined_more separator words (take k xs) (get_or xs k d)

pub between_taken : {A : Type 0} (separator : List ℕ) (xs : List A) (k : ℕ) (d : A) → k < length xs →
    between separator (take (k + 1) xs) ≡ separator
between_taken separator xs k d lt =
    ap (between separator) (take_more xs k d lt) ∙ between_more separator (take k xs) (get_or xs k d)

-- the parts of a list by their trees
pieces_mapped : {A B : Type 0} (separator : List ℕ) (words : B → List ℕ) (f : A → B) (xs : List A) →
    flat_map (λ x. separator ++ words (f x)) xs ≡ flat_map (λ y. separator ++ words y) (map f xs)
pieces_mapped separator words f [] = refl
pieces_mapped separator words f (x ∷ xs) =
    ap (λ l. (separator ++ words (f x)) ++ l) (pieces_mapped separator words f xs)

pub joined_mapped : {A B : Type 0} (separator : List ℕ) (words : B → List ℕ) (f : A → B) (xs : List A) →
    joined_text separator (λ x. words (f x)) xs ≡ joined_text separator words (map f xs)
joined_mapped separator words f [] = refl
joined_mapped separator words f (x ∷ xs) = ap (λ l. words (f x) ++ l) (pieces_mapped separator words f xs)

-- one more operation
operations_next : (slots : Slots) (number depth : ℕ) (ops : List Op) (k : ℕ) (d : Op) → k < length ops →
    operations_from slots number depth (take (suc k) ops)
    ≡ operations_from slots number depth (take k ops)
    ++ operation_line slots (number + suc k) (count_after (take (suc k) ops) depth) (get_or ops k d)
operations_next slots number depth [] k d lt = absurd (omega arith)
operations_next slots number depth (op ∷ ops) zero d lt =
    append-nil (operation_line slots (number + 1) (depth - popped_by op + pushed_by op) op)
operations_next slots number depth (op ∷ ops) (suc k) d lt =
    let left = depth - popped_by op + pushed_by op in
    let line = operation_line slots (number + 1) left op in
    let alike : (number + 1) + suc k ≡ number + suc (suc k) = omega arith in
    ap (λ l. line ++ l) (operations_next slots (number + 1) left ops k d (omega arith))
    ∙ (sym (append_assoc line (operations_from slots (number + 1) left (take k ops))
    (operation_line slots ((number + 1) + suc k) (count_after (take (suc k) ops) left) (get_or ops k d)))
    ∙ ap (λ m. (line ++ operations_from slots (number + 1) left (take k ops))
    ++ operation_line slots m (count_after (take (suc k) ops) left) (get_or ops k d)) alike)

pub operations_more : (slots : Slots) (ops : List Op) (k : ℕ) (d : Op) → k < length ops →
    operations_from slots 0 0 (take (k + 1) ops)
    ≡ operations_from slots 0 0 (take k ops)
    ++ operation_line slots (k + 1) (count_after (take (k + 1) ops) 0) (get_or ops k d)
operations_more slots ops k d lt =
    let alike : 0 + suc k ≡ suc k = omega arith in
    rw add-one
    (operations_next slots 0 0 ops k d lt
    ∙ ap (λ m. operations_from slots 0 0 (take k ops)
    ++ operation_line slots m (count_after (take (suc k) ops) 0) (get_or ops k d)) alike)

pub line_same : (slots : Slots) (op : Op) {m n d e : ℕ} → m ≡ n → d ≡ e →
    operation_line slots m d op ≡ operation_line slots n e op
line_same slots op {m} {n} {d} {e} numbers depths =
    ap (λ k. operation_line slots k d op) numbers ∙ ap (λ k. operation_line slots n k op) depths

count_next : (ops : List Op) (k : ℕ) (depth : ℕ) (d : Op) → k < length ops →
    count_after (take (suc k) ops) depth
    ≡ count_after (take k ops) depth - popped_by (get_or ops k d) + pushed_by (get_or ops k d)
count_next [] k depth d lt = absurd (omega arith)
count_next (op ∷ ops) zero depth d lt = refl
count_next (op ∷ ops) (suc k) depth d lt = count_next ops k (depth - popped_by op + pushed_by op) d (omega arith)

pub count_more : (ops : List Op) (k : ℕ) (d : Op) → k < length ops →
    count_after (take (k + 1) ops) 0
    ≡ count_after (take k ops) 0 - popped_by (get_or ops k d) + pushed_by (get_or ops k d)
count_more ops k d lt = rw add-one (count_next ops k 0 d lt)

pub depth_more : (ops : List Op) (k : ℕ) (d : Op) {depth popped pushed left : ℕ} → k < length ops →
    depth ≡ count_after (take k ops) 0 → popped ≡ popped_by (get_or ops k d) → pushed ≡ pushed_by (get_or ops k d) →
    left ≡ depth - popped → left + pushed ≡ count_after (take (k + 1) ops) 0
depth_more ops k d lt e p q l = let more = count_more ops k d lt in omega (arith, more, e, p, q, l)

-- the numbers from 0 on
pub numbers_more : (n : ℕ) → range_with_len 0 (n + 1) ≡ range_with_len 0 n ++ n ∷ []
numbers_more n =
    let alike : 0 + n ≡ n = omega arith in
    range_more 0 n ∙ ap (λ k. range_with_len 0 n ++ k ∷ []) alike

-- the numbers from 0 on that pass a test: one number more
pub passing_yes : (test : ℕ → Bool) (n : ℕ) → test n ≡ true →
    filter test (range_with_len 0 (n + 1)) ≡ filter test (range_with_len 0 n) ++ n ∷ []
passing_yes test n passes =
    ap (filter test) (numbers_more n) ∙ (filter-append test (range_with_len 0 n) (n ∷ [])
    ∙ ap (λ b. filter test (range_with_len 0 n) ++ (if b then n ∷ [] else [])) passes)

pub passing_no : (test : ℕ → Bool) (n : ℕ) → test n ≡ false →
    filter test (range_with_len 0 (n + 1)) ≡ filter test (range_with_len 0 n)
passing_no test n fails =
    ap (filter test) (numbers_more n) ∙ (filter-append test (range_with_len 0 n) (n ∷ [])
    ∙ (ap (λ b. filter test (range_with_len 0 n) ++ (if b then n ∷ [] else [])) fails
    ∙ append-nil (filter test (range_with_len 0 n))))
