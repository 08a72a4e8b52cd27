-- A tree is read back from its text, whatever follows it.
use Rattle.std.proofs.Common.{◌≡◌, ◌∙◌, ◌<◌, ◌≤◌, ◌^◌, ◌==◌, ℕ, List, [], ◌∷◌, ◌++◌, ap, ap₂, append_assoc, arith, refl}
use Rattle.std.proofs.Common.{if◌then◌else◌, sym}
use Rattle.std.proofs.lemmas.Bool.Decides.{nat_tests}
use Rattle.std.proofs.lemmas.Fmt.{decimal_injective, decimal_is_IsNumeral}
use Rattle.std.proofs.lemmas.List.{append-nil}
use Rattle.std.specs.Char.{digit_value}
use Rattle.std.specs.Prelude.{codes, decimal}
use Rattle.std.specs.Str.Parse.{AllDigits}
use Rattle.ick_inspect.specs.Names.{name_text, sigil}
use Rattle.ick_stages.specs.Trees.{HasWords, HaveWords, binary_sign, subs_text, tree_text, unary_sign}
use Rattle.ick_syntax.specs.Tree.{Tree, mesh, scalar, element, unary, binary, Trees, none, more}
use Rattle.ick_syntax.specs.declared.tree.BinaryOp.{BinaryOp}
use Rattle.ick_syntax.specs.declared.tree.BinaryOp.TheVariants.{Mingle, Select}
use Rattle.ick_syntax.specs.declared.tree.Name.{Name}
use Rattle.ick_syntax.specs.declared.tree.NameKind.{NameKind}
use Rattle.ick_syntax.specs.declared.tree.NameKind.TheVariants.{Onespot, Twospot, Tail, Hybrid}
use Rattle.ick_syntax.specs.declared.tree.UnaryOp.{UnaryOp}
use Rattle.ick_syntax.specs.declared.tree.UnaryOp.TheVariants.{And, Or, Xor}

abbrev head_of : List ℕ → ℕ
head_of [] = 0
head_of (x ∷ xs) = x

abbrev rest_of : List ℕ → List ℕ
rest_of [] = []
rest_of (x ∷ xs) = xs

-- what follows begins with a byte below the digits, if with any
abbrev Ends : List ℕ → Type 0
Ends [] = Unit {0}
Ends (b ∷ bs) = b < 48

digit_byte : (c : ℕ) → digit_value c < 10 → 48 ≤ c
digit_byte c h = grind (arith, nat_tests)

-- digits end where something else begins
digits_end : (xs ys r q : List ℕ) → AllDigits 10 xs → AllDigits 10 ys → Ends r → Ends q → xs ++ r ≡ ys ++ q →
    (xs ≡ ys) × (r ≡ q)
digits_end [] [] r q xd yd re qe e = (refl, e)
digits_end [] (y ∷ ys) [] q xd yd re qe e = absurd (cc)
digits_end [] (y ∷ ys) (b ∷ r) q xd yd re qe e =
    let d = digit_byte y yd.0 in let same : b ≡ y = ap head_of e in absurd (omega arith)
digits_end (x ∷ xs) [] r [] xd yd re qe e = absurd (cc)
digits_end (x ∷ xs) [] r (b ∷ q) xd yd re qe e =
    let d = digit_byte x xd.0 in let same : x ≡ b = ap head_of e in absurd (omega arith)
digits_end (x ∷ xs) (y ∷ ys) r q xd yd re qe e =
    let h : x ≡ y = ap head_of e in
    let t = digits_end xs ys r q xd.1 yd.1 re qe (ap rest_of e) in
    (ap₂ (λ a b. a ∷ b) h t.0, t.1)

all_digits : (n : ℕ) → n < 2 ^ 64 → AllDigits 10 (decimal n)
all_digits n h = (decimal_is_IsNumeral n h).0.1

number_end : (m n : ℕ) (r q : List ℕ) → m < 2 ^ 64 → n < 2 ^ 64 → Ends r → Ends q → decimal m ++ r ≡ decimal n ++ q →
    (m ≡ n) × (r ≡ q)
number_end m n r q small small' re qe e =
    let d = digits_end (decimal m) (decimal n) r q (all_digits m small) (all_digits n small') re qe e in
    (decimal_injective m n small small' d.0, d.1)

-- the bytes of signs
abbrev sigil_code : NameKind → ℕ
sigil_code Onespot = 46
sigil_code Twospot = 58
sigil_code Tail = 44
sigil_code Hybrid = 59

abbrev unary_code : UnaryOp → ℕ
unary_code And = 38
unary_code Or = 86
unary_code Xor = 63

sigil_is : (k : NameKind) → sigil k ≡ sigil_code k ∷ []
sigil_is Onespot = refl
sigil_is Twospot = refl
sigil_is Tail = refl
sigil_is Hybrid = refl

unary_is : (op : UnaryOp) → unary_sign op ≡ unary_code op ∷ []
unary_is And = refl
unary_is Or = refl
unary_is Xor = refl

one_kind : (k j : NameKind) → sigil_code k ≡ sigil_code j → k ≡ j
one_kind Onespot Onespot e = refl
one_kind Twospot Twospot e = refl
one_kind Tail Tail e = refl
one_kind Hybrid Hybrid e = refl
one_kind Onespot Twospot e = absurd (omega arith)
one_kind Onespot Tail e = absurd (omega arith)
one_kind Onespot Hybrid e = absurd (omega arith)
one_kind Twospot Onespot e = absurd (omega arith)
one_kind Twospot Tail e = absurd (omega arith)
one_kind Twospot Hybrid e = absurd (omega arith)
one_kind Tail Onespot e = absurd (omega arith)
one_kind Tail Twospot e = absurd (omega arith)
one_kind Tail Hybrid e = absurd (omega arith)
one_kind Hybrid Onespot e = absurd (omega arith)
one_kind Hybrid Twospot e = absurd (omega arith)
one_kind Hybrid Tail e = absurd (omega arith)

one_unary : (o p : UnaryOp) → unary_code o ≡ unary_code p → o ≡ p
one_unary And And e = refl
one_unary Or Or e = refl
one_unary Xor Xor e = refl
one_unary And Or e = absurd (omega arith)
one_unary And Xor e = absurd (omega arith)
one_unary Or And e = absurd (omega arith)
one_unary Or Xor e = absurd (omega arith)
one_unary Xor And e = absurd (omega arith)
one_unary Xor Or e = absurd (omega arith)

-- which tree a byte begins: a constant, a name, a group, or an operator
abbrev class_of : Tree → ℕ
class_of (mesh n) = 0
class_of (scalar name) = 1
class_of (element array subs) = 2
class_of (unary op t) = 3
class_of (binary op a b) = 2

abbrev byte_class : ℕ → ℕ
byte_class n =
    if n == 35 then 0 else if n == 40 then 2 else if n == 46 then 1 else if n == 58 then 1 else if n == 44 then 1
    else if n == 59 then 1 else 3

sigil_class : (k : NameKind) → byte_class (sigil_code k) ≡ 1
sigil_class Onespot = refl
sigil_class Twospot = refl
sigil_class Tail = refl
sigil_class Hybrid = refl

unary_class : (op : UnaryOp) → byte_class (unary_code op) ≡ 3
unary_class And = refl
unary_class Or = refl
unary_class Xor = refl

-- a name as its byte and its number
name_is : (name : Name) (r : List ℕ) → name_text name ++ r ≡ sigil_code name.kind ∷ (decimal name.number ++ r)
unfolding name_text
name_is name r = ap (λ s. (s ++ decimal name.number) ++ r) (sigil_is name.kind)

unary_text : (op : UnaryOp) (t : Tree) (r : List ℕ) → tree_text (unary op t) ++ r ≡ unary_code op ∷ (tree_text t ++ r)
unary_text op t r = ap (λ s. (s ++ tree_text t) ++ r) (unary_is op)

class_is : (t : Tree) (r : List ℕ) → byte_class (head_of (tree_text t ++ r)) ≡ class_of t
class_is (mesh n) r = refl
class_is (scalar name) r = ap (λ l. byte_class (head_of l)) (name_is name r) ∙ sigil_class name.kind
class_is (element array subs) r = refl
class_is (unary op t) r = ap (λ l. byte_class (head_of l)) (unary_text op t r) ∙ unary_class op
class_is (binary op a b) r = refl

same_class : (s t : Tree) (r q : List ℕ) → tree_text s ++ r ≡ tree_text t ++ q → class_of s ≡ class_of t
same_class s t r q e = sym (class_is s r) ∙ (ap (λ l. byte_class (head_of l)) e ∙ class_is t q)

-- names
one_name : (x y : Name) (r q : List ℕ) → x.number < 2 ^ 64 → y.number < 2 ^ 64 → Ends r → Ends q →
    name_text x ++ r ≡ name_text y ++ q → (x ≡ y) × (r ≡ q)
one_name x y r q small small' re qe e =
    let both : sigil_code x.kind ∷ (decimal x.number ++ r) ≡ sigil_code y.kind ∷ (decimal y.number ++ q) =
    sym (name_is x r) ∙ (e ∙ name_is y q) in
    let kinds = one_kind x.kind y.kind (ap head_of both) in
    let numbers = number_end x.number y.number r q small small' re qe (ap rest_of both) in
    (ap₂ (λ k n. record { kind = k; number = n }) kinds numbers.0, numbers.1)

-- a tree that begins as a name is that name
at_name : (t : Tree) (name : Name) (r q : List ℕ) → HasWords t → name.number < 2 ^ 64 → Ends r → Ends q →
    tree_text t ++ r ≡ name_text name ++ q → (t ≡ scalar name) × (r ≡ q)
at_name (scalar x) name r q small small' re qe e =
    let same = one_name x name r q small small' re qe e in (ap scalar same.0, same.1)
at_name (mesh n) name r q small small' re qe e =
    let class = same_class (mesh n) (scalar name) r q e in absurd (omega arith)
at_name (element array subs) name r q small small' re qe e =
    let class = same_class (element array subs) (scalar name) r q e in absurd (omega arith)
at_name (unary op t) name r q small small' re qe e =
    let class = same_class (unary op t) (scalar name) r q e in absurd (omega arith)
at_name (binary op a b) name r q small small' re qe e =
    let class = same_class (binary op a b) (scalar name) r q e in absurd (omega arith)

-- groups, piece by piece
group_is : (a sign b r : List ℕ) →
    (codes "(" ++ a ++ sign ++ b ++ codes ")") ++ r ≡ 40 ∷ (a ++ (sign ++ (b ++ (codes ")" ++ r))))
group_is a sign b r =
    ap (λ l. 40 ∷ l) (append_assoc (a ++ sign ++ b) (codes ")") r
    ∙ (append_assoc (a ++ sign) b (codes ")" ++ r) ∙ append_assoc a sign (b ++ (codes ")" ++ r))))

abbrev binary_rest : BinaryOp → Tree → List ℕ → List ℕ
binary_rest op b r = binary_sign op ++ (tree_text b ++ (codes ")" ++ r))

binary_is : (op : BinaryOp) (a b : Tree) (r : List ℕ) →
    tree_text (binary op a b) ++ r ≡ 40 ∷ (tree_text a ++ binary_rest op b r)
binary_is op a b r = group_is (tree_text a) (binary_sign op) (tree_text b) r

abbrev element_rest : Trees → List ℕ → List ℕ
element_rest subs r = codes " SUB" ++ (subs_text subs ++ (codes ")" ++ r))

element_is : (array : Name) (subs : Trees) (r : List ℕ) →
    tree_text (element array subs) ++ r ≡ 40 ∷ (name_text array ++ element_rest subs r)
element_is array subs r = group_is (name_text array) (codes " SUB") (subs_text subs) r

sign_ends : (op : BinaryOp) (l : List ℕ) → Ends (binary_sign op ++ l)
sign_ends Mingle l = omega arith
sign_ends Select l = omega arith

one_sign : (o p : BinaryOp) (l m : List ℕ) → binary_sign o ++ l ≡ binary_sign p ++ m → (o ≡ p) × (l ≡ m)
one_sign Mingle Mingle l m e = (refl, ap (λ x. rest_of (rest_of (rest_of x))) e)
one_sign Select Select l m e = (refl, ap (λ x. rest_of (rest_of (rest_of x))) e)
one_sign Mingle Select l m e = let other = ap (λ x. head_of (rest_of x)) e in absurd (omega arith)
one_sign Select Mingle l m e = let other = ap (λ x. head_of (rest_of x)) e in absurd (omega arith)

-- an operator is no subscript
no_sub : (op : BinaryOp) (b : Tree) (subs : Trees) (r q : List ℕ) → binary_rest op b r ≡ element_rest subs q → ⊥
no_sub Mingle b subs r q e = let other = ap (λ x. head_of (rest_of x)) e in omega arith
no_sub Select b subs r q e = let other = ap (λ x. head_of (rest_of x)) e in omega arith

-- what follows a subscript
subs_end : (ts : Trees) (r : List ℕ) → Ends (subs_text ts ++ (41 ∷ r))
subs_end none r = omega arith
subs_end (more t ts) r = omega arith

mutual
  same_tree : (s t : Tree) (r q : List ℕ) → HasWords s → HasWords t → Ends r → Ends q →
      tree_text s ++ r ≡ tree_text t ++ q → (s ≡ t) × (r ≡ q)
  same_tree (mesh m) (mesh n) r q sw tw re qe e =
      let same = number_end m n r q sw tw re qe (ap rest_of e) in (ap mesh same.0, same.1)
  same_tree s (scalar y) r q sw tw re qe e = at_name s y r q sw tw re qe e
  same_tree (scalar x) (mesh n) r q sw tw re qe e =
      let class = same_class (scalar x) (mesh n) r q e in absurd (omega arith)
  same_tree (scalar x) (element array subs) r q sw tw re qe e =
      let class = same_class (scalar x) (element array subs) r q e in absurd (omega arith)
  same_tree (scalar x) (unary op t) r q sw tw re qe e =
      let class = same_class (scalar x) (unary op t) r q e in absurd (omega arith)
  same_tree (scalar x) (binary op a b) r q sw tw re qe e =
      let class = same_class (scalar x) (binary op a b) r q e in absurd (omega arith)
  same_tree (mesh m) (element array subs) r q sw tw re qe e =
      let class = same_class (mesh m) (element array subs) r q e in absurd (omega arith)
  same_tree (mesh m) (unary op t) r q sw tw re qe e =
      let class = same_class (mesh m) (unary op t) r q e in absurd (omega arith)
  same_tree (mesh m) (binary op a b) r q sw tw re qe e =
      let class = same_class (mesh m) (binary op a b) r q e in absurd (omega arith)
  same_tree (element array subs) (mesh n) r q sw tw re qe e =
      let class = same_class (element array subs) (mesh n) r q e in absurd (omega arith)
  same_tree (element array subs) (unary op t) r q sw tw re qe e =
      let class = same_class (element array subs) (unary op t) r q e in absurd (omega arith)
  same_tree (unary op s) (mesh n) r q sw tw re qe e =
      let class = same_class (unary op s) (mesh n) r q e in absurd (omega arith)
  same_tree (unary op s) (element array subs) r q sw tw re qe e =
      let class = same_class (unary op s) (element array subs) r q e in absurd (omega arith)
  same_tree (unary op s) (binary o a b) r q sw tw re qe e =
      let class = same_class (unary op s) (binary o a b) r q e in absurd (omega arith)
  same_tree (binary op a b) (mesh n) r q sw tw re qe e =
      let class = same_class (binary op a b) (mesh n) r q e in absurd (omega arith)
  same_tree (binary op a b) (unary o t) r q sw tw re qe e =
      let class = same_class (binary op a b) (unary o t) r q e in absurd (omega arith)
  same_tree (unary o s) (unary p t) r q sw tw re qe e =
      let both = sym (unary_text o s r) ∙ (e ∙ unary_text p t q) in
      let inner = same_tree s t r q sw tw re qe (ap rest_of both) in
      (ap₂ unary (one_unary o p (ap head_of both)) inner.0, inner.1)
  same_tree (binary o a b) (binary p c d) r q sw tw re qe e =
      let both = sym (binary_is o a b r) ∙ (e ∙ binary_is p c d q) in
      let left = same_tree a c (binary_rest o b r) (binary_rest p d q) sw.0 tw.0 (sign_ends o _) (sign_ends p _)
      (ap rest_of both) in
      let sign = one_sign o p _ _ left.1 in
      let right = same_tree b d (codes ")" ++ r) (codes ")" ++ q) sw.1 tw.1 (omega arith) (omega arith) sign.1 in (
        ap (λ z. binary z a b) sign.0 ∙ (ap (λ z. binary p z b) left.0 ∙ ap (λ z. binary p c z) right.0),
        ap rest_of right.1,
      )
  same_tree (binary o a b) (element array subs) r q sw tw re qe e =
      let both = sym (binary_is o a b r) ∙ (e ∙ element_is array subs q) in
      let left = at_name a array (binary_rest o b r) (element_rest subs q) sw.0 tw.0 (sign_ends o _) (omega arith)
      (ap rest_of both) in
      absurd (no_sub o b subs r q left.1)
  same_tree (element array subs) (binary o a b) r q sw tw re qe e =
      let both = sym (binary_is o a b q) ∙ (sym e ∙ element_is array subs r) in
      let left = at_name a array (binary_rest o b q) (element_rest subs r) tw.0 sw.0 (sign_ends o _) (omega arith)
      (ap rest_of both) in
      absurd (no_sub o b subs q r left.1)
  same_tree (element x subs) (element y others) r q sw tw re qe e =
      let both = sym (element_is x subs r) ∙ (e ∙ element_is y others q) in
      let names = one_name x y (element_rest subs r) (element_rest others q) sw.0 tw.0 (omega arith) (omega arith)
      (ap rest_of both) in
      let inner = same_trees subs others r q sw.1 tw.1 (ap (λ l. rest_of (rest_of (rest_of (rest_of l)))) names.1) in
      (ap₂ element names.0 inner.0, inner.1)

  same_trees : (ss ts : Trees) (r q : List ℕ) → HaveWords ss → HaveWords ts →
      subs_text ss ++ (41 ∷ r) ≡ subs_text ts ++ (41 ∷ q) → (ss ≡ ts) × (r ≡ q)
  same_trees none none r q sw tw e = (refl, ap rest_of e)
  same_trees none (more t ts) r q sw tw e = let other = ap head_of e in absurd (omega arith)
  same_trees (more s ss) none r q sw tw e = let other = ap head_of e in absurd (omega arith)
  same_trees (more s ss) (more t ts) r q sw tw e =
      let both = sym (append_assoc (tree_text s) (subs_text ss) (41 ∷ r))
      ∙ (ap rest_of e ∙ append_assoc (tree_text t) (subs_text ts) (41 ∷ q)) in
      let first = same_tree s t (subs_text ss ++ (41 ∷ r)) (subs_text ts ++ (41 ∷ q)) sw.0 tw.0 (subs_end ss r)
      (subs_end ts q) both in
      let others = same_trees ss ts r q sw.1 tw.1 first.1 in
      (ap₂ more first.0 others.0, others.1)

pub one_tree : (s t : Tree) → HasWords s → HasWords t → tree_text s ≡ tree_text t → s ≡ t
one_tree s t sw tw e =
    (same_tree s t [] [] sw tw tt tt (append-nil (tree_text s) ∙ (e ∙ sym (append-nil (tree_text t))))).0
