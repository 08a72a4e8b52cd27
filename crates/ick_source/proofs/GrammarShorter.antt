-- What a grammar reads takes characters.
use Rattle.std.proofs.Common.{ℕ, suc, zero, ◌<◌, ◌≤◌, Bool, true, false, List, [], ◌∷◌, length, Option, Some, None, ap, arith}
use Rattle.ick_syntax.specs.declared.tree.NameKind.{NameKind}
use Rattle.ick_source.specs.declared.lead.Delimiter.{Delimiter}
use Rattle.ick_source.specs.declared.wanted.Wanted.{Wanted}
use Rattle.ick_source.specs.declared.wanted.Wanted.TheVariants as wanted
use Rattle.ick_source.specs.declared.wanted.Wanted.TheVariants.{Operand, Shallower}
use Rattle.ick_source.specs.declared.lead.Lead.{Lead}
use Rattle.ick_source.specs.declared.lead.Lead.TheVariants.{Spot, Array, Hash, Group, Unary, Binary, Other}
use Rattle.ick_source.specs.Grammar.{Grammar, yields, nothing, sequence, word, number, sign, next, looks, repeated}
use Rattle.ick_source.specs.Grammar.{Further, Part, IsRepeated, only, and_more, stands, Shorter, among, pick, ◌>>◌}
use Rattle.ick_source.specs.Expression.{Level, level, leaves, groups, elements, operand_by, operands_over, expressions_over}
use Rattle.ick_syntax.specs.declared.body.Gerund.{Gerund}
use Rattle.ick_syntax.specs.declared.body.Gerund.TheVariants.{Calculating, Nexting, Forgetting, Resuming, Stashing}
use Rattle.ick_syntax.specs.declared.body.Gerund.TheVariants.{Retrieving, Ignoring, Remembering, Abstaining}
use Rattle.ick_syntax.specs.declared.body.Gerund.TheVariants.{Reinstating, WritingIn, ReadingOut}
use Rattle.ick_syntax.specs.Gerund.{gerund_word}
use Rattle.ick_source.specs.declared.verb.Verb.{Verb}
use Rattle.ick_source.specs.declared.verb.Verb.TheVariants.{Forget, Resume, Stash, Retrieve, Ignore, Remember}
use Rattle.ick_source.specs.declared.verb.Verb.TheVariants.{Abstain, Reinstate, Give, Write, Read}
use Rattle.ick_source.specs.Verb.{verb_word}
use Rattle.ick_source.specs.BodyGrammar.{names, name_by, named, wholes, places, place_by, items, item_by, gerunds, verbs}
use Rattle.ick_source.specs.BodyGrammar.{labels, calls, worded_by, scalar_bodies, array_bodies, body_by, bodies}
use Rattle.ick_source.proofs.TokenShorter.{number-shorter, word-shorter, word-takes, length-past_lead}

repeated-within : {A : Type 0} (part : Part A) (further : Further) →
    ((from to : List ℕ) (x : A) → part from to x → length to ≤ length from) →
    (from to : List ℕ) (xs : List A) → IsRepeated A part further from to xs → length to ≤ length from
repeated-within part further within from to xs (only p e) = within from to _ p
repeated-within part further within from to xs (and_more {later = later} p e less q) =
    omega (arith, less, repeated-within part further within later to _ q)

pub within : {A : Type 0} (g : Grammar A) (from to : List ℕ) (x : A) → stands g from to x → length to ≤ length from
unfolding stands
within (yields a) from to x p = omega (arith, ap length p.0)
within (nothing w) from to x p = absurd p
within (sequence g f) from to x p = omega (arith, within g from p.0 p.1 p.2, within (f p.1) p.0 to x p.3)
within (word w) from to x p = word-shorter p
within number from to x p = omega (arith, number-shorter p)
within sign from to x p = omega (arith, ap length p.1, length-past_lead from)
within next from to x p = omega (arith, ap length p.1)
within (looks w) from to x p = omega (arith, ap length p.1)
within (repeated g further) from to x p = repeated-within (stands g) further (λ from to x q. within g from to x q) from to x p

pub shorter-first : {A B : Type 0} (g : Grammar A) (f : A → Grammar B) → Shorter g → Shorter (sequence g f)
unfolding stands
shorter-first g f s from to x p = omega (arith, s from p.0 p.1 p.2, within (f p.1) p.0 to x p.3)

pub shorter-then : {A B : Type 0} (g : Grammar A) (f : A → Grammar B) → ((a : A) → Shorter (f a)) → Shorter (sequence g f)
unfolding stands
shorter-then g f s from to x p = omega (arith, within g from p.0 p.1 p.2, s p.1 p.0 to x p.3)

pub number-shortens : Shorter number
unfolding stands
number-shortens from to x p = number-shorter p

nothing-shortens : {A : Type 0} (w : Wanted) → Shorter {A = A} (nothing w)
unfolding stands
nothing-shortens w from to x p = absurd p

abbrev pub ShorterLevel : Level → Type 0
ShorterLevel l = ((m : Option Delimiter) → Shorter (l.operands m)) × ((m : Option Delimiter) → Shorter (l.expressions m))

leaves-shorten : (kind : Option NameKind) → Shorter (leaves kind)
unfolding leaves
leaves-shorten kind = shorter-then _ _ (λ o. shorter-first _ _ number-shortens)

operand_by-shortens : (below : Level) (m : Option Delimiter) → ShorterLevel below → (l : Lead) →
    Shorter (operand_by below m l)
unfolding groups elements
operand_by-shortens below m s (Spot k) = leaves-shorten (Some k)
operand_by-shortens below m s Hash = leaves-shorten None
operand_by-shortens below m s (Array k) = shorter-first _ _ number-shortens
operand_by-shortens below m s (Group q) = shorter-then _ _ (λ o. shorter-first _ _ (s.1 (Some q)))
operand_by-shortens below m s (Unary o) = nothing-shortens Operand
operand_by-shortens below m s (Binary o) = nothing-shortens Operand
operand_by-shortens below m s Other = nothing-shortens Operand

operands-shorten : (below : Level) (m : Option Delimiter) → ShorterLevel below → Shorter (operands_over below m)
unfolding operands_over
operands-shorten below m s = shorter-then _ _ (λ l. operand_by-shortens below m s l)

expressions-shorten : (below : Level) (h : ℕ) (m : Option Delimiter) → ShorterLevel below →
    Shorter (expressions_over below h m)
unfolding expressions_over
expressions-shorten below h m s = shorter-first _ _ (operands-shorten below m s)

pub level-shortens : (h : ℕ) → ShorterLevel (level h)
unfolding level
level-shortens zero = (λ m. nothing-shortens Shallower, λ m. nothing-shortens Shallower)
level-shortens (suc h) =
    let s = level-shortens h in (λ m. operands-shorten (level h) m s, λ m. expressions-shorten (level h) h m s)

pub name_by-shortens : (l : Lead) → Shorter (name_by l)
unfolding named
name_by-shortens (Spot k) = shorter-first _ _ number-shortens
name_by-shortens (Array k) = shorter-first _ _ number-shortens
name_by-shortens Hash = nothing-shortens wanted.Name
name_by-shortens (Group q) = nothing-shortens wanted.Name
name_by-shortens (Unary o) = nothing-shortens wanted.Name
name_by-shortens (Binary o) = nothing-shortens wanted.Name
name_by-shortens Other = nothing-shortens wanted.Name

pub names-shorten : Shorter names
unfolding names
names-shorten = shorter-then _ _ name_by-shortens

pub wholes-shorten : Shorter wholes
unfolding wholes
wholes-shorten = shorter-first _ _ ((level-shortens 256).1 None)

named-shortens : (kind : NameKind) → Shorter (named kind)
unfolding named
named-shortens kind = shorter-first _ _ number-shortens

place_by-shortens : (l : Lead) → Shorter (place_by l)
place_by-shortens (Spot k) = shorter-first _ _ (named-shortens k)
place_by-shortens (Array k) = shorter-first _ _ (named-shortens k)
place_by-shortens Hash = nothing-shortens wanted.Place
place_by-shortens (Group q) = nothing-shortens wanted.Place
place_by-shortens (Unary o) = nothing-shortens wanted.Place
place_by-shortens (Binary o) = nothing-shortens wanted.Place
place_by-shortens Other = nothing-shortens wanted.Place

pub places-shorten : Shorter places
unfolding places
places-shorten = shorter-then _ _ place_by-shortens

item_by-shortens : (l : Lead) → Shorter (item_by l)
item_by-shortens Hash = shorter-first _ _ number-shortens
item_by-shortens (Spot k) = place_by-shortens (Spot k)
item_by-shortens (Array k) = place_by-shortens (Array k)
item_by-shortens (Group q) = nothing-shortens wanted.Item
item_by-shortens (Unary o) = nothing-shortens wanted.Item
item_by-shortens (Binary o) = nothing-shortens wanted.Item
item_by-shortens Other = nothing-shortens wanted.Item

pub items-shorten : Shorter items
unfolding items
items-shorten = shorter-then _ _ item_by-shortens

word-shortens : (w : List ℕ) → 0 < length w → Shorter (word w)
unfolding stands
word-shortens w some from to x p = word-takes some p

-- words with letters take characters
among-shortens : {A : Type 0} (w : Wanted) (spelled : A → List ℕ) → ((x : A) → 0 < length (spelled x)) → (xs : List A) →
    Shorter (among w spelled xs)
unfolding among
among-shortens w spelled some [] = nothing-shortens w
among-shortens w spelled some (x ∷ xs) = shorter-then _ _ (by_word (among-shortens w spelled some xs))
  where
    by_word : Shorter (among w spelled xs) → (b : Bool) → Shorter (pick b (word (spelled x) >> yields x) (among w spelled xs))
    by_word again true = shorter-first _ _ (word-shortens (spelled x) (some x))
    by_word again false = again

gerund_word-some : (g : Gerund) → 0 < length (gerund_word g)
gerund_word-some Calculating = omega arith
gerund_word-some Nexting = omega arith
gerund_word-some Forgetting = omega arith
gerund_word-some Resuming = omega arith
gerund_word-some Stashing = omega arith
gerund_word-some Retrieving = omega arith
gerund_word-some Ignoring = omega arith
gerund_word-some Remembering = omega arith
gerund_word-some Abstaining = omega arith
gerund_word-some Reinstating = omega arith
gerund_word-some WritingIn = omega arith
gerund_word-some ReadingOut = omega arith

pub gerunds-shorten : Shorter gerunds
unfolding gerunds
gerunds-shorten = shorter-first _ _ (among-shortens wanted.Gerund gerund_word gerund_word-some _)

verb_word-some : (v : Verb) → 0 < length (verb_word v)
verb_word-some Forget = omega arith
verb_word-some Resume = omega arith
verb_word-some Stash = omega arith
verb_word-some Retrieve = omega arith
verb_word-some Ignore = omega arith
verb_word-some Remember = omega arith
verb_word-some Abstain = omega arith
verb_word-some Reinstate = omega arith
verb_word-some Give = omega arith
verb_word-some Write = omega arith
verb_word-some Read = omega arith

verbs-shorten : Shorter verbs
unfolding verbs
verbs-shorten = among-shortens wanted.Body verb_word verb_word-some _

labels-shorten : Shorter labels
unfolding labels
labels-shorten = shorter-then _ _ (λ o. shorter-first _ _ number-shortens)

worded_by-shortens : (b : Bool) → Shorter (worded_by b)
unfolding calls
worded_by-shortens true = shorter-first _ _ labels-shorten
worded_by-shortens false = shorter-first _ _ verbs-shorten

body_by-shortens : (l : Lead) → Shorter (body_by l)
unfolding scalar_bodies array_bodies
body_by-shortens (Spot k) = shorter-then _ _ (λ s. shorter-first _ _ (named-shortens k))
body_by-shortens (Array k) = shorter-then _ _ (λ s. shorter-first _ _ (named-shortens k))
body_by-shortens Hash = shorter-then _ _ worded_by-shortens
body_by-shortens (Group q) = shorter-then _ _ worded_by-shortens
body_by-shortens (Unary o) = shorter-then _ _ worded_by-shortens
body_by-shortens (Binary o) = shorter-then _ _ worded_by-shortens
body_by-shortens Other = shorter-then _ _ worded_by-shortens

pub bodies-shorten : Shorter bodies
unfolding bodies
bodies-shorten = shorter-then _ _ body_by-shortens
