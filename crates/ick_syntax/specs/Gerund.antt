-- The spelling of gerunds.
use Rattle.std.specs.Prelude.{ℕ, List, Option, Some, None, codes}
use Rattle.ick_syntax.specs.declared.body.Gerund.{Gerund}
use Rattle.ick_syntax.specs.declared.body.Gerund.TheVariants.{Calculating, Nexting, Forgetting, Resuming, Stashing}
use Rattle.ick_syntax.specs.declared.body.Gerund.TheVariants.{Retrieving, Ignoring, Remembering, Abstaining}
use Rattle.ick_syntax.specs.declared.body.Gerund.TheVariants.{Reinstating, WritingIn, ReadingOut}

-- the word of a gerund, or the first of its two words
abbrev pub gerund_word : Gerund → List ℕ
gerund_word Calculating = codes "CALCULATING"
gerund_word Nexting = codes "NEXTING"
gerund_word Forgetting = codes "FORGETTING"
gerund_word Resuming = codes "RESUMING"
gerund_word Stashing = codes "STASHING"
gerund_word Retrieving = codes "RETRIEVING"
gerund_word Ignoring = codes "IGNORING"
gerund_word Remembering = codes "REMEMBERING"
gerund_word Abstaining = codes "ABSTAINING"
gerund_word Reinstating = codes "REINSTATING"
gerund_word WritingIn = codes "WRITING"
gerund_word ReadingOut = codes "READING"

-- the second of its two words
abbrev pub second_word : Gerund → Option (List ℕ)
second_word WritingIn = Some (codes "IN")
second_word ReadingOut = Some (codes "OUT")
second_word _ = None
