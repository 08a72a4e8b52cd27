-- The kinds of statements, which their bodies decide.
use Rattle.std.specs.Prelude.{ℕ, List, Option, Some, None, codes}
use Rattle.ick_syntax.specs.declared.kinds.Kind.{Kind}
use Rattle.ick_syntax.specs.declared.kinds.Kind.TheVariants.{Calculate, Next, Forget, Resume, Stash, Retrieve, Ignore}
use Rattle.ick_syntax.specs.declared.kinds.Kind.TheVariants.{Remember, Abstain, Reinstate, GiveUp, WriteIn, ReadOut}
use Rattle.ick_syntax.specs.declared.kinds.Kind.TheVariants.{Unrecognised}
use Rattle.ick_syntax.specs.declared.body.Gerund.{Gerund}
use Rattle.ick_syntax.specs.declared.body.Gerund.TheVariants.{Calculating, Nexting, Forgetting, Resuming, Stashing}
use Rattle.ick_syntax.specs.declared.body.Gerund.TheVariants.{Retrieving, Ignoring, Remembering, Abstaining}
use Rattle.ick_syntax.specs.declared.body.Gerund.TheVariants.{Reinstating, WritingIn, ReadingOut}
use Rattle.ick_syntax.specs.BodyTree.{BodyTree, calculate, dimension, next, forget, resume, stash, retrieve, ignore}
use Rattle.ick_syntax.specs.BodyTree.{remember, abstain_label, abstain_kinds, reinstate_label, reinstate_kinds, give_up}
use Rattle.ick_syntax.specs.BodyTree.{write_in, read_out}

abbrev pub kind_of_body : BodyTree → Kind
kind_of_body (calculate t e) = Calculate
kind_of_body (dimension x es) = Calculate
kind_of_body (next n) = Next
kind_of_body (forget e) = Forget
kind_of_body (resume e) = Resume
kind_of_body (stash xs) = Stash
kind_of_body (retrieve xs) = Retrieve
kind_of_body (ignore xs) = Ignore
kind_of_body (remember xs) = Remember
kind_of_body (abstain_label n) = Abstain
kind_of_body (abstain_kinds gs) = Abstain
kind_of_body (reinstate_label n) = Reinstate
kind_of_body (reinstate_kinds gs) = Reinstate
kind_of_body give_up = GiveUp
kind_of_body (write_in xs) = WriteIn
kind_of_body (read_out xs) = ReadOut

abbrev pub kind_of : Option BodyTree → Kind
kind_of None = Unrecognised
kind_of (Some b) = kind_of_body b

-- the kind of the statements that a gerund names
abbrev pub named_kind : Gerund → Kind
named_kind Calculating = Calculate
named_kind Nexting = Next
named_kind Forgetting = Forget
named_kind Resuming = Resume
named_kind Stashing = Stash
named_kind Retrieving = Retrieve
named_kind Ignoring = Ignore
named_kind Remembering = Remember
named_kind Abstaining = Abstain
named_kind Reinstating = Reinstate
named_kind WritingIn = WriteIn
named_kind ReadingOut = ReadOut

-- the word for a kind in a listing
abbrev pub kind_word : Kind → List ℕ
kind_word Calculate = codes "CALCULATE"
kind_word Next = codes "NEXT"
kind_word Forget = codes "FORGET"
kind_word Resume = codes "RESUME"
kind_word Stash = codes "STASH"
kind_word Retrieve = codes "RETRIEVE"
kind_word Ignore = codes "IGNORE"
kind_word Remember = codes "REMEMBER"
kind_word Abstain = codes "ABSTAIN"
kind_word Reinstate = codes "REINSTATE"
kind_word GiveUp = codes "GIVE-UP"
kind_word WriteIn = codes "WRITE-IN"
kind_word ReadOut = codes "READ-OUT"
kind_word Unrecognised = codes "UNRECOGNISED"
