use Rattle.std.proofs.Common.{false, arith}
use Rattle.ick_chain.proofs.WordLaws.{same_within_not, same_within_true, sooner_within}
use Rattle.ick_chain.proofs.words.is_within.Goals as goal

pub returns-then-words-to : goal.returns-then-words-to
returns-then-words-to c =
    λ _. let some = c.if-to-eq0.false in
    sooner_within c.args.words.now c.args.to c.args.from c.args.choice (record { parent = 0; choice = false })
    (omega (arith, some)) c.if-to-words.false c.if-words-to.true

pub returns-then-choice : goal.returns-then-choice
returns-then-choice c =
    λ yes. let some = c.if-to-eq0.false in
    same_within_true c.args.words.now c.args.to c.args.from c.args.choice (record { parent = 0; choice = false })
    (omega (arith, some)) c.if-to-words.false c.if-words-to-2.true yes

pub returns-else-choice : goal.returns-else-choice
returns-else-choice c =
    λ yes. let some = c.if-to-eq0.false in
    same_within_not c.args.words.now c.args.to c.args.from c.args.choice (record { parent = 0; choice = false })
    (omega (arith, some)) c.if-to-words.false c.if-words-to-2.true yes
