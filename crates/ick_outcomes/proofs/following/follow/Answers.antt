use Rattle.std.proofs.Common.{◌≡◌, ◌<◌, ◌∙◌, ap, arith, false, get_or, length, subst, vec_len}
use Rattle.std.proofs.lemmas.Option.{IfSome_then}
use Rattle.ick_code.specs.meaning.Move.{choice}
use Rattle.ick_outcomes.specs.Programs.{ask}
use Rattle.ick_backtrack.specs.Asked.{finish_of}
use Rattle.ick_outcomes.proofs.AskerLaws.{EndsAt, followed_by, left-over, length-push, stepped_chosen, stepped_plain}
use Rattle.ick_outcomes.proofs.AskerLaws.{wants-more}
use Rattle.ick_outcomes.proofs.following.follow.Goals as goal

pub returns-in-Ended-clause-followed : goal.returns-in-Ended-clause-followed
returns-in-Ended-clause-followed g c =
    let seen = g.P.States.seen c.args.program.now in
    let start = seen c.args.state in
    let i = c.steps.invariant in
    let state = (seen c.steps.state).state in
    let here = subst (λ q. EndsAt q state c.steps.left (finish_of c.in-Ended.end)) i.program c.in-Ended.ensures in
    IfSome_then c.whole.result c.whole.ensures.some (λ run facts.
    followed_by (λ x. (seen x).state) start.program start.state c.args.limit
    c.args.choices.now c.steps.state run.state _ (length c.steps.asked.items) c.in-Ended.end run.end _ _ i.follows here
    facts.0 facts.1 facts.2 facts.3)

pub returns-in-Ended-clause-none : goal.returns-in-Ended-clause-none
returns-in-Ended-clause-none g c = λ none whole.
    let seen = g.P.States.seen c.args.program.now in
    let start = seen c.args.state in
    let i = c.steps.invariant in
    let state = (seen c.steps.state).state in
    let here = subst (λ q. EndsAt q state c.steps.left (finish_of c.in-Ended.end)) i.program c.in-Ended.ensures in
    left-over start.program start.state c.args.limit c.args.choices.now state _ (length c.steps.asked.items)
    (finish_of c.in-Ended.end) _ i.follows here (c.whole.ensures.none (cc)) whole

pub returns-then-at-choices-clause-none : goal.returns-then-at-choices-clause-none
returns-then-at-choices-clause-none g c = λ none whole.
    let seen = g.P.States.seen c.args.program.now in
    let start = seen c.args.state in
    let i = c.steps.invariant in
    let state = (seen c.steps.state).state in
    let asks = subst (λ q. ask q state ≡ choice c.in-Choice.chance) i.program c.in-Choice.ensures.0 in
    let all = c.if-at-choices.true in
    let size = c.len-at.ensures in
    wants-more start.program start.state c.args.limit c.args.choices.now state _ c.in-Choice.chance
    (length c.steps.asked.items) _ i.follows asks c.in-Choice.ensures.1 (omega (arith, all, size)) whole

pub steps-preserved-in-Plain : goal.steps-preserved-in-Plain
steps-preserved-in-Plain g c =
    let seen = g.P.States.seen c.args.program.now in
    let start = seen c.args.state in
    let i = c.steps.invariant in
    let step = c.in_ok-next-in-Plain.ensures in
    record {
      follows = stepped_plain seen start.program start.state c.args.limit _ c.steps.state c.in_ok-next-in-Plain.next
          c.steps.left c.in_ok-next-in-Plain.made c.steps.asked.items i.follows i.program c.in-Plain.ensures.0
          c.in-Plain.ensures.1 step.runs step.within;
      program = step.program ∙ i.program;
      within = i.within;
      state = step.state;
      tools = step.tools;
    }

pub steps-preserved : goal.steps-preserved
steps-preserved g c =
    let seen = g.P.States.seen c.args.program.now in
    let start = seen c.args.state in
    let i = c.steps.invariant in
    let step = c.in_ok-next-in-Choice.ensures in
    let size_at = c.len-at.ensures in
    let length_is : vec_len c.steps.asked ≡ length c.steps.asked.items = omega (arith, c.steps.asked.ok.0) in
    let few = i.within in
    let other = c.if-at-choices.false in
    let less : length c.steps.asked.items < length c.args.choices.now = omega (arith, few, size_at, other) in
    let pushed = c.in_ok-push-in-Choice.ensures.items in
    let size = ap (λ l. length l) pushed ∙ length-push c.steps.asked.items _ in
    record {
      follows = stepped_chosen seen start.program start.state c.args.limit c.args.choices.now c.steps.state
          c.in_ok-next-in-Choice.next c.steps.left c.in_ok-next-in-Choice.made c.in-Choice.chance
          c.statement-statement.result _ false c.steps.asked.items c.push.new.self.items i.follows i.program
          c.in-Choice.ensures.0 c.in-Choice.ensures.1 less c.statement-statement.ensures
          (ap (λ n. get_or c.args.choices.now n false) (c.len-at.ensures ∙ length_is)) step.runs step.within pushed;
      program = step.program ∙ i.program;
      within = omega (arith, size, less);
      state = step.state;
      tools = step.tools;
    }
