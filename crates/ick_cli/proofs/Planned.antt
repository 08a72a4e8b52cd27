-- A task has one plan or one line.
use Rattle.std.proofs.Common.{◌≡◌, ℕ, List, Bool, Option, Some, None, ap, refl, sym, subst}
use Rattle.clap.specs.Words.{Text}
use Rattle.ick_cli.specs.Job.{Task, takes_input, to_check, to_list, to_run, to_list_runs}
use Rattle.ick_job.specs.Choices.{AreChoices, IsUnread, most_choices}
use Rattle.ick_cli.specs.Plan.{IsPlanned, IsUnplanned, check_planned, choices_unread, from_unread, list_planned}
use Rattle.ick_cli.specs.Plan.{reads_input, run_planned, runs_planned, seed_planned, together}
use Rattle.ick_job.specs.declared.notice.Notice.{Notice}
use Rattle.ick_job.specs.declared.notice.Notice.TheVariants.{ChoicesAndSeed}
use Rattle.ick_cli.specs.declared.plan.Plan.{Plan}
use Rattle.ick_cli.specs.declared.plan.Plan.TheVariants.{Execute}
use Rattle.ick_cli.specs.declared.plan.Runs.TheVariants.{Given, Drawn, Listed}
use Rattle.ick_job.proofs.OneReading.{choices_unique, read_not_unread, unread_unique}

pub plan_unique : (task : Task) (a b : Plan) → IsPlanned task a → IsPlanned task b → b ≡ a
plan_unique to_check a b check_planned check_planned = refl
plan_unique to_list a b list_planned list_planned = refl
plan_unique (to_run text None limit) a b (run_planned t l c g) (run_planned u m d h) =
    ap (λ x. Execute (Given x l)) (choices_unique text most_choices c d g h)
plan_unique (to_run None (Some seed) limit) a b (seed_planned s l) (seed_planned t m) = refl
plan_unique (to_run (Some text) (Some seed) limit) a b g h = elim g [ ]
plan_unique (to_list_runs text count limit) a b (runs_planned t k l c g) (runs_planned u n m d h) =
    ap (λ x. Execute (Listed x k l)) (choices_unique text limit c d g h)

pub planned_not_unplanned : (task : Task) (plan : Plan) (line : Notice) → IsPlanned task plan
    → IsUnplanned task line
    → ⊥
planned_not_unplanned task plan line (run_planned t l c g) (choices_unread u m n h) =
    read_not_unread t most_choices c line g h
planned_not_unplanned task plan line check_planned h = elim h [ ]
planned_not_unplanned task plan line list_planned h = elim h [ ]
planned_not_unplanned task plan line (seed_planned s l) h = elim h [ ]
planned_not_unplanned task plan line (runs_planned t k l c g) (from_unread u n m o h) = read_not_unread t l c line g h

pub line_unique : (task : Task) (a b : Notice) → IsUnplanned task a → IsUnplanned task b → b ≡ a
line_unique task a b (together t s l) (together u r m) = refl
line_unique task a b (choices_unread t l x g) (choices_unread u m y h) = unread_unique t most_choices a b g h
line_unique task a b (from_unread t k l x g) (from_unread u n m y h) = unread_unique t l a b g h

-- a task that takes no input has a plan that takes none
pub input_of_plan : (task : Task) (plan : Plan) → IsPlanned task plan → reads_input plan ≡ takes_input task
input_of_plan to_check plan check_planned = refl
input_of_plan to_list plan list_planned = refl
input_of_plan (to_run text seed limit) plan (run_planned t l c g) = refl
input_of_plan (to_run text seed limit) plan (seed_planned s l) = refl
input_of_plan (to_list_runs text count limit) plan (runs_planned t k l c g) = refl

-- the plans of runs, by what is given
at_most : (text : Option Text) (choices : Option (List Bool)) → AreChoices text 1000000 choices
    → AreChoices text most_choices choices
unfolding most_choices
at_most text choices h = h

pub plan_given : (text : Option Text) (seed : Option ℕ) (limit : ℕ) (choices : Option (List Bool)) → seed ≡ None
    → AreChoices text 1000000 choices
    → IsPlanned (to_run text seed limit) (Execute (Given choices limit))
plan_given text seed limit choices none is =
    subst (λ (s : Option ℕ). IsPlanned (to_run text s limit) (Execute (Given choices limit))) (sym none)
    (run_planned text limit choices (at_most text choices is))

pub plan_drawn : (text : Option Text) (seed : Option ℕ) (n limit : ℕ) → text ≡ None → seed ≡ Some n
    → IsPlanned (to_run text seed limit) (Execute (Drawn n limit))
plan_drawn text seed n limit none some =
    subst (λ (t : Option Text). IsPlanned (to_run t seed limit) (Execute (Drawn n limit))) (sym none)
    (subst (λ (s : Option ℕ). IsPlanned (to_run None s limit) (Execute (Drawn n limit))) (sym some)
    (seed_planned n limit))

pub no_plan : (text : Option Text) (seed : Option ℕ) (t : Text) (n limit : ℕ) → text ≡ Some t
    → seed ≡ Some n
    → IsUnplanned (to_run text seed limit) ChoicesAndSeed
no_plan text seed t n limit given some =
    subst (λ (x : Option Text). IsUnplanned (to_run x seed limit) ChoicesAndSeed) (sym given)
    (subst (λ (s : Option ℕ). IsUnplanned (to_run (Some t) s limit) ChoicesAndSeed) (sym some) (together t n limit))

pub unread_given : (text : Option Text) (seed : Option ℕ) (limit : ℕ) (line : Notice) → seed ≡ None
    → IsUnread 1000000 text line → IsUnplanned (to_run text seed limit) line
unfolding most_choices
unread_given text seed limit line none h =
    subst (λ (s : Option ℕ). IsUnplanned (to_run text s limit) line) (sym none) (choices_unread text limit line h)
