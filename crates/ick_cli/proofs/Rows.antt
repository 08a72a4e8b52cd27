-- Jobs and refusals of words that are written out.
use Rattle.std.proofs.Common.{◌≡◌, List, [], ◌∷◌, Some, None, arith, codes, inl, inr, length, refl, subst, true}
use Rattle.std.proofs.lemmas.Slice.Eq.{bytes_eq-Decides}
use Rattle.std.specs.Borrow.{Bor}
use Rattle.std.specs.Prelude.{IsSomeAnd, slice_get}
use Rattle.std.specs.Str.{bytes_eq}
use Rattle.clap.proofs.OnLiterals.{clap_on_literals}
use Rattle.clap.specs.Walk.{texts}
use Rattle.clap.specs.Words.{Text, fault_of}
use Rattle.clap.specs.declared.error.ErrorKind.TheVariants as kind
use Rattle.ick_cli.specs.Words.{ick_app}
use Rattle.ick_cli.specs.Job.{Asked, HasJob, job_of, to_check, to_list, to_list_runs, to_run}
use Rattle.ick_job.specs.Usage.{AreRequests}

-- a run without options
abbrev plain : Asked
plain = record { task = to_run None None 1000000; file = None }

no_words : job_of [] ≡ plain
unfolding clap_on_literals
no_words = refl

no_words_is_a_job : HasJob []
unfolding clap_on_literals
no_words_is_a_job = refl

run_alone : job_of (codes "run" ∷ []) ≡ plain
unfolding clap_on_literals
run_alone = refl

run_alone_is_a_job : HasJob (codes "run" ∷ [])
unfolding clap_on_literals
run_alone_is_a_job = refl

run_file : job_of (codes "run" ∷ codes "f" ∷ []) ≡ record plain { file = Some (codes "f") }
unfolding clap_on_literals
run_file = refl

run_file_is_a_job : HasJob (codes "run" ∷ codes "f" ∷ [])
unfolding clap_on_literals
run_file_is_a_job = refl

file_behind_dashes : job_of (codes "run" ∷ codes "--" ∷ codes "-b" ∷ [])
    ≡ record plain { file = Some (codes "-b") }
unfolding clap_on_literals
file_behind_dashes = refl

file_without_command : fault_of ick_app (codes "f" ∷ []) ≡ kind.UnknownArgument ∷ kind.InvalidSubcommand ∷ []
unfolding clap_on_literals
file_without_command = refl

check_file : job_of (codes "check" ∷ codes "f" ∷ []) ≡ record { task = to_check; file = Some (codes "f") }
unfolding clap_on_literals
check_file = refl

check_is_a_job : HasJob (codes "check" ∷ [])
unfolding clap_on_literals
check_is_a_job = refl

list_alone : job_of (codes "list" ∷ []) ≡ record { task = to_list; file = None }
unfolding clap_on_literals
list_alone = refl

list_file_is_a_job : HasJob (codes "list" ∷ codes "f" ∷ [])
unfolding clap_on_literals
list_file_is_a_job = refl

check_limit : fault_of ick_app (codes "check" ∷ codes "--limit=3" ∷ []) ≡ kind.UnknownArgument ∷ []
unfolding clap_on_literals
check_limit = refl

help_asked : fault_of ick_app (codes "run" ∷ codes "--help" ∷ []) ≡ kind.DisplayHelp ∷ []
unfolding clap_on_literals
help_asked = refl

help_alone : fault_of ick_app (codes "help" ∷ []) ≡ kind.DisplayHelp ∷ kind.InvalidSubcommand ∷ []
unfolding clap_on_literals
help_alone = refl

help_of_a_command : fault_of ick_app (codes "help" ∷ codes "run" ∷ [])
    ≡ kind.DisplayHelp ∷ kind.InvalidSubcommand ∷ []
unfolding clap_on_literals
help_of_a_command = refl

help_of_no_command : fault_of ick_app (codes "help" ∷ codes "nope" ∷ [])
    ≡ kind.DisplayHelp ∷ kind.InvalidSubcommand ∷ []
unfolding clap_on_literals
help_of_no_command = refl

-- one argument that is `help` is not a request alone
pub help_is_mixed : (words : List (Bor Text)) → length words ≡ 1
    → IsSomeAnd (slice_get words 0) (λ word. bytes_eq word.now (codes "help") ≡ true)
    → AreRequests (fault_of ick_app (texts words)) → ⊥
help_is_mixed [] one is requests = absurd (omega arith)
help_is_mixed (word ∷ other ∷ words) one is requests = absurd (omega arith)
help_is_mixed (word ∷ []) one is requests =
    let same : word.now ≡ codes "help" = (bytes_eq-Decides word.now (codes "help")).0 is in
    let each : AreRequests (kind.DisplayHelp ∷ kind.InvalidSubcommand ∷ []) =
    subst AreRequests help_alone (subst (λ (w : Text). AreRequests (fault_of ick_app (w ∷ []))) same requests) in
    elim each.1.1.0 [ inl e ↦ cc | inr e ↦ cc ]

no_choices : job_of (codes "run" ∷ codes "-b" ∷ codes "--choices=-" ∷ codes "f" ∷ [])
    ≡ record { task = to_run (Some (codes "-")) None 1000000; file = Some (codes "f") }
unfolding clap_on_literals
no_choices = refl

dash_alone : job_of (codes "run" ∷ codes "--choices" ∷ codes "-" ∷ [])
    ≡ record { task = to_run (Some (codes "-")) None 1000000; file = None }
unfolding clap_on_literals
dash_alone = refl

choices_with_seed : job_of
    (codes "run" ∷ codes "--seed" ∷ codes "1" ∷ codes "--choices" ∷ codes "0" ∷ codes "--limit=3" ∷ [])
    ≡ record { task = to_run (Some (codes "0")) (Some 1) 3; file = None }
unfolding clap_on_literals
choices_with_seed = refl

choices_with_seed_is_a_job : HasJob
    (codes "run" ∷ codes "--seed" ∷ codes "1" ∷ codes "--choices" ∷ codes "0" ∷ codes "--limit=3" ∷ [])
unfolding clap_on_literals
choices_with_seed_is_a_job = refl

runs_alone : job_of (codes "runs" ∷ []) ≡ record { task = to_list_runs None 1000 10000; file = None }
unfolding clap_on_literals
runs_alone = refl

runs_from : job_of (codes "runs" ∷ codes "--limit" ∷ codes "3" ∷ codes "--from" ∷ codes "10"
    ∷ codes "--count=1" ∷ []) ≡ record { task = to_list_runs (Some (codes "10")) 1 3; file = None }
unfolding clap_on_literals
runs_from = refl

runs_from_is_a_job : HasJob
    (codes "runs" ∷ codes "--limit" ∷ codes "3" ∷ codes "--from" ∷ codes "10" ∷ codes "--count=1" ∷ [])
unfolding clap_on_literals
runs_from_is_a_job = refl

none_counted : fault_of ick_app (codes "runs" ∷ codes "--count=0" ∷ []) ≡ kind.ValueValidation ∷ []
unfolding clap_on_literals
none_counted = refl

run_counted : fault_of ick_app (codes "run" ∷ codes "--count=1" ∷ []) ≡ kind.UnknownArgument ∷ []
unfolding clap_on_literals
run_counted = refl
