-- The choices that a text or a seed gives, or the line that refuses them.
use Rattle.std.proofs.Common.{◌≡◌, ℕ, Bool, List, [], Option, Some, None, refl, subst, sym}
use Rattle.std.specs.Prelude.{unwrap_or}
use Rattle.clap.specs.Words.{Text}
use Rattle.ick_runs.specs.Chosen.{Chosen, listed, seeded}
use Rattle.ick_job.specs.Choices.{AreChoices, IsUnread, most_choices}
use Rattle.ick_job.specs.JobEnd.{EndsByLine}
use Rattle.ick_job.specs.declared.job_end.JobEnd.{JobEnd}
use Rattle.ick_job.specs.declared.job_end.JobEnd.TheVariants.{Answered}
use Rattle.ick_job.specs.declared.notice.Message.TheVariants as message
use Rattle.ick_job.specs.declared.notice.Notice.{Notice}
use Rattle.ick_job.specs.declared.notice.Notice.TheVariants.{ChoicesAndSeed}
use Rattle.ick_job.proofs.Lines.{by_other_line, by_usage}
use Rattle.ick_job.proofs.OneReading.{read_not_unread, unread_unique}
use Rattle.ick_step_cli.specs.Plan.{AreGivenBy, AreRefused, by_seed, by_text, together, unread}

pub text_given : (text : Option Text) (seed : Option ℕ) (choices : Option (List Bool)) → seed ≡ None →
    AreChoices text 1000000 choices → AreGivenBy text seed (listed (unwrap_or choices []))
unfolding most_choices
text_given text seed choices e h =
    subst (λ (s : Option ℕ). AreGivenBy text s (listed (unwrap_or choices []))) (sym e) (by_text text choices h)

pub text_unread : (text : Option Text) (seed : Option ℕ) (job_end : JobEnd) → seed ≡ None →
    EndsByLine (IsUnread 1000000 text) job_end → EndsByLine (AreRefused text seed) job_end
unfolding most_choices
text_unread text seed job_end e h =
    by_other_line (IsUnread 1000000 text) (AreRefused text seed) job_end
    (λ line u. subst (λ (s : Option ℕ). AreRefused text s line) (sym e) (unread text line u)) h

pub seed_given : (text : Option Text) (seed : Option ℕ) (n : ℕ) (chosen : Chosen) → text ≡ None → seed ≡ Some n →
    chosen ≡ seeded n → AreGivenBy text seed chosen
seed_given text seed n chosen none some is =
    subst (λ (t : Option Text). AreGivenBy t seed chosen) (sym none)
    (subst (λ (s : Option ℕ). AreGivenBy None s chosen) (sym some)
    (subst (λ (c : Chosen). AreGivenBy None (Some n) c) (sym is) (by_seed n)))

pub both_refused : (text : Option Text) (seed : Option ℕ) (t : Text) (n : ℕ) (job_end : JobEnd) → text ≡ Some t →
    seed ≡ Some n → job_end ≡ Answered 64 (message.Notice ChoicesAndSeed) →
    EndsByLine (AreRefused text seed) job_end
both_refused text seed t n job_end has_text has_seed is =
    by_usage (AreRefused text seed) job_end ChoicesAndSeed is
    (subst (λ (x : Option Text). AreRefused x seed ChoicesAndSeed) (sym has_text)
    (subst (λ (s : Option ℕ). AreRefused (Some t) s ChoicesAndSeed) (sym has_seed) (together t n)))

-- choices are given or refused, and by one line
pub given_not_refused : (text : Option Text) (seed : Option ℕ) (chosen : Chosen) (line : Notice) →
    AreGivenBy text seed chosen → AreRefused text seed line → ⊥
given_not_refused text None chosen line (by_text t c g) (unread u m h) = read_not_unread t most_choices c line g h
given_not_refused None (Some seed) chosen line (by_seed n) h = elim h [ ]
given_not_refused (Some text) (Some seed) chosen line given h = elim given [ ]

pub refused_once : (text : Option Text) (seed : Option ℕ) (a b : Notice) → AreRefused text seed a →
    AreRefused text seed b → b ≡ a
refused_once (Some text) (Some seed) a b (together t n) (together u m) = refl
refused_once None (Some seed) a b refused h = elim refused [ ]
refused_once text None a b (unread t x g) (unread u y h) = unread_unique t most_choices a b g h

pub by_its_line : (text : Option Text) (seed : Option ℕ) (line : Notice) (job_end : JobEnd) →
    AreRefused text seed line → EndsByLine (AreRefused text seed) job_end →
    EndsByLine (λ other. other ≡ line) job_end
by_its_line text seed line job_end is h =
    by_other_line (AreRefused text seed) (λ other. other ≡ line) job_end
    (λ other refuses. refused_once text seed line other is refuses) h
