use Rattle.std.proofs.Common.{◌∙◌, ap}
use Rattle.std.specs.Prelude.{option_and_then}
use Rattle.std.specs.Str.Parse.{ParsesUnsigned, ExplainsUnsignedError, HasUnsignedDigitsIfOk}
use Rattle.clap.specs.Words.{found_of}
use Rattle.clap.proofs.WalkLemmas.{one_text-rows}
use Rattle.ick_job.specs.Values.{parsed_number}
use Rattle.ick_job.proofs.Numbers.{read_number}
use Rattle.ick_job.proofs.words.values.number_value.Goals as goal

pub returns : goal.returns
returns c =
    read_number 32 _ (λ bs r. ParsesUnsigned 32 10 bs r × ExplainsUnsignedError 10 bs r × HasUnsignedDigitsIfOk bs r)
    _ _ (λ u x h. h.0) c.get_one.ensures.none c.get_one.ensures.value
    ∙ ap (option_and_then (parsed_number 32)) (one_text-rows (found_of c.args.matches.now) c.args.id.now)
