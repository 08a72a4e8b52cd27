use Rattle.std.proofs.Common.{◌≡◌, ◌++◌, ◌∷◌, refl, rules}
use Rattle.std.specs.Str.Iter.{LacksByte}
use Rattle.ick_c.proofs.ArgumentLemmas.{none_without_text, none_without_zero}
use Rattle.ick_c.proofs.arguments.first_argument.Goals as goal

pub returns-in_err-front-clause-none : goal.returns-in_err-front-clause-none
returns-in_err-front-clause-none c = λ e. none_without_zero c.args.bytes.now (c.in_err-front.ensures.none refl)

pub returns-in_default-clause-none : goal.returns-in_default-clause-none
returns-in_default-clause-none c = λ e.
    let front = c.in_ok-front.front.now in
    let behind = c.in_ok-front.behind.now in
    let first : LacksByte 0 front = search rules in
    let whole : front ++ (0 ∷ behind) ≡ c.args.bytes.now = search rules in
    none_without_text front behind c.args.bytes.now first whole c.in_default.ensures.cases.0
