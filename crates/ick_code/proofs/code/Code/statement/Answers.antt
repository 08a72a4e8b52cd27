use Rattle.ick_code.proofs.CodeLemmas.{is_taken}
use Rattle.ick_code.proofs.code.Code.statement.Goals as goal

pub returns : goal.returns
returns c =
    let taken = is_taken c.args.self.now c.args.n c.index.result.now c.requires.first c.requires.last c.index.ensures in
    record { at = taken.at; order = taken.order; within = taken.within; shows = taken.shows }
