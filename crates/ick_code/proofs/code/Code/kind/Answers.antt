use Rattle.ick_code.proofs.CodeLemmas.{kind_at}
use Rattle.ick_code.proofs.code.Code.kind.Goals as goal

pub returns : goal.returns
returns c = kind_at c.args.self.now c.args.n c.index.result.now c.requires.first c.requires.last c.index.ensures
