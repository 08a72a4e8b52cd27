use Rattle.ick_code.proofs.CodeLemmas.{code_compiled}
use Rattle.ick_code.proofs.code.Code.law.Goals as goal

pub returns : goal.returns
returns c = code_compiled c.args.self.now
