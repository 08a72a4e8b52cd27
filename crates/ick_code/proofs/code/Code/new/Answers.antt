use Rattle.std.proofs.Common.{ap}
use Rattle.ick_syntax.specs.Programs.{trees_of}
use Rattle.ick_code.proofs.CodeLemmas.{is_compiled, named_code}
use Rattle.ick_code.proofs.code.Code.new.Goals as goal

pub returns : goal.returns
returns c =
    is_compiled _ _ (ap trees_of c.of.ensures)
    (named_code _ _ _ _ _ c.args.operands c.args.ops.items c.args.statements.items c.args.kinds.items
    c.into_list.ensures.names c.into_list-2.ensures.names c.requires)
