use Rattle.std.proofs.Common.{◌≡◌, take}
use Rattle.ick_inspect.specs.Text.{Adds}
use Rattle.ick_stages.specs.Bodies.{joined_text}
use Rattle.ick_stages.proofs.TextLaws.{between}
use Rattle.ick_stages.proofs.body.append_joined.Given as goal

abbrev pub invariant-loop-part : goal.invariant-loop-part
invariant-loop-part g l = record {
  added : Adds l.fn.text l.text (joined_text l.separator g.P.Part.words (take l.part-index l.parts));
  before : l.between ≡ between l.separator (take l.part-index l.parts);
}
