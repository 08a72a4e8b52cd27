use Rattle.std.proofs.Common.{◌++◌, ap, ◌∙◌, drop}
use Rattle.ick_source.specs.Position.{left_at, characters}
use Rattle.ick_places.specs.Bodies.{body_marks}
use Rattle.ick_places.proofs.marks.marks_of.Goals as goal

pub returns : goal.returns
unfolding left_at
returns c to b p =
    let text = c.args.text.now in
    c.body.ensures.added (characters (drop to text)) b p.is_body c.if-walker.false
    ∙ ap (λ z. z ++ body_marks text (characters (drop c.args.from text))) c.new.ensures.items
