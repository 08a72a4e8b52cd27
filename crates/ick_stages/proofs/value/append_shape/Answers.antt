use Rattle.std.proofs.Common.{ap, sym}
use Rattle.ick_inspect.proofs.AddLaws.{same, then}
use Rattle.ick_stages.specs.Registers.{names_of}
use Rattle.ick_stages.specs.Values.{shape_text}
use Rattle.ick_stages.proofs.value.append_shape.Goals as goal

pub returns-in-UnaryOfMingle : goal.returns-in-UnaryOfMingle
unfolding shape_text
returns-in-UnaryOfMingle c =
    same (sym (ap (λ s. shape_text (names_of c.args.registers.now) s) c.in-UnaryOfMingle.is))
    (then (then (then (then c.push-in-UnaryOfMingle.ensures
    (same c.unary_sign_of.ensures c.push-in-UnaryOfMingle-2.ensures)) c.push-in-UnaryOfMingle-3.ensures)
    c.append_pair-in-UnaryOfMingle.ensures) c.push-in-UnaryOfMingle-4.ensures)

pub returns-in-Both : goal.returns-in-Both
unfolding shape_text
returns-in-Both c =
    same (sym (ap (λ s. shape_text (names_of c.args.registers.now) s) c.in-Both.is))
    (then (then (then c.push-in-Both.ensures c.append_field-in-Both.ensures)
    (same c.word_of.ensures c.push-in-Both-2.ensures)) c.append_field-in-Both-2.ensures)
