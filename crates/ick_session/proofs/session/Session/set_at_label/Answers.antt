use Rattle.std.proofs.Common.{◌≡◌, ◌<◌, ◌∙◌, ap, arith, codes, length}
use Rattle.ick_code.specs.meaning.Control.{place_of}
use Rattle.ick_session.specs.Breakpoints.{no_label}
use Rattle.ick_session.specs.Session.{seen, settings}
use Rattle.ick_session.proofs.LabelLaws.{label_set, none_at, place_some, some_at}
use Rattle.ick_session.proofs.session.Session.set_at_label.Goals as goal

pub returns-then-place-last-clause-answers : goal.returns-then-place-last-clause-answers
returns-then-place-last-clause-answers c =
    let p = (seen c.args.self.now).program in
    let is : c.place_of-place.result ≡ place_of c.args.label p =
    c.place_of-place.ensures ∙ ap (place_of c.args.label) c.requires.statements in
    let size : c.last.result ≡ length p =
    c.last.ensures ∙ ap length (c.present.ensures.program ∙ c.machine.ensures.program) in
    let far : length p < place_of c.args.label p = omega (arith, is, size, c.if-place-last.true) in
    (codes "no statement has this label\n", no_label c.args.label (none_at p (place_of c.args.label p) far), c.push.ensures)

pub set_at-requires-clause-there : goal.set_at-requires-clause-there
set_at-requires-clause-there c =
    let p = (seen c.args.self.now).program in
    let is : c.place_of-place.result ≡ place_of c.args.label p =
    c.place_of-place.ensures ∙ ap (place_of c.args.label) c.requires.statements in
    let size : c.last.result ≡ length p =
    c.last.ensures ∙ ap length (c.present.ensures.program ∙ c.machine.ensures.program) in
    some_at p c.place_of-place.result (omega (arith, is, place_some c.args.label p))
    (omega (arith, size, c.if-place-last.false))

pub returns-clause-answers : goal.returns-clause-answers
returns-clause-answers c =
    let p = (seen c.args.self.now).program in
    let is : c.place_of-place.result ≡ place_of c.args.label p =
    c.place_of-place.ensures ∙ ap (place_of c.args.label) c.requires.statements in
    let size : c.last.result ≡ length p =
    c.last.ensures ∙ ap length (c.present.ensures.program ∙ c.machine.ensures.program) in
    let there = some_at p c.place_of-place.result (omega (arith, is, place_some c.args.label p))
    (omega (arith, size, c.if-place-last.false)) in
    label_set c.set_at.result (settings c.args.self.now) (settings c.set_at.new.self) c.args.positions.now c.args.label
    c.place_of-place.result c.args.out.now c.set_at.new.out is there c.set_at.ensures.sets c.set_at.ensures.text
