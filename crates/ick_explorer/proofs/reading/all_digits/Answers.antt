use Rattle.std.proofs.Common.{◌≡◌, true, false, length, arith, sym, ◌∙◌}
use Rattle.std.proofs.lemmas.Grind.{common_steps}
use Rattle.std.proofs.lemmas.List.{nil_from_length}
use Rattle.std.specs.List.{list_all}
use Rattle.ick_explorer.specs.ChoiceTexts.{is_digit}
use Rattle.ick_explorer.proofs.TextLaws.{reads_nothing, empty_reads}
use Rattle.ick_explorer.proofs.reading.all_digits.Goals as goal

pub returns-then-byte-ne49-clause-none : goal.returns-then-byte-ne49-clause-none
returns-then-byte-ne49-clause-none c = λ e dash c'.
    let other : false ≡ list_all is_digit c.args.text.now = grind (arith, common_steps) in
    reads_nothing c.args.text.now c' dash (λ f. let h : true ≡ false = sym f ∙ sym other in cc)

pub returns-clause-none : goal.returns-clause-none
returns-clause-none c = λ e dash c'.
    let none : length c.args.text.now ≡ 0 = grind (arith, common_steps, e) in
    empty_reads c.args.text.now c' (nil_from_length c.args.text.now none)
