use Rattle.std.proofs.Common.{◌++◌, ◌∷◌, [], ap, ◌∙◌}
use mathlib.Core.Logic.{∥∥₁_map}
use Rattle.ick_session.proofs.GivenLaws.{drawn_more}
use Rattle.ick_session.proofs.given.Words.draw.Goals as goal

pub invariant_of-self-2 : goal.invariant_of-self-2
invariant_of-self-2 c =
    let words = c.args.self.now in
    record {
      kept = ∥∥₁_map words.kept (λ are.
          drawn_more words.seed c.next_word-word.result words.generator c.next_word-word.new.self words.drawn.items
          c.push_reserved.new.self.items are c.next_word-word.ensures (c.push_reserved.ensures.items
          ∙ ap (λ l. l ++ c.next_word-word.result ∷ []) c.in_ok-reserve.ensures.items));
    }
