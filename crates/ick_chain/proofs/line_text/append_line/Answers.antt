use Rattle.std.proofs.Common.{refl}
use Rattle.ick_chain.specs.ExactListings.{line_parts}
use Rattle.ick_chain.specs.Lines.{line_of}
use Rattle.ick_chain.proofs.line_text.append_line.Goals as goal

pub returns : goal.returns
returns c =
    let count = c.in_ok-count.count.items in
    let weight = c.in_ok-weight.weight.items in
    record {
      line = line_parts c.args.silent (line_of c.args.line.now) count weight;
      is_line = record {
        count = count;
        weight = weight;
        counted = c.in_ok-count.ensures;
        weighed = c.in_ok-weight.ensures;
        same = refl;
      };
      same = rw (c.deref.ensures.value, c.deref-2.ensures.value) at c.in_ok-append_parts.ensures;
    }
