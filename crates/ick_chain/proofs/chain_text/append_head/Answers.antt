use Rattle.std.proofs.Common.{sym, subst}
use Rattle.std.specs.Prelude.{codes}
use Rattle.ick_numbers.specs.Values.{natural}
use Rattle.ick_chain.specs.StatesTexts.{AppendsHead, endless, goes, kind_text, over, weighed_text}
use Rattle.ick_chain.proofs.chain_text.append_head.Goals as goal

pub returns-in_ok-append_kind-in-Goes : goal.returns-in_ok-append_kind-in-Goes
returns-in_ok-append_kind-in-Goes c =
    subst (λ n. AppendsHead c.args.exact (natural c.args.parts.now) c.args.at (natural c.args.visits.now) n
    c.args.out.now.items c.append_kind.new.out.items) (sym c.in-Goes.is) (record {
      head = kind_text (codes "state ") c.args.at;
      is_head = goes c.in-Goes.field-0;
      same = c.in_ok-append_kind-in-Goes.ensures;
    })

pub returns-in_ok-append_weighed-in-Ends : goal.returns-in_ok-append_weighed-in-Ends
returns-in_ok-append_weighed-in-Ends c =
    let weight = c.in_ok-weight-in-Ends.weight.items in
    subst (λ n. AppendsHead c.args.exact (natural c.args.parts.now) c.args.at (natural c.args.visits.now) n
    c.args.out.now.items c.append_weighed.new.out.items) (sym c.in-Ends.is) (record {
      head = weighed_text (codes "end ") c.args.at weight;
      is_head = over weight c.in_ok-weight-in-Ends.ensures;
      same = rw c.deref.ensures.value at c.in_ok-append_weighed-in-Ends.ensures;
    })

pub returns-in_ok-append_weighed-in-Stuck : goal.returns-in_ok-append_weighed-in-Stuck
returns-in_ok-append_weighed-in-Stuck c =
    let weight = c.in_ok-weight-in-Stuck.weight.items in
    subst (λ n. AppendsHead c.args.exact (natural c.args.parts.now) c.args.at (natural c.args.visits.now) n
    c.args.out.now.items c.append_weighed-in-Stuck.new.out.items) (sym c.in-Stuck.is) (record {
      head = weighed_text (codes "never ") c.args.at weight;
      is_head = endless c.in-Stuck.field-0 weight c.in_ok-weight-in-Stuck.ensures;
      same = rw c.deref-in-Stuck.ensures.value at c.in_ok-append_weighed-in-Stuck.ensures;
    })
