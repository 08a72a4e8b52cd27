use Rattle.std.proofs.Common.{◌≡◌, ◌++◌, refl, ap, sym, ◌∙◌}
use Rattle.ick_outcomes.specs.Programs.{ask}
use Rattle.ick_outcomes.proofs.LineLaws.{appended}
use Rattle.ick_chain.specs.StatesTexts.{asking_text, edges_text, rest_text}
use Rattle.ick_chain.proofs.chain_text.append_node.Goals as goal

pub returns : goal.returns
returns g c =
    let p = g.P.States.text c.args.program.now in
    let s = (g.P.States.seen c.args.program.now c.args.state.now).state in
    let a = ask p s in
    let h = c.in_ok-append_head.ensures in
    let asks = asking_text s a in
    let edges = edges_text c.args.at a c.args.node in
    let x0 = c.args.out.now.items in
    let x1 = c.append_head.new.out.items in
    let x2 = c.append_rest.new.out.items in
    let x3 = c.append_edges.new.out.items in
    let told = c.in_ok-asks.ensures s a (sym c.statement.ensures) c.asked-ask.ensures in
    let e2 : x2 ≡ x1 ++ rest_text asks s.output =
    c.in_ok-append_rest.ensures
    ∙ ap (λ z. x1 ++ z) (ap (λ z. rest_text z c.output.result.now) (c.deref.ensures.value ∙ told)
    ∙ ap (λ z. rest_text asks z) c.output.ensures) in
    let e3 : x3 ≡ x2 ++ edges = c.in_ok-append_edges.ensures a c.asked-ask.ensures in
    let s2 = appended x0 h.head x1 (rest_text asks s.output) x2 h.same e2 in
    let s3 = appended x0 _ x2 edges x3 s2 e3 in
    record {
      line = h.head ++ rest_text asks s.output ++ edges;
      is_line = record { head = h.head; is_head = h.is_head; same = refl };
      same = s3;
    }
