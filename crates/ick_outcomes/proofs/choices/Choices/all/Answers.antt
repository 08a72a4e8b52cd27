use Rattle.std.proofs.Common.{rules, arith, ◌≡◌, ◌∙◌, ◌++◌, ap}
use Rattle.ick_outcomes.proofs.Packing.{byte_more, bytes_all}
use Rattle.ick_outcomes.proofs.choices.Choices.all.Goals as goal

pub bytes-preserved : goal.bytes-preserved
bytes-preserved c =
    let bytes : c.deref.result.now ≡ c.args.self.now.packed.items = search rules in
    let lt = c.bytes-test.true in
    let len = c.len-at-end.ensures.value in
    byte_more c.args.self.now.packed.items c.deref.result.now c.bytes.at _ c.bytes.all.items
    c.extend_from_slice.new.self.items _ (omega (arith, lt, len)) bytes c.bytes.invariant c.unpack.ensures
    c.in_ok-extend_from_slice.ensures.ok

pub returns : goal.returns
returns c =
    let last : c.deref-2.result.now ≡ c.args.self.now.last.items = search rules in
    let n = c.bytes-test.false in
    let len = c.len-at-end.ensures.value in
    bytes_all c.args.self.now.packed.items c.bytes.at c.bytes.all.items c.args.self.now.last.items _
    (omega (arith, n, len)) c.bytes.invariant
    (c.in_ok-extend_from_slice-2.ensures.ok ∙ ap (λ z. c.bytes.all.items ++ z) last)
