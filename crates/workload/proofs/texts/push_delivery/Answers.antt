use Rattle.std.proofs.Common.{ℕ, List, ◌++◌, ◌∙◌, codes, sym, ap, decimal, map}
use Rattle.std.specs.List.{join_with_byte}
use Rattle.workload.proofs.TextLaws.{appended5, delivery-parts}
use Rattle.workload.proofs.texts.push_delivery.Goals as goal

pub returns : goal.returns
returns c =
    appended5 c.args.out.now.items c.extend_from_slice.new.self.items c.push_whole.new.out.items
    c.extend_from_slice-2.new.self.items c.push_numbers.new.out.items c.extend_from_slice-3.new.self.items
    (codes "{\"do\":\"deliver\",\"to\":") (decimal c.args.to) (codes ",\"picks\":[")
    (join_with_byte 44 (map decimal c.args.messages.now)) (codes "]}")
    c.in_ok-extend_from_slice.ensures.items c.in_ok-push_whole.ensures.ok c.in_ok-extend_from_slice-2.ensures.items
    c.in_ok-push_numbers.ensures c.in_ok-extend_from_slice-3.ensures.items
    ∙ ap (λ (bytes : List ℕ). c.args.out.now.items ++ bytes) (sym (delivery-parts c.args.to c.args.messages.now))
