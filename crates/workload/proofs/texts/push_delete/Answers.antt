use Rattle.std.proofs.Common.{ℕ, List, ◌++◌, ◌∙◌, codes, sym, ap}
use Rattle.workload.specs.Texts.{id_text}
use Rattle.workload.proofs.TextLaws.{appended3, delete-parts}
use Rattle.workload.proofs.texts.push_delete.Goals as goal

pub returns : goal.returns
returns c =
    appended3 c.args.out.now.items c.extend_from_slice.new.self.items c.push_id.new.out.items
    c.extend_from_slice-2.new.self.items (codes "{\"name\":\"delete\",\"ids\":[") (id_text c.args.element)
    (codes "]}")
    c.in_ok-extend_from_slice.ensures.items c.in_ok-push_id.ensures c.in_ok-extend_from_slice-2.ensures.items
    ∙ ap (λ (bytes : List ℕ). c.args.out.now.items ++ bytes) (sym (delete-parts c.args.element))
