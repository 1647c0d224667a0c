use Rattle.std.proofs.Common.{ℕ, List, ◌++◌, ◌∙◌, codes, sym, ap}
use Rattle.workload.specs.Texts.{id_text}
use Rattle.workload.proofs.TextLaws.{appended5, label-parts}
use Rattle.workload.proofs.texts.push_label.Goals as goal

pub returns : goal.returns
returns c =
    appended5 c.args.out.now.items c.extend_from_slice.new.self.items c.push_id.new.out.items
    c.extend_from_slice-2.new.self.items c.push_id-2.new.out.items c.push.new.self.items
    (codes "{\"name\":\"label\",\"container\":") (id_text c.args.element) (codes ",\"text\":")
    (id_text c.args.other) (codes "}")
    c.in_ok-extend_from_slice.ensures.items c.in_ok-push_id.ensures c.in_ok-extend_from_slice-2.ensures.items
    c.in_ok-push_id-2.ensures c.in_ok-push.ensures.items
    ∙ ap (λ (bytes : List ℕ). c.args.out.now.items ++ bytes) (sym (label-parts c.args.element c.args.other))
