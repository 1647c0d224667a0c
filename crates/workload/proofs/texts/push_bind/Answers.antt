use Rattle.std.proofs.Common.{ℕ, List, ◌++◌, ◌∙◌, codes, sym, ap}
use Rattle.session_text.specs.Forms.{side_text}
use Rattle.workload.specs.Texts.{id_text}
use Rattle.workload.proofs.TextLaws.{appended7, bind-parts}
use Rattle.workload.proofs.texts.push_bind.Goals as goal

pub returns : goal.returns
returns c =
    appended7 c.args.out.now.items c.extend_from_slice.new.self.items c.push_id.new.out.items
    c.extend_from_slice-2.new.self.items c.push_quoted.new.out.items c.extend_from_slice-3.new.self.items
    c.push_id-2.new.out.items c.extend_from_slice-4.new.self.items (codes "{\"name\":\"bind\",\"arrow\":")
    (id_text c.args.element) (codes ",\"end\":") (side_text c.args.side) (codes ",\"target\":")
    (id_text c.args.other) (codes ",\"binding\":{}}")
    c.in_ok-extend_from_slice.ensures.items c.in_ok-push_id.ensures c.in_ok-extend_from_slice-2.ensures.items
    (c.in_ok-push_quoted.ensures.ok ∙ ap (λ (bytes : List ℕ). c.extend_from_slice-2.new.self.items ++ bytes)
    c.side_word.ensures) c.in_ok-extend_from_slice-3.ensures.items c.in_ok-push_id-2.ensures
    c.in_ok-extend_from_slice-4.ensures.items
    ∙ ap (λ (bytes : List ℕ). c.args.out.now.items ++ bytes) (sym (bind-parts c.args.side c.args.element c.args.other))
