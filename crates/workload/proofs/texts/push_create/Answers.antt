use Rattle.std.proofs.Common.{ℕ, List, ◌++◌, ◌∙◌, codes, sym, ap}
use Rattle.json_text.specs.Characters.{quote}
use Rattle.elem.specs.Texts.{kind_name}
use Rattle.workload.specs.Texts.{id_text, kind_of}
use Rattle.workload.proofs.TextLaws.{appended5, create-parts}
use Rattle.workload.proofs.texts.push_create.Goals as goal

pub returns : goal.returns
returns c =
    appended5 c.args.out.now.items c.extend_from_slice.new.self.items c.push_id.new.out.items
    c.extend_from_slice-2.new.self.items c.push_quoted.new.out.items c.extend_from_slice-3.new.self.items
    (codes "{\"name\":\"create\",\"element\":{\"id\":") (id_text c.args.element) (codes ",\"type\":")
    (quote (kind_name (kind_of c.args.element))) (codes "},\"spot\":\"top\"}")
    c.in_ok-extend_from_slice.ensures.items c.in_ok-push_id.ensures c.in_ok-extend_from_slice-2.ensures.items
    (c.in_ok-push_quoted.ensures.ok ∙ ap (λ (word : List ℕ). c.extend_from_slice-2.new.self.items ++ quote word)
    c.kind_word.ensures) c.in_ok-extend_from_slice-3.ensures.items
    ∙ ap (λ (bytes : List ℕ). c.args.out.now.items ++ bytes) (sym (create-parts c.args.element))
