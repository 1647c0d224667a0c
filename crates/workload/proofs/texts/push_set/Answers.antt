use Rattle.std.proofs.Common.{ℕ, List, ◌++◌, ◌∙◌, codes, sym, ap, decimal}
use Rattle.json_text.specs.Characters.{quote}
use Rattle.workload.specs.Texts.{id_text}
use Rattle.workload.proofs.TextLaws.{appended7, set-parts}
use Rattle.workload.proofs.texts.push_set.Goals as goal

pub returns : goal.returns
returns c =
    appended7 c.args.out.now.items c.extend_from_slice.new.self.items c.push_id.new.out.items
    c.extend_from_slice-2.new.self.items c.push_quoted.new.out.items c.extend_from_slice-3.new.self.items
    c.push_whole.new.out.items c.push.new.self.items (codes "{\"name\":\"set\",\"id\":") (id_text c.args.element)
    (codes ",\"member\":") (quote c.args.member.now) (codes ",\"value\":") (decimal c.args.value) (codes "}")
    c.in_ok-extend_from_slice.ensures.items c.in_ok-push_id.ensures c.in_ok-extend_from_slice-2.ensures.items
    c.in_ok-push_quoted.ensures.ok c.in_ok-extend_from_slice-3.ensures.items c.in_ok-push_whole.ensures.ok
    c.in_ok-push.ensures.items
    ∙ ap (λ (bytes : List ℕ). c.args.out.now.items ++ bytes)
    (sym (set-parts c.args.element c.args.member.now c.args.value))
