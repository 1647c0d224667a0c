use Rattle.std.proofs.Common.{ℕ, List, ◌++◌, ◌∙◌, codes, sym, ap, decimal}
use Rattle.session_text.specs.Forms.{capture_text}
use Rattle.workload.specs.Texts.{order_text}
use Rattle.workload.proofs.TextLaws.{appended9, change-parts}
use Rattle.workload.proofs.texts.push_change.Goals as goal

pub returns : goal.returns
returns c =
    appended9 c.args.out.now.items c.extend_from_slice.new.self.items c.push_whole.new.out.items
    c.extend_from_slice-2.new.self.items c.push_whole-2.new.out.items c.extend_from_slice-3.new.self.items
    c.push_quoted.new.out.items c.extend_from_slice-4.new.self.items c.push_order.new.out.items
    c.push.new.self.items (codes "{\"do\":\"change\",\"at\":") (decimal c.args.at) (codes ",\"time\":")
    (decimal c.args.time) (codes ",\"capture\":") (capture_text c.args.capture) (codes ",\"command\":")
    (order_text c.args.order) (codes "}")
    c.in_ok-extend_from_slice.ensures.items c.in_ok-push_whole.ensures.ok c.in_ok-extend_from_slice-2.ensures.items
    c.in_ok-push_whole-2.ensures.ok c.in_ok-extend_from_slice-3.ensures.items (c.in_ok-push_quoted.ensures.ok
    ∙ ap (λ (bytes : List ℕ). c.extend_from_slice-3.new.self.items ++ bytes) c.capture_word.ensures)
    c.in_ok-extend_from_slice-4.ensures.items c.in_ok-push_order.ensures c.in_ok-push.ensures.items
    ∙ ap (λ (bytes : List ℕ). c.args.out.now.items ++ bytes)
    (sym (change-parts c.args.at c.args.time c.args.capture c.args.order))
