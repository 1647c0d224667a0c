use Rattle.std.proofs.Common.{ℕ, List, ◌++◌, ◌∙◌, codes, sym, ap, decimal}
use Rattle.json_text.specs.Characters.{quote}
use Rattle.workload.proofs.TextLaws.{appended7, step-parts}
use Rattle.workload.proofs.texts.push_step.Goals as goal

pub returns : goal.returns
returns c =
    appended7 c.args.out.now.items c.extend_from_slice.new.self.items c.push_quoted.new.out.items
    c.extend_from_slice-2.new.self.items c.push_whole.new.out.items c.extend_from_slice-3.new.self.items
    c.push_whole-2.new.out.items c.push.new.self.items (codes "{\"do\":") (quote c.args.word.now) (codes ",\"at\":")
    (decimal c.args.at) (codes ",\"time\":") (decimal c.args.time) (codes "}")
    c.in_ok-extend_from_slice.ensures.items c.in_ok-push_quoted.ensures.ok c.in_ok-extend_from_slice-2.ensures.items
    c.in_ok-push_whole.ensures.ok c.in_ok-extend_from_slice-3.ensures.items c.in_ok-push_whole-2.ensures.ok
    c.in_ok-push.ensures.items
    ∙ ap (λ (bytes : List ℕ). c.args.out.now.items ++ bytes) (sym (step-parts c.args.word.now c.args.at c.args.time))
