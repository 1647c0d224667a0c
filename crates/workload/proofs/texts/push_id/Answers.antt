use Rattle.std.proofs.Common.{◌<◌, ◌^◌, arith, ℕ, List, ◌++◌, ◌∙◌, codes, sym, ap, decimal}
use Rattle.workload.proofs.TextLaws.{appended3, id-parts}
use Rattle.workload.proofs.texts.push_id.Goals as goal

pub returns : goal.returns
returns c =
    let small : c.args.number < 2 ^ 64 = omega arith in
    appended3 c.args.out.now.items c.extend_from_slice.new.self.items c.push_whole.new.out.items c.push.new.self.items
    (codes "\"e") (decimal c.args.number) (codes "\"")
    c.in_ok-extend_from_slice.ensures.items c.in_ok-push_whole.ensures.ok c.in_ok-push.ensures.items
    ∙ ap (λ (bytes : List ℕ). c.args.out.now.items ++ bytes) (sym (id-parts c.args.number small))
