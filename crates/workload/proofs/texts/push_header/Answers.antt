use Rattle.std.proofs.Common.{ℕ, List, ◌++◌, ◌∙◌, codes, sym, ap, decimal}
use Rattle.workload.proofs.TextLaws.{appended3, header-parts}
use Rattle.workload.proofs.texts.push_header.Goals as goal

pub returns : goal.returns
returns c =
    appended3 c.args.out.now.items c.extend_from_slice.new.self.items c.push_whole.new.out.items
    c.extend_from_slice-2.new.self.items (codes "{\"session\":1,\"replicas\":4,\"seed\":") (decimal c.args.seed)
    (codes ",\"scene\":null}")
    c.in_ok-extend_from_slice.ensures.items c.in_ok-push_whole.ensures.ok c.in_ok-extend_from_slice-2.ensures.items
    ∙ ap (λ (bytes : List ℕ). c.args.out.now.items ++ bytes) (sym (header-parts c.args.seed))
