use Rattle.std.proofs.Common.{[], ◌∷◌, ◌++◌, ap}
use Rattle.std.proofs.lemmas.Result.{on_ok_weaker}
use Rattle.json_text.specs.Characters.{quote}
use Rattle.elem.specs.inner.Printing.{header_name, header_value}
use Rattle.elem.proofs.Merging.{begun-step}
use Rattle.elem.proofs.raw.push_header.Goals as goal

pub returns-clause-begun : goal.returns-clause-begun
returns-clause-begun c =
    let head = quote (header_name c.args.header) ++ 58 ∷ [] in
    on_ok_weaker c.push_named.result
    (λ done before members at is. begun-step before members (header_name c.args.header)
    (header_value c.args.e.now c.args.header) c.args.start c.args.out.now.items _ _ at is
    (ap (λ out. out ++ head) c.in_ok-push_mark.ensures.ok) done)
    c.push_named.ensures.text
