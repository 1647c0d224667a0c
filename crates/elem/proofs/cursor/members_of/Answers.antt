use Rattle.std.proofs.Common.{ap, ◌∙◌, subst}
use Rattle.elem.specs.Facts.{IsElement}
use Rattle.elem.specs.inner.Printing.{headers_of}
use Rattle.elem.proofs.Leaving.{element_left}
use Rattle.elem.proofs.cursor.members_of.Goals as goal

pub returns : goal.returns
returns c = λ source same.
    let e = c.args.e.now in
    let is = subst IsElement c.e.view_is c.e.invariant in
    let headers = c.headers_of.ensures ∙ ap (λ e. headers_of e.kind) c.e.view_is in
    let rest = c.as_members.ensures ∙ ap (λ e. e.rest) c.e.view_is in
    rw (same, headers, rest) (element_left e is)
