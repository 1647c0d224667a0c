-- A header member of the kind has the name.
use Rattle.std.proofs.Common.{◌≡◌, Some, sym, ap, ◌∙◌, subst}
use Rattle.delta.specs.Headers.{header_named}
use Rattle.delta.specs.inner.Kept.{IsHeaderSet, IsScalarSet}
use Rattle.delta.proofs.ChangeLaws.{OnOk-weaker}
use Rattle.delta.proofs.HeaderLaws.{IsScalarSet-header}
use Rattle.delta.proofs.applying.set_scalar.Goals as goal

pub returns-in-Some-Some-clause-set : goal.returns-in-Some-Some-clause-set
returns-in-Some-Some-clause-set c =
    let h = c.in-Some-Some.header in
    let v = c.in-Some-Some.value in
    let mine : header_named c.args.e.now.kind c.args.name.now ≡ Some h =
    ap (λ e. header_named e.kind c.args.name.now) (sym c.e.view_is) ∙ sym c.header_named.ensures
    ∙ c.in-Some-Some.is-0 in
    OnOk-weaker c.set_header.result (IsHeaderSet c.args.e.now c.set_header.new.e h v)
    (IsScalarSet c.args.e.now c.set_header.new.e c.args.name.now c.args.value.now)
    (λ set. subst (IsScalarSet c.args.e.now c.set_header.new.e c.args.name.now) (sym c.in-Some-Some.is-1)
    (IsScalarSet-header c.args.e.now c.set_header.new.e c.args.name.now h v mine set))
    c.set_header.ensures.set
