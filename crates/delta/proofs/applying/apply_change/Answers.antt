-- A scalar becomes that of after.
use Rattle.std.proofs.Common.{[], ◌∷◌, sym, subst}
use Rattle.delta.specs.Applied.{Changes}
use Rattle.delta.specs.inner.Kept.{IsScalarSet}
use Rattle.delta.proofs.ChangeLaws.{OnOk-weaker, Changes-scalar}
use Rattle.delta.proofs.applying.apply_change.Goals as goal

pub returns-in-Scalar-clause-changes : goal.returns-in-Scalar-clause-changes
returns-in-Scalar-clause-changes c =
    let e = c.args.e.now in
    let new = c.set_scalar.new.e in
    OnOk-weaker c.set_scalar.result (IsScalarSet e new c.in-Scalar.name c.in-Scalar.after)
    (Changes (c.args.change.now ∷ []) e new)
    (λ set. subst (λ change. Changes (change ∷ []) e new) (sym c.in-Scalar.is)
    (Changes-scalar e new c.in-Scalar.name c.in-Scalar.before c.in-Scalar.after set))
    c.set_scalar.ensures.set
