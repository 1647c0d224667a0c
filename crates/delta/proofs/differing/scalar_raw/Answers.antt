-- The further members nest at most as deep as they may.
use Rattle.std.proofs.Common.{◌≡◌, None, IfSome, sym, ap, ◌∙◌, subst}
use Rattle.std.proofs.lemmas.Result.{IfOk-weaker}
use Rattle.json_text.specs.Value.{IsCompact}
use Rattle.delta.specs.Facts.{IsScalar}
use Rattle.delta.specs.Headers.{header_named}
use Rattle.delta.proofs.ToldLaws.{value-nests}
use Rattle.delta.proofs.differing.scalar_raw.Goals as goal

pub returns-in-None-clause-scalar : goal.returns-in-None-clause-scalar
returns-in-None-clause-scalar c =
    let none : header_named c.args.e.now.kind c.args.name.now ≡ None =
    ap (λ e. header_named e.kind c.args.name.now) (sym c.e.view_is) ∙ sym c.header_named.ensures ∙ c.in-None.is in
    IfOk-weaker _ _ (IsScalar (header_named c.args.e.now.kind c.args.name.now))
    (λ value is. subst (λ o. IsScalar o value) (sym none)
    (subst (λ v. IfSome v (IsCompact 119)) (sym is)
    (value-nests c.args.name.now c.e.inside.rest c.e.invariant.nest)))
    c.rest_raw.ensures
