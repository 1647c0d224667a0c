use Rattle.std.proofs.Common.{inl, inr, sym, ap, Err, subst}
use Rattle.std.proofs.lemmas.Result.{err_from_is_err_and}
use Rattle.commands.specs.Fronts.{HasFront}
use Rattle.commands.proofs.Judging.{same-stop, same-why}
use Rattle.commands.proofs.shelving.scene_and_library.Goals as goal

pub returns-in_err-items-clause-refused : goal.returns-in_err-items-clause-refused
returns-in_err-items-clause-refused c =
    let front = c.in_ok-front.front in
    let p = err_from_is_err_and c.from_residual-in_err-items.result c.from_residual-in_err-items.ensures.1 in
    rw (p.1, p.2) (λ why e. inr (inl (
      front.scene,
      front.text,
      front.more,
      c.in_ok-front.ensures.front,
      c.in_err-items.ensures.refused why (ap Err (same-stop _ _ _ e)),
    )))

pub returns-in-Some-clause-refused : goal.returns-in-Some-clause-refused
returns-in-Some-clause-refused c why e =
    let front = c.in_ok-front.front in
    let begins = subst (HasFront c.args.bytes.now front.scene front.text) c.in-Some.is c.in_ok-front.ensures.front in
    inr (inr (
      c.in-Some.at,
      sym (same-why _ _ why e),
      (front.scene, front.text, begins, (c.in_ok-items.items, c.in_ok-items.ensures.items)),
    ))
