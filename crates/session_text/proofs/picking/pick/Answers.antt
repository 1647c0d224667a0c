use Rattle.std.proofs.Common.{◌≡◌, Some, Ok, ap, subst, ◌∙◌}
use Rattle.std.proofs.lemmas.Result.{IfOk-at_ok}
use Rattle.session_text.specs.Forms.{IsArray, IsPair}
use Rattle.session_text.proofs.FormsOne.{array-alike, number-array, no-pick}
use Rattle.session_text.proofs.picking.pick.Goals as goal

pub returns-in-Some : goal.returns-in-Some
returns-in-Some c =
    let item = c.args.item.now in
    let parts = c.in-Some.parts in
    let found : c.items.result ≡ Ok parts = c.shaped.ensures.found parts (c.in_ok-parts.was ∙ ap Ok c.in-Some.is) in
    let array : IsArray (Some item) parts =
    (IfOk-at_ok _ found c.items.ensures.compact, ap Some (IfOk-at_ok _ found c.items.ensures.spelled)) in
    no-pick c.args.made item (λ m from. number-array item m parts from.0 array)
    (λ others pair also two. c.in-None-pair.ensures pair
    (subst (λ ps. IsPair c.args.made ps pair) (array-alike (Some item) others parts also array) two))
