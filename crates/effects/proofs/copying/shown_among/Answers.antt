use Rattle.std.proofs.Common.{◌≡◌, ℕ, Bool, List, filter, ap, ◌∙◌}
use Rattle.std.specs.BTreeSet.{BTreeSet}
use Rattle.std.proofs.lemmas.Result.{IfOk-weaker}
use Rattle.elem.specs.ElementValue.{ElementValue}
use Rattle.effects.specs.Copying.{shown_among}
use Rattle.effects.specs.inner.Prepared.{HasIds, elements_among}
use Rattle.effects.proofs.copying.shown_among.Goals as goal

-- those of a set of the ids are those of the ids
of-set : (set : BTreeSet (List ℕ)) (ids : List (List ℕ)) (shown : List ElementValue) → HasIds set ids
    → elements_among set shown ≡ shown_among ids shown
of-set set ids shown has =
    ap (λ (h : List ℕ → Bool). filter (λ (e : ElementValue). h e.id) shown) (λ i id. has id i)

pub returns-in-Some : goal.returns-in-Some
returns-in-Some c =
    let shown = c.args.lookup.now.shown.now in
    IfOk-weaker c.copied_at.result _ _
    (λ new same. same c.in_ok-ids.ids (rw c.in-Some.is at c.in_ok-places.ensures)
    ∙ of-set c.in_ok-ids.ids c.args.ids.now shown c.in_ok-ids.ensures) c.copied_at.ensures

pub returns : goal.returns
returns c =
    let shown = c.args.lookup.now.shown.now in
    IfOk-weaker c.copied_among.result _ _
    (λ new same. same ∙ of-set c.in_ok-ids.ids c.args.ids.now shown c.in_ok-ids.ensures) c.copied_among.ensures
