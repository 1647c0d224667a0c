-- Each element is read and copied in its turn.
use Rattle.std.proofs.Common.{◌<◌, ◌≤◌, ◌++◌, [], ◌∷◌, length, take, take_all, sym, ap, ap₂, ◌∙◌, subst, arith}
use Rattle.std.proofs.lemmas.List.{take_more}
use Rattle.std.proofs.lemmas.List.Elements.{All-more}
use Rattle.elem.specs.ElementValue.{ElementValue}
use Rattle.elem.specs.Facts.{IsElement}
use Rattle.elem.specs.Said.{AreElements, HasValidTexts}
use Rattle.elem.proofs.copies.copies_of.Goals as goal

pub loop-e-preserved : goal.loop-e-preserved
loop-e-preserved c =
    let list = c.args.elements.now in
    let i = c.loop-e.e-index in
    let e = c.e-item.result in
    let within : i < length list = omega arith in
    record {
      copies =
          c.in_ok-push.ensures.items ∙ ap₂ (λ es (copy : ElementValue). es ++ copy ∷ []) c.loop-e.invariant.copies
          c.in_ok-try_clone.ensures
          ∙ sym (take_more list i e within ∙ ap (λ x. take i list ++ x ∷ []) (sym c.e-item.is));
      elements =
          All-more (λ e. IsElement e × HasValidTexts e) list i e within c.loop-e.invariant.elements
          (subst (λ e. IsElement e × HasValidTexts e) c.e-item.is (
            c.tell.ensures.is_element,
            c.tell.ensures.is_written,
          ));
    }

pub returns-clause-elements : goal.returns-clause-elements
returns-clause-elements c =
    let all : length c.args.elements.now ≤ c.loop-e.e-index = omega arith in
    subst AreElements (take_all _ _ all) c.loop-e.invariant.elements
