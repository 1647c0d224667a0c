-- What the inverse of a part makes of an element is what undoing its pair makes of it.
use Rattle.std.proofs.Common.{◌≡◌, true}
use Rattle.std.proofs.lemmas.Bool.{true_from_ne_false}
use Rattle.elem.specs.ElementValue.{ElementValue}
use Rattle.elem.specs.Facts.{IsElement}
use Rattle.elem.specs.Said.{HasValidTexts}
use Rattle.delta.specs.Delta.{Delta}
use Rattle.delta.specs.Pairs.{Pair, IsPartOf}
use Rattle.delta.specs.Parts.{inverse}
use Rattle.delta.proofs.CallerLemmas.{applied-undone}
use Rattle.undo_model.specs.Differing.{differ}
use Rattle.undo_model.specs.Entries.{IsOfElements}
use Rattle.undo_model.specs.Undoing.{undone}
use Rattle.undo_model.proofs.CallerLemmas.{differ-true, differ-false, undone-stamp, undone-undoes, undone-element, reverts-undone}
use Rattle.history.specs.Steps.{Reverts, Differ}

-- ---- a pair of elements, its part, and an element now
module _ (part : Delta) (pair : Pair) (now : ElementValue) (is : IsPartOf part pair) (of : IsOfElements pair)
    (are : IsElement now × HasValidTexts now) where
  pub undone-is : IsElement (undone pair now) × HasValidTexts (undone pair now)
  undone-is = undone-element pair now of is.changed.kind are.0 are.1

  pub undone-reverts : Reverts part now (undone pair now)
  undone-reverts = record {
    is_element = undone-is.0;
    kept = undone-stamp pair now;
    applied = applied-undone part pair.before pair.after of.0.0 of.1.0 is.stands now (undone pair now) are.0 undone-is.0
        (undone-undoes pair now of is.changed.kind are.0 are.1);
  }

  pub reverts-once : (r : ElementValue) → Reverts part now r → r ≡ undone pair now
  reverts-once r reverts = reverts-undone pair now of is.changed.kind are.0 are.1 part r is.stands reverts.is_element
      reverts.kept reverts.applied

  pub differ-from : Differ now (undone pair now) → differ now (undone pair now) ≡ true
  differ-from d = true_from_ne_false (differ now (undone pair now))
      (λ f. d (differ-false now (undone pair now) are.0 are.1 undone-is.0 undone-is.1 f))

  pub differ-to : differ now (undone pair now) ≡ true → Differ now (undone pair now)
  differ-to h = differ-true now (undone pair now) h
