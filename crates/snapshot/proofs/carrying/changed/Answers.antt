-- The texts of two kinds that differ do too.
use Rattle.std.proofs.Common.{◌≡◌, true, Some, option_copied, sym, ap, ◌∙◌, subst}
use Rattle.std.specs.Option.{option_map}
use Rattle.std.proofs.lemmas.Bool.{cond-false, false_from_ne_true, false≢true}
use Rattle.elem.specs.ElementValue.{ElementValue}
use Rattle.elem.specs.Facts.{IsElement}
use Rattle.undo_model.specs.Differing.{same_kind}
use Rattle.undo_model.specs.Undoing.{undone}
use Rattle.undo_model.proofs.CallerLemmas.{same_kind-true}
use Rattle.snapshot.proofs.carrying.changed.Goals as goal

pub follow-requires-clause-elements : goal.follow-requires-clause-elements
follow-requires-clause-elements c =
    (subst IsElement c.old.view_is c.old.invariant, subst IsElement c.new.view_is c.new.invariant)

pub returns-in_ok-try_clone-clause-to : goal.returns-in_ok-try_clone-clause-to
returns-in_ok-try_clone-clause-to c =
    let old = c.args.old.now in
    let new = c.args.new.now in
    let apart : same_kind old.kind new.kind ≡ true → ⊥ = λ t.
    false≢true (sym c.if-are_one_kind.false
    ∙ c.are_one_kind.ensures.1 (ap (λ (e : ElementValue). e.kind) c.old.view_is
    ∙ same_kind-true old.kind new.kind (subst IsElement c.old.view_is c.old.invariant).kind
    (subst IsElement c.new.view_is c.new.invariant).kind t
    ∙ sym (ap (λ (e : ElementValue). e.kind) c.new.view_is))) in
    ap Some c.in_ok-try_clone.ensures
    ∙ sym (cond-false (same_kind old.kind new.kind) (option_map (undone (record { before = new; after = old }))
    (option_copied c.args.captured)) (Some new)
    (false_from_ne_true (same_kind old.kind new.kind) apart))
