-- Each element is copied in its turn.
use Rattle.std.proofs.Common.{◌++◌, [], ◌∷◌, take, take_all, sym, ap, ap₂, ◌∙◌, arith}
use Rattle.std.proofs.lemmas.List.{take_more}
use Rattle.std.proofs.lemmas.Option.{slice_get_within, get_or_from_slice_get}
use Rattle.elem.specs.ElementValue.{ElementValue}
use Rattle.elem_store.specs.Updates.{ids_of}
use Rattle.elem_store.proofs.CallerLemmas.{within_stored}
use Rattle.frac_keys.specs.Rising.{are_rising}
use Rattle.snapshot.proofs.pending.copies_of.Goals as goal
use Rattle.snapshot.proofs.pending.copies_of.Goals.{in-Some+in_ok-copy+in_ok-push, in_default}

pub loop-i-preserved : goal.loop-i-preserved
loop-i-preserved c =
    let store = c.args.store.now.elements in
    let i = c.loop-i.i in
    elim c.match-at.branch [
      | in-Some+in_ok-copy+in_ok-push w ↦
          let e = w.in-Some.e.now in
          let at = sym w.in-Some.ensures.element in
          rw w.copies-is
          (w.in_ok-push.ensures.items ∙ ap₂ (λ es (copy : ElementValue). es ++ copy ∷ []) c.loop-i.invariant
          w.in_ok-copy.ensures
          ∙ sym (take_more store i e (slice_get_within store i e at)
          ∙ ap (λ x. take i store ++ x ∷ []) (get_or_from_slice_get store i e e at)))
      | in_default w ↦ absurd (within_stored store i (omega (arith, c.len-i-end.ensures.exact))
          w.in_default.ensures.element)
    ]

pub returns-clause-exact : goal.returns-clause-exact
returns-clause-exact c =
    c.loop-i.invariant ∙ take_all c.loop-i.i c.args.store.now.elements (omega (arith, c.len-i-end.ensures.exact))

pub returns-clause-ordered : goal.returns-clause-ordered
returns-clause-ordered c =
    ap (λ es. are_rising (ids_of es)) (c.loop-i.invariant
    ∙ take_all c.loop-i.i c.args.store.now.elements (omega (arith, c.len-i-end.ensures.exact)))
    ∙ c.len-i-end.ensures.ordered
