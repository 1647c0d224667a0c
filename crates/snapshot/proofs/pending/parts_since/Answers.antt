-- Each stored element is noted in its turn.
use Rattle.std.proofs.Common.{◌≡◌, ◌++◌, [], ◌∷◌, take, take_all, option_copied, sym, ap, ◌∙◌, subst, arith}
use Rattle.elem.specs.ElementValue.{ElementValue}
use Rattle.delta.specs.Pairs.{EntryStandsFor, pair_with}
use Rattle.delta.proofs.CallerLemmas.{entry-none}
use Rattle.elem_store.specs.Updates.{element_of}
use Rattle.elem_store.proofs.CallerLemmas.{within_stored}
use Rattle.snapshot.specs.Pending.{pairs_since}
use Rattle.snapshot.proofs.CapturedLaws.{found-id}
use Rattle.snapshot.proofs.PendingLaws.{pairs-more, pairs-less}
use Rattle.snapshot.proofs.pending.parts_since.Goals as goal
use Rattle.snapshot.proofs.pending.parts_since.Goals.{in-Some+in_ok-note, in_default}

pub loop-i-init : goal.loop-i-init
loop-i-init c = subst (λ parts. EntryStandsFor parts []) (sym c.new-parts.ensures.items) entry-none

pub note-requires : goal.note-requires
note-requires c = found-id c.args.elements.now.items c.in-Some.e.now.id (option_copied c.find.result) (c.find.ensures
    ∙ ap (element_of c.args.elements.now.items) (ap (λ (e : ElementValue). e.id) c.e.view_is))

pub loop-i-preserved : goal.loop-i-preserved
loop-i-preserved c =
    let elements = c.args.elements.now.items in
    let store = c.args.store.now.elements in
    let i = c.loop-i.i in
    elim c.match-at.branch [
      | in-Some+in_ok-note w ↦
          let e = w.in-Some.e.now in
          let at = sym w.in-Some.ensures.element in
          let old : option_copied w.find.result ≡ element_of elements e.id =
          w.find.ensures ∙ ap (element_of elements) (ap (λ (e : ElementValue). e.id) w.e.view_is) in
          rw w.parts-is
          (subst (EntryStandsFor w.note.new.parts.items) (ap (λ o. pairs_since elements (take i store) ++ pair_with o e
          ∷ []) old ∙ pairs-more elements store i e at)
          (w.in_ok-note.ensures _ c.loop-i.invariant (pairs-less elements store i e at c.len-i-end.ensures.ordered)))
      | in_default w ↦ absurd (within_stored store i (omega (arith, c.len-i-end.ensures.exact))
          w.in_default.ensures.element)
    ]

pub returns : goal.returns
returns c =
    subst (λ es. EntryStandsFor c.loop-i.parts.items (pairs_since c.args.elements.now.items es))
    (take_all c.loop-i.i c.args.store.now.elements (omega (arith, c.len-i-end.ensures.exact))) c.loop-i.invariant
