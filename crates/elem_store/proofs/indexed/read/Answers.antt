-- The late place behind the index stands at it, or a settled one does.
use Rattle.std.proofs.Common.{Some, ap, sym, ◌∙◌, arith}
use Rattle.std.proofs.lemmas.List.{get_or_default}
use Rattle.elem_store.specs.declared.indexed.Late.{Late}
use Rattle.elem_store.proofs.Woven.{get-late, settled-read}
use Rattle.elem_store.proofs.indexed.read.Goals as goal
use Rattle.elem_store.proofs.indexed.read.Goals.{in_default-via-in-Some+else-late-gap, in_default-via-in_default}

pub returns-in-Some : goal.returns-in-Some
returns-in-Some c =
    let late = c.args.late.now.items in
    let at = c.late_before-j.ensures in
    let read = rw c.deref.ensures.value at c.in-Some.ensures.lookup in
    let x = c.in-Some.late.now in
    ap (λ (l : Late). Some l.place) read.1
    ∙ sym (get-late c.args.settled.now.items late c.args.i c.late_before-j.result x
    (rw c.args.settled.now.ok.0 at c.requires.within) read.3.0 at.before
    (omega (arith, ap (λ (l : Late). l.gap) read.1, at.bounded, c.if-late-gap.true)))

pub returns-in_default : goal.returns-in_default
returns-in_default c =
    let late = c.args.late.now.items in
    let at = c.late_before-j.ensures in
    c.settled_at.ensures
    ∙ sym (settled-read late c.args.i c.late_before-j.result at _ c.requires c.args.settled.now.items
    (sym c.args.settled.now.ok.0)
    (λ d m same. elim c.in_default.branch [
      | in_default-via-in-Some+else-late-gap w ↦
          let read = rw c.deref.ensures.value at w.in-Some.ensures.lookup in
          let x = w.in-Some.late.now in
          w.if-late-gap.false (ap (λ (l : Late). l.gap) (read.1 ∙ get_or_default late c.late_before-j.result x d m)
          ∙ same)
      | in_default-via-in_default w ↦ let past =
          rw c.deref.ensures.value at w.in_default.ensures.lookup in omega (arith, past.3)
    ]))
