use Rattle.std.proofs.Common.{◌≡◌, ◌<◌, None, Err, length, get_or, ap, sym, subst, All, arith}
use Rattle.std.proofs.lemmas.Option.{MatchOption-at_some, MatchOption-at_none}
use Rattle.std.proofs.lemmas.Result.{err_from_is_err_and}
use Rattle.elem_read.specs.Elements.{IsFirstFaulty}
use Rattle.elem_read.specs.Reading.{IsWholeElement}
use Rattle.elem_read.proofs.Parts.{stop-same}
use Rattle.elem_read.proofs.ReadElements.{read-more, dropped-more, faulty-at, All-whole}
use Rattle.elem_read.proofs.reading.read_elements.Goals as goal
use Rattle.elem_read.proofs.reading.read_elements.Goals.{in-Some+in_ok-push, in_default}

pub returns-in_err-read-clause-fault : goal.returns-in_err-read-clause-fault
returns-in_err-read-clause-fault c =
    let values = c.args.values.now in
    let i = c.loop-place.place in
    let v = c.value-item.result in
    let at : v ≡ get_or values i v = cc in
    let within : i < length values = omega (arith, ap length c.as_slice-value-items.ensures) in
    let p = err_from_is_err_and c.from_residual.result c.from_residual.ensures.1 in
    rw (p.1, p.2) (λ faulty e.
    let told = c.in_err-read.ensures.fault faulty (ap Err (stop-same _ _ _ e)) in
    subst (λ place. IsFirstFaulty values place faulty.fault) (sym told.0)
    (faulty-at values i v c.loop-place.elements.items faulty.fault within at c.loop-place.invariant told.1))

pub loop-place-preserved : goal.loop-place-preserved
loop-place-preserved c =
    let values = c.args.values.now in
    let i = c.loop-place.place in
    let v = c.value-item.result in
    let at : v ≡ get_or values i v = cc in
    let within : i < length values = omega (arith, ap length c.as_slice-value-items.ensures) in
    elim c.match-read.branch [
      | in-Some+in_ok-push w ↦ rw w.elements-is
          (read-more values i v c.loop-place.elements.items w.push.new.self.items w.in-Some.element within at
          c.loop-place.invariant
          (MatchOption-at_some _ _ w.in-Some.element w.in-Some.is c.in_ok-read.ensures.read) w.in_ok-push.ensures.items)
      | in_default w ↦ rw w.elements-is
          (let none : c.in_ok-read.read ≡ None = cc in
          dropped-more values i v c.loop-place.elements.items within at c.loop-place.invariant
          (MatchOption-at_none _ _ none c.in_ok-read.ensures.read))
    ]

pub returns-clause-whole : goal.returns-clause-whole
returns-clause-whole c = subst (All IsWholeElement) (sym c.from_vec.ensures) (All-whole _ _ c.loop-place.invariant)
