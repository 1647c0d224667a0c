use Rattle.std.proofs.Common.{◌≡◌, None, Err, IfSome, ap, sym, subst, arith}
use Rattle.std.proofs.lemmas.List.Elements.{All-push}
use Rattle.std.proofs.lemmas.Option.{MatchOption-at_some, MatchOption-at_none}
use Rattle.std.proofs.lemmas.Result.{IfOk-at_ok, err_from_is_err_and}
use Rattle.elem_read.specs.Elements.{AreRead, IsFirstFaulty}
use Rattle.elem_read.specs.Reading.{IsWholeElement}
use Rattle.elem_read.proofs.Parts.{stop-same}
use Rattle.elem_read.proofs.ReadElements.{IsReadTo-more, IsReadTo-dropped, IsReadTo-faulty, IsReadTo-all}
use Rattle.elem_read.proofs.reading.read_array.Goals as goal
use Rattle.elem_read.proofs.reading.read_array.Goals.{in-Some-read+in_ok-push, in_default-read}

pub returns-in_err-read-clause-fault : goal.returns-in_err-read-clause-fault
returns-in_err-read-clause-fault c =
    let p = err_from_is_err_and c.from_residual-in_err-read.result c.from_residual-in_err-read.ensures.1 in
    rw (p.1, p.2) (λ faulty e values left.
    let told = c.in_err-read.ensures.fault faulty (ap Err (stop-same _ _ _ e)) in
    let r = c.loop-elements.invariant.read values left in
    let next = MatchOption-at_some _ _ c.in-Some.item c.in-Some.is (c.in_ok-item.ensures.next _ r.left) in
    subst (λ place. IsFirstFaulty values place faulty.fault) (sym told.0)
    (IsReadTo-faulty values c.loop-elements.objects c.next.new.self c.loop-elements.place c.loop-elements.elements.items
    next.0 next.1 r next.2 next.3 faulty.fault
    (c.read_item.ensures.fault faulty.fault told.1 next.0 next.4)))

pub loop-elements-preserved : goal.loop-elements-preserved
loop-elements-preserved c =
    let passed = rw c.in-Some.is at c.in_ok-item.ensures.passed in
    record {
      few = omega (arith, c.loop-elements.invariant.few, passed);
      whole = elim c.match-read.branch [
        | in-Some-read+in_ok-push w ↦ rw (w.elements-is, w.in_ok-push.ensures.items)
            (All-push IsWholeElement c.loop-elements.elements.items w.in-Some-read.element
            c.loop-elements.invariant.whole
            (subst (λ found. IfSome found IsWholeElement) w.in-Some-read.is
            (IfOk-at_ok _ c.in_ok-read.ensures.read c.read_item.ensures.whole)))
        | in_default-read w ↦ rw w.elements-is c.loop-elements.invariant.whole
      ];
      behind = λ members are. c.next.ensures.behind members (c.loop-elements.invariant.behind members are);
      read = λ values left.
          let r = c.loop-elements.invariant.read values left in
          let next = MatchOption-at_some _ _ c.in-Some.item c.in-Some.is (c.in_ok-item.ensures.next _ r.left) in
          let read = (IfOk-at_ok _ c.in_ok-read.ensures.read c.read_item.ensures.read) next.0 next.4 in
          elim c.match-read.branch [
            | in-Some-read+in_ok-push w ↦ rw w.elements-is
                (IsReadTo-more values c.loop-elements.objects c.next.new.self c.loop-elements.place
                c.loop-elements.elements.items next.0 next.1 r next.2 next.3 w.push.new.self.items
                w.in-Some-read.element
                (MatchOption-at_some _ _ w.in-Some-read.element w.in-Some-read.is read) w.in_ok-push.ensures.items)
            | in_default-read w ↦ rw w.elements-is
                (let none : c.in_ok-read.read ≡ None = cc in
                IsReadTo-dropped values c.loop-elements.objects c.next.new.self c.loop-elements.place
                c.loop-elements.elements.items next.0 next.1 r next.2 next.3 (MatchOption-at_none _ _ none read))
          ];
    }

pub returns-clause-read : goal.returns-clause-read
returns-clause-read c =
    λ values left.
    let r = c.loop-elements.invariant.read values left in
    let none = MatchOption-at_none _ _ c.in_default.is (c.in_ok-item.ensures.next _ r.left) in
    subst (AreRead values) (sym c.from_vec.ensures) (IsReadTo-all values c.loop-elements.objects c.loop-elements.place
    c.loop-elements.elements.items r none)
