-- The value is an object, not a selection, shallow, and its restored members say an element or have a first fault.
use Rattle.std.proofs.Common.{◌≡◌, Err, ap, subst, lit≤}
use Rattle.std.proofs.lemmas.Bool.{both_ways}
use Rattle.std.proofs.lemmas.Result.{err_from_is_err_and}
use Rattle.json_text.specs.Characters.{quote}
use Rattle.json_text.specs.Members.{pairs}
use Rattle.scene_json.proofs.CallerLemmas.{AreMembers-distinct}
use Rattle.elem_read.specs.Reading.{IsFaultIn}
use Rattle.elem_read.specs.declared.fault.ElemFault.TheVariants.{Depth}
use Rattle.elem_read.proofs.NoSelections.{selection, no_selection, given-nest, kind-stays, element-in, fault-in}
use Rattle.elem_read.proofs.Parts.{stop-same}
use Rattle.elem_read.proofs.Whole.{whole}
use Rattle.elem_read.proofs.reading.read_members.Goals as goal

pub returns-then-branch-clause-read : goal.returns-then-branch-clause-read
unfolding quote
returns-then-branch-clause-read c = λ value object.
    selection value (pairs c.args.given) object (c.in_ok-has_value.ensures.0 c.if-branch.true)

pub returns-then-not-branch-clause-fault : goal.returns-then-not-branch-clause-fault
unfolding quote
returns-then-not-branch-clause-fault c = λ fault e value object.
    let draws = no_selection value (pairs c.args.given) object
    (λ e. both_ways _ c.if-branch.false (c.in_ok-has_value.ensures.1 e)) in
    let same : Depth ≡ fault = cc in
    subst (IsFaultIn value) same (record {
      members = pairs c.args.given;
      no_selection = draws;
      deep = λ shallow. both_ways _ c.if-not-branch.true ((c.in_ok-is_shallow.ensures value object).1 shallow);
    })

pub into_restored-requires : goal.into_restored-requires
into_restored-requires c =
    AreMembers-distinct 127 c.args.given c.requires.1.are_members

pub element_of-requires-clause-kept : goal.element_of-requires-clause-kept
unfolding quote
element_of-requires-clause-kept c =
    kind-stays (pairs c.args.given) (pairs c.in_ok-restored.restored) c.in_ok-restored.ensures.restored
    (λ e. both_ways _ c.if-branch.false (c.in_ok-has_value.ensures.1 e))

pub element_of-requires-clause-nest : goal.element_of-requires-clause-nest
element_of-requires-clause-nest c =
    let value = c.requires.0 in
    let object = c.requires.1 in
    let shallow = (c.in_ok-is_shallow.ensures value object).0 c.if-not-branch.false in
    c.in_ok-restored.ensures.nests 119 (lit≤ tt) (given-nest value c.args.given object shallow)

pub returns-in_err-element-clause-fault : goal.returns-in_err-element-clause-fault
unfolding quote
returns-in_err-element-clause-fault c =
    let p = err_from_is_err_and c.from_residual-in_err-element.result c.from_residual-in_err-element.ensures.1 in
    rw (p.1, p.2) (λ fault e value object.
    let draws = no_selection value (pairs c.args.given) object
    (λ e. both_ways _ c.if-branch.false (c.in_ok-has_value.ensures.1 e)) in
    let shallow = (c.in_ok-is_shallow.ensures value object).0 c.if-not-branch.false in
    fault-in value (pairs c.args.given) (pairs c.in_ok-restored.restored) fault draws shallow
    c.in_ok-restored.ensures.restored
    (c.in_err-element.ensures.fault fault (ap Err (stop-same _ _ _ e))))

pub returns-clause-read : goal.returns-clause-read
unfolding quote
returns-clause-read c = λ value object.
    let draws = no_selection value (pairs c.args.given) object
    (λ e. both_ways _ c.if-branch.false (c.in_ok-has_value.ensures.1 e)) in
    let shallow = (c.in_ok-is_shallow.ensures value object).0 c.if-not-branch.false in
    element-in value (pairs c.args.given) (pairs c.in_ok-restored.restored) c.in_ok-element.element draws shallow
    c.in_ok-restored.ensures.restored c.in_ok-element.ensures.says

pub returns-clause-whole : goal.returns-clause-whole
unfolding quote
returns-clause-whole c =
    let value = c.requires.0 in
    let object = c.requires.1 in
    let draws = no_selection value (pairs c.args.given) object
    (λ e. both_ways _ c.if-branch.false (c.in_ok-has_value.ensures.1 e)) in
    let shallow = (c.in_ok-is_shallow.ensures value object).0 c.if-not-branch.false in
    whole value c.in_ok-element.element
    (element-in value (pairs c.args.given) (pairs c.in_ok-restored.restored) c.in_ok-element.element draws shallow
    c.in_ok-restored.ensures.restored c.in_ok-element.ensures.says)
