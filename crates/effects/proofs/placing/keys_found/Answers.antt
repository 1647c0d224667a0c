use Rattle.std.proofs.Common.{Some, nat_cmp, ap, subst}
use Rattle.std.specs.BTreeMap.{Updates}
use Rattle.std.specs.Cmp.Lexicographic.{slice_cmp}
use Rattle.elem.specs.ElementValue.{ElementValue}
use Rattle.effects.proofs.RekeyedLaws.{found-all, found-more, found-none}
use Rattle.effects.proofs.placing.keys_found.Goals as goal

pub loop-id-init : goal.loop-id-init
loop-id-init c =
    found-none c.args.lookup.now.rekeyed.now c.args.lookup.now.shown.now c.new-keys.result
    c.into_iter-id-iterator.result c.new-keys.ensures.empty c.into_iter-id-iterator.ensures.into_iter_gives.0

pub loop-id-preserved : goal.loop-id-preserved
loop-id-preserved c =
    found-more c.args.lookup.now.rekeyed.now c.args.lookup.now.shown.now c.loop-id.keys c.put_key.new.keys
    c.loop-id.id-iterator c.next.new.self c.in-Some.id.now c.in-Some-found_element.e.now c.loop-id.invariant
    c.in-Some.ensures.steps c.in-Some-found_element.ensures
    (subst (λ key. Updates (slice_cmp nat_cmp) c.loop-id.keys c.put_key.new.keys c.in-Some.id.now (Some key))
    (ap (λ (d : ElementValue). d.index) c.e.view_is) c.in_ok-put_key.ensures)

pub returns : goal.returns
returns c =
    found-all c.args.lookup.now.rekeyed.now c.args.lookup.now.shown.now c.loop-id.keys c.loop-id.id-iterator
    c.loop-id.invariant c.in-None.ensures.steps.0
