use Rattle.std.proofs.Common.{sym, ap, ◌∙◌, ◌||◌, bytes_eq, is_some, nat_cmp}
use Rattle.std.specs.BTreeMap.{get}
use Rattle.std.specs.Cmp.Lexicographic.{slice_cmp}
use Rattle.elem_store.specs.Updates.{is_among}
use Rattle.effects.proofs.ConcerningLaws.{has, added-left, added-all, keyed-left}
use Rattle.effects.proofs.concerning.ids_with_keys.Goals as goal

pub loop-id-init : goal.loop-id-init
loop-id-init c =
    keyed-left c.new-ids.result c.keys-id-items.result c.into_iter-id-iterator.result
    (λ id. is_some (get (slice_cmp nat_cmp) c.args.keys.now id)) c.new-ids.ensures.empty
    c.into_iter-id-iterator.ensures.into_iter_gives c.keys-id-items.ensures.has

pub loop-id-preserved : goal.loop-id-preserved
loop-id-preserved c = λ x.
    let own = bytes_eq x c.in-Some.id.now in
    let there = has c.loop-id.ids x in
    let rest = is_among c.next.new.self x in
    ap (λ b. b || rest) (c.in_ok-add.ensures x)
    ∙ added-left own there rest _ (ap (λ ids. there || is_among ids x) (sym c.in-Some.ensures.steps)
    ∙ c.loop-id.invariant x)

pub returns : goal.returns
returns c = λ x. added-all (has c.loop-id.ids x) _
    (ap (λ ids. has c.loop-id.ids x || is_among ids x) (sym c.in-None.ensures.steps.0) ∙ c.loop-id.invariant x)
