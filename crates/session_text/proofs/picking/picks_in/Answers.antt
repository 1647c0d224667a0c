use Rattle.std.proofs.Common.{◌≡◌, ◌<◌, length, get_or, add-one, ap, arith}
use Rattle.std.proofs.lemmas.Option.{MatchOption-at_some, MatchOption-at_none}
use Rattle.session_text.proofs.PicksMore.{picks-more, picks-none}
use Rattle.session_text.proofs.picking.picks_in.Goals as goal

pub returns-in-None : goal.returns-in-None
returns-in-None c =
    let item = c.item-item.result in
    let i = c.loop-item.item-index in
    let items = c.args.items.now in
    let within : i < length items = omega (arith, ap length c.as_slice-item-items.ensures) in
    let here : item ≡ get_or items i item = cc in
    picks-none c.args.made items i item within here (MatchOption-at_none _ _ c.in-None.is c.in_ok-pick.ensures)

pub loop-item-preserved : goal.loop-item-preserved
loop-item-preserved c =
    let item = c.item-item.result in
    let i = c.loop-item.item-index in
    let items = c.args.items.now in
    let within : i < length items = omega (arith, ap length c.as_slice-item-items.ensures) in
    let here : item ≡ get_or items i item = cc in
    rw (add-one, c.in_ok-push-in-Some.ensures.items)
    (picks-more c.args.made items i item c.loop-item.picks.items c.in-Some.pick within here c.loop-item.invariant
    (MatchOption-at_some _ _ c.in-Some.pick c.in-Some.is c.in_ok-pick.ensures))
