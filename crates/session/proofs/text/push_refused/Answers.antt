use Rattle.std.proofs.Common.{◌<◌, ◌++◌, ap, ◌∙◌, length, map, take_all, arith}
use Rattle.std.specs.List.{join_with_byte}
use Rattle.scene_json.proofs.CallerLemmas.{mapped-step}
use Rattle.session.specs.Texts.{refused_text}
use Rattle.session.proofs.text.push_refused.Goals as goal

pub loop-i-preserved : goal.loop-i-preserved
loop-i-preserved c =
    let xs = c.args.events.now in
    let inside : c.loop-i.i < length xs = omega arith in
    mapped-step refused_text c.args.out.now.items xs c.index-events-i.result c.loop-i.i c.loop-i.out.items
    c.push_comma.new.out.items c.push_event.new.out.items inside
    c.index-events-i.is c.loop-i.invariant c.in_ok-push_comma.ensures.ok c.in_ok-push_event.ensures

pub returns : goal.returns
returns c =
    c.loop-i.invariant
    ∙ ap (λ xs. c.args.out.now.items ++ join_with_byte 44 (map refused_text xs))
    (take_all c.loop-i.i c.args.events.now (omega arith))
