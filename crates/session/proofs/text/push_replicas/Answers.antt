use Rattle.std.proofs.Common.{◌<◌, ◌++◌, ap, ◌∙◌, length, map, take_all, arith}
use Rattle.std.specs.List.{join_with_byte}
use Rattle.scene_json.proofs.CallerLemmas.{mapped-step}
use Rattle.session.specs.Texts.{replica_text}
use Rattle.session.proofs.text.push_replicas.Goals as goal

pub loop-i-preserved : goal.loop-i-preserved
loop-i-preserved c =
    let xs = c.args.reports.now in
    let inside : c.loop-i.i < length xs = omega arith in
    mapped-step replica_text c.args.out.now.items xs c.index-reports-i.result c.loop-i.i c.loop-i.out.items
    c.push_comma.new.out.items c.push_replica.new.out.items inside
    c.index-reports-i.is c.loop-i.invariant c.in_ok-push_comma.ensures.ok c.in_ok-push_replica.ensures

pub returns : goal.returns
returns c =
    c.loop-i.invariant
    ∙ ap (λ xs. c.args.out.now.items ++ join_with_byte 44 (map replica_text xs))
    (take_all c.loop-i.i c.args.reports.now (omega arith))
