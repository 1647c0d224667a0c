-- Each round brings the room nearer to its end.
use Rattle.std.proofs.Common.{◌∙◌, arith}
use Rattle.room_core.proofs.Served.{left-falls, served-then}
use Rattle.room_core.proofs.serving.serve_room.Goals as goal

pub loop-end-smaller : goal.loop-end-smaller
loop-end-smaller g c = left-falls c.args.limits.now _ _ _ _ c.loop-end.invariant.running c.in-Ok.ensures.on

pub loop-end-preserved : goal.loop-end-preserved
loop-end-preserved g c =
    let facts = c.in-Ok.ensures in
    let held = c.loop-end.invariant in
    record {
      served = λ new after end served. held.served new after end
          (served-then c.args.limits.now _ held.running _ new _ _ after end facts.on served);
      running = facts.running;
      within = facts.within;
      port = facts.port ∙ held.port;
      listens = facts.listens ∙ held.listens;
      counted = omega (arith, facts.counted, held.counted);
      gone_counted = omega (arith, facts.gone_counted, held.gone_counted);
    }
