-- Each round brings the room nearer to its end.
use Rattle.std.proofs.Common.{◌∙◌, arith}
use Rattle.room_disk.proofs.Gains.{keeps-more}
use Rattle.room_disk.proofs.KeptAccounts.{kept-then, left-falls}
use Rattle.room_disk.proofs.keeping.keep_on.Goals as goal

pub loop-end-smaller : goal.loop-end-smaller
loop-end-smaller g c = left-falls c.args.limits.now _ _ _ _ _ _ _ _ c.loop-end.invariant.running c.in-Ok.ensures.on

pub loop-end-preserved : goal.loop-end-preserved
loop-end-preserved g c =
    let facts = c.in-Ok.ensures in
    let held = c.loop-end.invariant in
    record {
      kept = λ new after journal end kept. held.kept new after journal end
          (kept-then c.args.limits.now _ held.running _ _ _ new _ _ after _ _ journal end facts.on kept);
      running = facts.running;
      within = facts.within;
      few = facts.few;
      synced = facts.on.synced;
      safe = keeps-more (g.J.Sink.seen c.args.journal.now) (g.J.Sink.seen c.loop-end.journal)
          (g.J.Sink.seen c.keep_round.new.journal) held.safe c.keep_round.ensures.safe;
      port = facts.port ∙ held.port;
      listens = facts.listens ∙ held.listens;
      counted = omega (arith, facts.counted, held.counted);
      gone_counted = omega (arith, facts.gone_counted, held.gone_counted);
      journal_counted = omega (arith, facts.journal_counted, held.journal_counted);
    }
