use Rattle.std.proofs.Common.{ap, sym, subst}
use Rattle.commands.specs.Ends.{span}
use Rattle.commands.specs.Keeping.{EndsKeeping}
use Rattle.commands.proofs.Kept.{ends-kept, ends-unkept}
use Rattle.commands.proofs.KeptClosing.{kept-whole}
use Rattle.commands.proofs.running.keep_run.Goals as goal

pub returns-in-Ok-clause-kept : goal.returns-in-Ok-clause-kept
returns-in-Ok-clause-kept g c =
    let notes = span (g.N.Sink.seen c.args.notes.now) (g.N.Sink.seen c.noted_keep_end.new.notes) in
    subst (EndsKeeping c.args.keeping _ notes) (sym c.noted_keep_end.ensures.status)
    (ends-kept c.args.keeping _ notes c.in-Ok.end c.in-Ok.ensures.kept c.noted_keep_end.ensures.noted)

pub returns-in-Ok-clause-complete : goal.returns-in-Ok-clause-complete
returns-in-Ok-clause-complete g c bytes begun left begins none leads =
    kept-whole c.closing_ends_a_kept_room.ensures c.args.keeping _
    (span (g.N.Sink.seen c.args.notes.now) (g.N.Sink.seen c.noted_keep_end.new.notes)) bytes begun left begins none
    leads c.noted_keep_end.result (returns-in-Ok-clause-kept g c)

pub returns-in-Err-clause-kept : goal.returns-in-Err-clause-kept
returns-in-Err-clause-kept g c =
    let notes = span (g.N.Sink.seen c.args.notes.now) (g.N.Sink.seen c.noted.new.notes) in
    subst (EndsKeeping c.args.keeping _ notes) (sym c.noted.ensures.status)
    (ends-unkept c.args.keeping _ notes c.in-Err.fault c.in-Err.ensures.fault
    (record {
      output = ap g.K.Sink.seen c.in-Err.ensures.output_kept;
      links =
          ap g.L.Links.seen c.in-Err.ensures.links_kept;
    }) c.noted.ensures.noted)

pub returns-in-Err-clause-complete : goal.returns-in-Err-clause-complete
returns-in-Err-clause-complete g c bytes begun left begins none leads =
    kept-whole c.closing_ends_a_kept_room.ensures c.args.keeping _
    (span (g.N.Sink.seen c.args.notes.now) (g.N.Sink.seen c.noted.new.notes)) bytes begun left begins none leads
    c.noted.result (returns-in-Err-clause-kept g c)
