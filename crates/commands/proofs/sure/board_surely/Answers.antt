use Rattle.std.proofs.Common.{refl, subst}
use Rattle.board_ends.specs.Sure.{sure_sink_end}
use Rattle.commands.specs.Drills.{EndsDrilling}
use Rattle.commands.specs.Ends.{span}
use Rattle.commands.specs.Keeping.{EndsKeeping}
use Rattle.commands.specs.Serving.{EndsServing}
use Rattle.commands.specs.Words.{asked}
use Rattle.commands.specs.declared.status.Status.TheVariants.{ReadFault, WriteFault}
use Rattle.commands.proofs.Never.{never, stays}
use Rattle.commands.proofs.sure.board_surely.Goals as goal

pub returns-clause-reads : goal.returns-clause-reads
returns-clause-reads g c =
    never (asked c.args.words.now) c.board.result ReadFault (λ e. cc) (λ none. c.board.ensures.usage.1 none)
    (λ command is fault. stays (c.board.ensures.read_fault command is fault).0)
    (λ service is fault. stays
    (subst (EndsServing service _ (span (g.N.Sink.seen c.args.notes.now) (g.N.Sink.seen c.board.new.notes))) fault
    (c.board.ensures.served service is)).0)
    (λ drill is fault. subst (EndsDrilling drill
    (span (sure_sink_end c.args.output.now) (sure_sink_end c.board.new.output))
    (span (g.N.Sink.seen c.args.notes.now) (g.N.Sink.seen c.board.new.notes))) fault
    (c.board.ensures.drilled drill is))
    (λ keeping is fault. stays
    (subst (EndsKeeping keeping _ (span (g.N.Sink.seen c.args.notes.now) (g.N.Sink.seen c.board.new.notes))) fault
    (c.board.ensures.kept keeping is)).0)

pub returns-clause-writes : goal.returns-clause-writes
returns-clause-writes g c =
    never (asked c.args.words.now) c.board.result WriteFault (λ e. cc) (λ none. c.board.ensures.usage.1 none)
    (λ command is fault. stays (c.board.ensures.write_fault command is fault).1)
    (λ service is fault. stays
    (subst (EndsServing service _ (span (g.N.Sink.seen c.args.notes.now) (g.N.Sink.seen c.board.new.notes))) fault
    (c.board.ensures.served service is)).0.1)
    (λ drill is fault. stays
    (subst (EndsDrilling drill (span (sure_sink_end c.args.output.now) (sure_sink_end c.board.new.output))
    (span (g.N.Sink.seen c.args.notes.now) (g.N.Sink.seen c.board.new.notes))) fault
    (c.board.ensures.drilled drill is)).1)
    (λ keeping is fault. stays
    ((subst (EndsKeeping keeping _ (span (g.N.Sink.seen c.args.notes.now) (g.N.Sink.seen c.board.new.notes))) fault
    (c.board.ensures.kept keeping is)).0.output_rose refl))
