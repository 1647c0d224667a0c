use Rattle.std.proofs.Common.{◌∙◌, sym}
use Rattle.input_texts.proofs.Leads.{stands_ended, stands_full}
use Rattle.input_texts.proofs.reading.finish.Goals as goal

pub returns-then-is_some : goal.returns-then-is_some
returns-then-is_some g c stream h =
    stands_ended stream c.args.feed.now (g.R.Reader.seen c.args.reader.now) c.args.stop (sym c.is_some.ensures
    ∙ c.if-is_some.true) h

pub returns-then-is_full : goal.returns-then-is_full
returns-then-is_full g c stream h =
    stands_full stream c.args.feed.now (g.R.Reader.seen c.args.reader.now) c.args.stop (sym c.is_some.ensures
    ∙ c.if-is_some.false)
    (sym c.is_full.ensures.full ∙ c.if-is_full.true) (c.is_full.ensures.enough c.if-is_full.true) h
