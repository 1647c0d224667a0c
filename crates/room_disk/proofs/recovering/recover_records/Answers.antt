use Rattle.input_texts.specs.Lines.{lines_of}
use Rattle.room_disk.proofs.recovering.recover_records.Goals as goal

pub returns-clause-recovered : goal.returns-clause-recovered
returns-clause-recovered g c =
    let read = c.in_ok-recovery.ensures.read in (
      read.0,
      read.1,
      c.has_no_record.ensures.some c.if-has_no_record.false read.0 read.2,
      c.in_ok-finish.ensures.kept (lines_of read.0) read.2.read,
    )
