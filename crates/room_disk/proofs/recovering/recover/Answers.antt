use Rattle.std.proofs.Common.{ℕ, List, Ok}
use Rattle.board_ends.specs.Ends.{Gave}
use Rattle.elem_store.specs.Stock.{Held}
use Rattle.scene_file.specs.Heads.{Heading}
use Rattle.input_texts.specs.Lines.{lines_of}
use Rattle.room_disk.specs.Recovering.{AreReadAs, AreKept}
use Rattle.room_disk.specs.inner.UnderWay.{IsReadTo}
use Rattle.room_disk.proofs.Taking.{if-then}
use Rattle.room_disk.proofs.recovering.recover.Goals as goal

pub returns-clause-recovered : goal.returns-clause-recovered
returns-clause-recovered g c =
    let source = g.S.Source.seen in
    let read = c.in_ok-recovery.ensures.read in
    if-then (λ (found : Heading × Held). (lines : List (List ℕ)) → IsReadTo lines c.in_ok-recovery.recovery
    → AreReadAs lines (Ok (record { head = found.0; elements = found.1.elements })))
    (λ (found : Heading × Held). (x : List ℕ) × Gave (source c.args.source.now) (source c.read_lines.new.source) x
    × AreKept (lines_of x) found.0 found.1.elements)
    c.finish.result (λ found kept. (read.0, read.1, kept (lines_of read.0) read.2.read)) c.finish.ensures.kept

pub returns-clause-faulty : goal.returns-clause-faulty
returns-clause-faulty g c =
    let read = c.in_ok-recovery.ensures.read in
    λ fault e. (read.0, read.1, c.in_ok-recovery.ensures.end, c.finish.ensures.fault fault e (lines_of read.0) read.2.read)
