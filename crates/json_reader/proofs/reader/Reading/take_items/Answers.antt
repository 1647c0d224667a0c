use Rattle.std.proofs.Common.{sym, ◌∙◌}
use Rattle.json_reader.proofs.ItemRuns.{items_fit, items_later}
use Rattle.json_reader.proofs.Written.{has_run}
use Rattle.json_reader.proofs.reader.Reading.take_items.Goals as goal

pub returns-then-is_in_arrays : goal.returns-then-is_in_arrays
returns-then-is_in_arrays c =
    let bytes = c.args.bytes.now in
    let at = c.args.at in
    let end = c.pass_items.result in
    let writer = c.args.self.now.writer in
    let passed = c.pass_items.ensures in
    let deep = sym c.is_in_arrays.ensures ∙ c.if-is_in_arrays.true in (
      passed.within.0,
      passed.within.1,
      λ from read. has_run bytes from at c.args.self.now.machine writer read end c.pass_items.new.self writer
          passed.within.0 passed.within.1 passed.ran
          (items_later bytes at end writer deep read.fits passed.within.0 passed.items)
          (items_fit bytes at end writer deep read.fits passed.within.0),
    )
