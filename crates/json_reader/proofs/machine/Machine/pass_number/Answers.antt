use Rattle.std.proofs.Common.{◌+◌, ap, arith, inl, inr, ◌∙◌}
use Rattle.json_reader.specs.inner.Runs.{run}
use Rattle.json_reader.specs.inner.Writing.{stretch}
use Rattle.json_reader.proofs.Copying.{headed}
use Rattle.json_reader.proofs.Numbers.{number-runs, number-extends}
use Rattle.json_reader.proofs.machine.Machine.pass_number.Goals as goal

pub returns : goal.returns
returns c =
    let bytes = c.args.bytes.now in
    let end = c.number_end-last.result.1 in
    let found = c.number_end-last.ensures in
    let awaited = c.in-Some.ensures in
    let there = headed bytes c.args.at end c.requires (omega (arith, found.within.0)) in
    record {
      within = (omega (arith, found.within.0), found.within.1);
      ran = rw there (ap (λ o. run 128 o (stretch bytes (c.args.at + 1) end)) awaited.goes
          ∙ number-runs c.in-Some.part _ _ _ found.part);
      alike = rw (c.in-Between.is, there) (inr (inl (awaited.extends, number-extends _ _ _ found.part)));
    }
