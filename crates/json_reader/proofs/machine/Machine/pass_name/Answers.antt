use Rattle.std.proofs.Common.{arith, refl}
use Rattle.json_reader.specs.inner.Machine.{Role}
use Rattle.json_reader.proofs.PlainStrings.{string-runs}
use Rattle.json_reader.proofs.SimpleValues.{string-alike}
use Rattle.json_reader.proofs.machine.Machine.pass_name.Goals as goal

pub returns : goal.returns
returns c =
    let found = c.in_ok-colon.ensures in
    let machine = c.args.self.now in (
      c.if-not-stands_at-2.ensures refl,
      record {
        within = (omega (arith, found.0), found.1);
        ran = rw found.2.is (string-runs machine.mode machine.brackets Role.Name found.2.text c.requires.awaited.begins
            found.2.bare);
        alike = rw c.in-Between.is (string-alike _ found.2);
      },
      refl,
    )
