use Rattle.std.proofs.Common.{arith}
use Rattle.json_reader.proofs.PlainStrings.{string-runs}
use Rattle.json_reader.proofs.SimpleValues.{string-alike}
use Rattle.json_reader.proofs.machine.Machine.pass_string.Goals as goal

pub returns : goal.returns
returns c =
    let found = c.in-Some.ensures in
    let machine = c.args.self.now in
    record {
      within = (omega (arith, found.0), found.1);
      ran = rw (found.2.is, c.after_string-self.ensures) (string-runs machine.mode machine.brackets
          c.in-Between-Some.role found.2.text c.in-Between-Some.ensures found.2.bare);
      alike = rw c.in-Between-Some.is-0 (string-alike _ found.2);
    }
