use Rattle.json_reader.proofs.Moves.{stay_run}
use Rattle.json_reader.proofs.machine.Machine.stay_end.Goals as goal

pub returns : goal.returns
returns c =
    let machine = c.args.self.now in
    let stay = c.stay_end.ensures in
    record {
      within = stay.within;
      ran = stay_run machine.mode machine.brackets _ (rw c.top.ensures at stay.stays);
      alike = stay.alike;
    }
