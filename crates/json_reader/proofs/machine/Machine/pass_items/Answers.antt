use Rattle.std.proofs.Common.{◌≡◌, true}
use Rattle.json_reader.specs.inner.Machine.{are_square}
use Rattle.json_reader.proofs.ItemRuns.{awaiting, items-run}
use Rattle.json_reader.proofs.machine.Machine.pass_items.Goals as goal
use Rattle.json_reader.proofs.machine.Machine.pass_items.Goals.{in-Value, in-Fresh, then-opened, else-opened}

pub returns : goal.returns
returns c =
    let machine = c.args.self.now in
    let found = c.items_end-end.ensures in
    let those = found.items in
    let opened = c.match-self.opened in
    let before : machine.mode ≡ awaiting opened =
    elim c.match-self.branch [ in-Value w ↦ cc | in-Fresh w ↦ cc ] in
    let after : c.if-opened.self ≡ awaiting c.items_end-end.result.1 =
    elim c.if-opened.branch [ then-opened w ↦ cc | else-opened w ↦ cc ] in
    let square : are_square machine.brackets ≡ true = cc in
    record {
      within = found.within;
      ran = rw (before, after, those.is, those.last)
          (items-run opened machine.brackets those.items square c.are_square.ensures.within those.complete);
      before = opened;
      after = c.items_end-end.result.1;
      items = those;
    }
