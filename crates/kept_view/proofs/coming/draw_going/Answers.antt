use Rattle.std.proofs.Common.{◌≡◌}
use Rattle.std.proofs.lemmas.Result.{IfOk-weaker}
use Rattle.kept_view.specs.inner.Coming.{part_of_ids}
use Rattle.kept_view.proofs.PuttingLaws.{IfSome-weaker}
use Rattle.kept_view.proofs.coming.draw_going.Goals as goal

pub returns : goal.returns
returns c =
    let part : c.in_ok-part.part ≡ part_of_ids c.args.board.live.now.items c.in_ok-others.others.list.items =
    rw c.new.ensures.items at c.in_ok-part.ensures in
    IfOk-weaker c.puts_beside.result _ _
    (λ found is. IfSome-weaker _ _
    (λ puts beside. record {
      near = c.in-Some.around.near.list.items;
      wide = c.in-Some.around.wide.list.items;
      around = rw c.in-Some.is at c.in_ok-around.ensures;
      others = c.in_ok-others.others.list.items;
      are = rw c.id.ensures at c.in_ok-others.ensures;
      beside = rw (part, c.id-2.ensures) at beside;
    }) found is)
    c.puts_beside.ensures
