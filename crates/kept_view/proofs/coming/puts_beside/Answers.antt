use Rattle.std.proofs.lemmas.Result.{IfOk-weaker}
use Rattle.kept_view.proofs.PuttingLaws.{IfSome-weaker}
use Rattle.kept_view.proofs.coming.puts_beside.Goals as goal

pub returns : goal.returns
returns c =
    IfOk-weaker c.puts_near.result _ _
    (λ found is. IfSome-weaker _ _
    (λ puts drawn. record {
      others = c.in_ok-others.others.list.items;
      are = c.in_ok-others.ensures;
      placed =
          drawn.0;
      drawn_others = drawn.1;
    }) found is)
    c.puts_near.ensures
