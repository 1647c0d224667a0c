use Rattle.view.proofs.CallerLemmas.{IsViewOf-from}
use Rattle.kept_view.proofs.live.KeptView.elements.Goals as goal

pub returns : goal.returns
returns c =
    let view = rw c.self.view_is at c.elements.ensures in
    let is = IsViewOf-from _ _ view in
    record {
      exact = view.exact;
      keys = is.keys;
      order = is.order;
      ids = is.ids;
      others = is.others;
      settled = is.are_settled;
      again = is.again;
    }
