use Rattle.std.proofs.lemmas.Result.{IfOk-weaker}
use Rattle.kept_view.proofs.reach.reached.Goals as goal

pub returns : goal.returns
returns c =
    IfOk-weaker c.with_links_to_texts.result _ _
    (λ to to_texts. record {
      one = c.in_ok-one.one.list.items;
      two = c.in_ok-two.two.list.items;
      linked = c.in_ok-one.ensures;
      texts = rw c.new.ensures at c.in_ok-two.ensures;
      to_texts = to_texts;
    })
    c.with_links_to_texts.ensures
