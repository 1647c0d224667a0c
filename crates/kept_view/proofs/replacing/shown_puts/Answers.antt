use Rattle.std.proofs.Common.{filter, map, ap, ◌∙◌}
use Rattle.std.proofs.lemmas.Result.{IfOk-weaker}
use Rattle.elem.specs.ElementValue.{ElementValue}
use Rattle.view.specs.Shown.{without_index}
use Rattle.elem_store.specs.Updates.{is_among}
use Rattle.kept_view.proofs.PuttingLaws.{IfSome-weaker}
use Rattle.kept_view.proofs.Stepping.{started-kept}
use Rattle.kept_view.proofs.replacing.shown_puts.Goals as goal

pub returns : goal.returns
returns c =
    IfOk-weaker c.puts_near.result _ _
    (λ found is. IfSome-weaker _ _
    (λ puts drawn. record {
      start = c.add_namers.new.ids.list.items;
      near = c.in_ok-near.near.list.items;
      wide = c.in_ok-wide.wide.list.items;
      started = started-kept c.args.news.now.items c.in_ok-start.start.list.items c.add_namers.new.ids.list.items
          c.in_ok-add_namers.ensures.kept
          (rw c.deref.ensures.value at c.in_ok-start.ensures);
      kinds_started = c.in_ok-add_namers.ensures.namers;
      reached = c.in_ok-near.ensures;
      surrounded = c.in_ok-wide.ensures;
      placed = drawn.0;
      drawn = drawn.1
          ∙ ap (λ es. map without_index (filter (λ (e : ElementValue). is_among c.in_ok-near.near.list.items e.id) es))
          c.in_ok-part.ensures;
    }) found is)
    c.puts_near.ensures
