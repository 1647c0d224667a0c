use Rattle.std.proofs.Common.{take}
use Rattle.kept_view.specs.inner.Reached.{is_to_text, HaveNamers}
use Rattle.kept_view.proofs.reach.with_links_to_texts.Given as goal

abbrev pub invariant-loop-id : goal.invariant-loop-id
invariant-loop-id l =
    HaveNamers (is_to_text l.board.live.now.items) l.board.live.now.items (take l.id-index l.from.list.items)
    l.from.list.items l.to.list.items
