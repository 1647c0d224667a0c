-- Fronts that differ decide.
use Rattle.std.proofs.Common.{Less, Greater, nat_cmp, sym, ap₂, ◌∙◌}
use Rattle.std.specs.Cmp.Lexicographic.{slice_cmp}
use Rattle.board_base.proofs.CallerLemmas.{fronts-decide, not_less, not_greater}
use Rattle.elem_store.specs.inner.Places.{id_at}
use Rattle.elem_store.proofs.shelf.Shelf.order_between.Goals as goal

pub returns-in-Less : goal.returns-in-Less
returns-in-Less c =
    sym (fronts-decide Less not_less 8 (id_at c.args.self.now.items c.args.place)
    (id_at c.args.self.now.items c.args.other)
    (ap₂ (slice_cmp nat_cmp) (sym c.front.ensures) (sym c.front-2.ensures) ∙ sym c.bytes_order.ensures ∙ c.in-Less.is))

pub returns-in-Greater : goal.returns-in-Greater
returns-in-Greater c =
    sym (fronts-decide Greater not_greater 8 (id_at c.args.self.now.items c.args.place)
    (id_at c.args.self.now.items c.args.other)
    (ap₂ (slice_cmp nat_cmp) (sym c.front.ensures) (sym c.front-2.ensures) ∙ sym c.bytes_order.ensures
    ∙ c.in-Greater.is))
