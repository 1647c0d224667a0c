use Rattle.std.proofs.Common.{ap, ◌∙◌}
use Rattle.frac_keys.specs.Rising.{are_rising}
use Rattle.elem_store.specs.Updates.{ids_of}
use Rattle.board_tables.specs.Boards.{elements_in}
use Rattle.board_tables.proofs.writes.apply_change.Goals as goal

pub put_element-requires : goal.put_element-requires
put_element-requires c =
    ap (λ elements. are_rising (ids_of elements)) (c.parts-head.ensures.elements_are ∙ ap elements_in c.take.ensures.value)
    ∙ c.requires
