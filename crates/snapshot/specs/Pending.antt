-- What has changed since a snapshot was taken. This project's own, after Excalidraw's store.
use Rattle.std.specs.Prelude.{List}
use Rattle.elem.specs.ElementValue.{ElementValue}
use Rattle.elem_store.specs.Updates.{element_of}
use Rattle.delta.specs.Pairs.{Pair, pairs_from}

-- The pairs from the elements of a snapshot to the stored ones: each stored element, and what the
-- snapshot has of its id. An entry stands for those of them that differ.
abbrev pub pairs_since : List ElementValue → List ElementValue → List Pair
pairs_since snapshot store = pairs_from (element_of snapshot) store
