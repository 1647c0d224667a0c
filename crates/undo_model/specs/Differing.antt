-- Which elements differ outside the stamp, and which of a board's have since a snapshot of them.
-- This project's own, after Excalidraw's store.
use Rattle.std.specs.Prelude.{List, Bool, not, ◌&&◌, filter, bytes_eq}
use Rattle.elem.specs.declared.kind.Kind.{Kind}
use Rattle.elem.specs.ElementValue.{ElementValue}
use Rattle.elem.specs.Order.{unstamped}
use Rattle.elem.specs.Texts.{element_text, kind_name}
use Rattle.elem_store.specs.Updates.{element_of}
use Rattle.delta.specs.Pairs.{Pair, pairs_from}

-- whether two kinds are the same
abbrev pub same_kind : Kind → Kind → Bool
same_kind kind other = bytes_eq (kind_name kind) (kind_name other)

-- whether two elements differ outside the stamp: the texts of their other members do
unfoldable pub differ : ElementValue → ElementValue → Bool
differ e other = not (bytes_eq (element_text (unstamped e)) (element_text (unstamped other)))

-- whether an element changed: it differs outside the stamp and is of the same kind
abbrev pub is_changed : Pair → Bool
is_changed pair = same_kind pair.before.kind pair.after.kind && differ pair.before pair.after

-- what has changed of stored elements since a snapshot of them
abbrev pub pending : List ElementValue → List ElementValue → List Pair
pending snapshot stored = filter is_changed (pairs_from (element_of snapshot) stored)
