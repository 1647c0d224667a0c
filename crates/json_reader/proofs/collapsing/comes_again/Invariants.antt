use Rattle.std.proofs.Common.{◌≡◌, bytes_eq, drop}
use Rattle.std.specs.List.{list_any}
use Rattle.json_text.specs.Parts.{names_of}
use Rattle.json_reader.specs.inner.Places.{entries}
use Rattle.json_reader.proofs.collapsing.comes_again.Given as goal

abbrev pub invariant-loop-place : goal.invariant-loop-place
invariant-loop-place l =
    list_any (bytes_eq l.name) (names_of (entries l.bytes l.places))
    ≡ list_any (bytes_eq l.name) (names_of (entries l.bytes (drop l.place-index l.places)))
