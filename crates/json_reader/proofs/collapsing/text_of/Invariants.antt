use Rattle.std.proofs.Common.{◌≡◌, take}
use Rattle.json_reader.specs.inner.Places.{entries}
use Rattle.json_reader.proofs.Drafting.{commas}
use Rattle.json_reader.proofs.collapsing.text_of.Given as goal

abbrev pub invariant-loop-place : goal.invariant-loop-place
invariant-loop-place l = l.text.items ≡ commas (entries l.bytes (take l.place-index l.places))
