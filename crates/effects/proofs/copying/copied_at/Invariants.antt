use Rattle.std.proofs.Common.{◌≡◌, ◌++◌, slice_get}
use Rattle.std.specs.List.{filter_map}
use Rattle.effects.proofs.copying.copied_at.Given as goal

abbrev pub invariant-loop-i : goal.invariant-loop-i
invariant-loop-i l =
    l.list.items ++ filter_map (slice_get l.elements) l.i-iterator ≡ filter_map (slice_get l.elements) l.places.keys
