-- those of the elements so far that aren't deleted, and their places
use Rattle.std.proofs.Common.{◌≡◌, take}
use Rattle.clips.specs.Placed.{elements_in, places_in}
use Rattle.library.specs.Inserting.{live_of}
use Rattle.library.proofs.inserting.clip_of.Given as goal

abbrev pub invariant-loop-place : goal.invariant-loop-place
invariant-loop-place l = record {
  live : l.live.items ≡ elements_in (live_of (take l.place l.elements));
  places : l.places.items ≡ places_in (live_of (take l.place l.elements));
}
