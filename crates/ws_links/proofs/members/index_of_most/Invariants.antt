-- The links looked at hold no more than the one that holds most of them.
use Rattle.std.proofs.Common.{◌≡◌, ℕ, ◌<◌, ◌≤◌, length}
use Rattle.std.specs.Prelude.{slice_index_or}
use Rattle.ws_links.specs.declared.link.Link.{Link}
use Rattle.ws_links.specs.inner.Held.{held_by}
use Rattle.ws_links.proofs.members.index_of_most.Given as goal

abbrev pub invariant-loop-at : goal.invariant-loop-at
invariant-loop-at l = record {
  ended : l.at-end ≡ length l.links;
  within : 0 < length l.links → l.most < length l.links;
  greatest : (k : ℕ) (link : Link) → k < l.at
      → held_by (slice_index_or l.links k link) ≤ held_by (slice_index_or l.links l.most link);
}
