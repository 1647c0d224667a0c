-- What a link holds. This project's own.
use Rattle.std.specs.Prelude.{◌≤◌, ◌<◌, ℕ, List, length, slice_index_or}
use Rattle.ws_links.specs.inner.Sums.{capped, held_with}
use Rattle.ws_links.specs.declared.link.Link.{Link}
use Rattle.ws_links.specs.declared.mem.Mem.{Mem}

-- half of the room that the reader of a stream may have: for a frame, and for fragments
abbrev pub reader_half : Mem → ℕ
reader_half stream = capped stream.most stream.fragments

-- how many bytes of memory a link holds, each frame as if it stood there alone
abbrev pub held_by : Link → ℕ
held_by link =
    held_with link.reader.stream.input.room (reader_half link.reader.stream)
    (capped link.outbox.held link.outbox.replies.room)

-- no link holds more than the one at this index
pub record HoldsMost (links : List Link) (most : ℕ) : Type 0 where
  pub within : most < length links
  pub greatest : (at : ℕ) (link : Link) → at < length links
      → held_by (slice_index_or links at link) ≤ held_by (slice_index_or links most link)
