-- A durable room from its first record to its end.
use Rattle.std.proofs.Common.{◌≡◌, ℕ, ◌≤◌, ◌⊎◌, true, false, List, [], ◌∷◌, map, None, nat_le, All, refl, sym, subst, append-nil, arith}
use Rattle.std.proofs.lemmas.Bool.Decides.{nat_tests}
use Rattle.frac_keys.specs.Rising.{are_rising}
use Rattle.elem.specs.ElementValue.{ElementValue}
use Rattle.elem_read.specs.Reading.{IsWholeElement}
use Rattle.elem_store.specs.Updates.{ids_of}
use Rattle.board_ends.specs.Ends.{LinksEnd, SinkEnd, Took}
use Rattle.room_core.specs.Rooms.{RoomState}
use Rattle.room_core.specs.Serving.{at_start, end_of}
use Rattle.room_core.specs.Told.{Tells}
use Rattle.room_core.specs.declared.limits.RoomLimits.{RoomLimits}
use Rattle.room_core.proofs.CallerLemmas.{tells-twice}
use Rattle.scene_file.specs.Heads.{Heading}
use Rattle.scene_file.specs.Whole.{IsWholeHead, HaveKeys}
use Rattle.room_disk.specs.Keeping.{HasGained, IsKept, IsUnopened, ListenOnce, events_in, messages_heard, messages_told, tries_in}
use Rattle.room_disk.specs.Records.{bytes_of, opening_record, update_record}
use Rattle.room_disk.specs.Stops.{IsOpening}
use Rattle.room_disk.specs.declared.keep_end.KeepEnd.{KeepEnd}
use Rattle.room_disk.specs.declared.keep_end.KeepEnd.TheVariants.{JournalFault, Memory}
use Rattle.room_disk.specs.inner.KeptSteps.{IsKeptOn, message_bytes}
use Rattle.room_disk.proofs.Gains.{all-behind, gained-behind, safe-behind}
use Rattle.room_disk.proofs.KeptStops.{AreRecovered, account-answer, account-whole, unopened-answer}
use Rattle.room_disk.proofs.WholeLaws.{AreWholeRead}

-- a limit of at least 1 isn't met by nothing
unmet : (limit : ℕ) → 1 ≤ limit → nat_le limit 0 ≡ false
unmet limit least = grind (arith, nat_tests)

-- nothing ends a room before its first event
pub first-runs : (limits : RoomLimits) (room : RoomState) → 1 ≤ limits.events → 1 ≤ limits.idle
    → end_of limits (at_start room) ≡ None
first-runs limits room events idle = rw (unmet limits.events events, unmet limits.idle idle) refl

pub opening-of : (head : Heading) (stored : List ElementValue) → IsWholeHead head → All IsWholeElement stored
    → HaveKeys stored → are_rising (ids_of stored) ≡ true → IsOpening head stored
opening-of head stored whole each keys ordered =
    record { whole = whole; elements = each; keys = keys; ordered = ordered }

module _ (law : AreRecovered) (head : Heading) (room : RoomState) (opening : IsOpening head room.elements) where
  pub room-unopened : (links : LinksEnd) (ja jb : SinkEnd) (end : KeepEnd) → (end ≡ JournalFault) ⊎ (end ≡ Memory)
      → HasGained (opening_record head room.elements ∷ []) ja jb
      → IsUnopened head room room links links ja jb end
  room-unopened links ja jb end cause gained = record {
    cause = cause;
    room_same = refl;
    links_same = refl;
    gained = gained;
    stops = unopened-answer law head room.elements opening ja jb gained;
  }

  pub room-kept : AreWholeRead → (limits : RoomLimits) (port : ℕ) (new : RoomState)
      (links listening links_after : LinksEnd) (ja jb jc : SinkEnd) (end : KeepEnd)
      → Took ja jb (opening_record head room.elements) → Tells links listening [] []
      → ListenOnce port links links_after end
      → IsKeptOn limits (at_start room) 0 new listening links_after jb jc end
      → IsKept limits head port room new links links_after ja jc end
  room-kept read limits port new links listening links_after ja jb jc end took told listens kept =
      let account = kept.account in
      let stored = room.elements in
      let first = opening_record head stored in
      let records = map update_record (messages_heard account) in
      let whole : Took ja jb (bytes_of (first ∷ [])) = subst (Took ja jb) (sym (append-nil first)) took in
      let gained = gained-behind (first ∷ []) records ja jb jc whole kept.gained in
      record {
        account = account;
        is = kept.is;
        listens = listens;
        told = tells-twice links listening links_after [] (events_in account) [] (tries_in account) told kept.told;
        gained = gained;
        whole = λ sound. all-behind (first ∷ []) records ja jb jc whole (kept.whole sound);
        stops = account-answer law head stored opening account
            (account-whole read limits (at_start room) 0 new end account kept.is) ja jc gained
            (safe-behind ja jb jc first (message_bytes (messages_told account)) took kept.safe);
      }
