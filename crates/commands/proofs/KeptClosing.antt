-- Which ends are left of a durable room that is led to a close where no end fails.
use Rattle.std.proofs.Common.{◌≡◌, ◌⊎◌, inl, inr, ℕ, List, refl, subst}
use Rattle.board_ends.specs.Ends.{LinksEnd, SinkEnd}
use Rattle.room_core.specs.Rooms.{RoomState}
use Rattle.room_core.specs.Serving.{at_start}
use Rattle.room_core.specs.declared.limits.RoomLimits.{RoomLimits}
use Rattle.room_disk.specs.Closing.{LeadToKeptClose}
use Rattle.room_disk.specs.Keeping.{IsKept}
use Rattle.room_disk.specs.declared.keep_end.KeepEnd.{KeepEnd}
use Rattle.room_disk.specs.declared.keep_end.KeepEnd.TheVariants.{AllClosed, Idle as IdleEnd, LinkFault as LinkEnd, LinksFull, EventsFull, JournalFault, Memory as MemoryEnd}
use Rattle.scene_file.specs.Heads.{Heading}
use Rattle.commands.specs.Closing.{NoneRose}
use Rattle.commands.specs.Ends.{Span, HasLeft}
use Rattle.commands.specs.Keeping.{BeginsWith, EndsKeeping, IsBeginsRefusal, WasBeginsRefused, WasKeptTo, kept_status, limit_from}
use Rattle.commands.specs.Serving.{Begun, Ends, room_of}
use Rattle.commands.specs.declared.status.Fault.{Fault}
use Rattle.commands.specs.declared.status.Fault.TheVariants as fault
use Rattle.commands.specs.declared.status.Status.{Status}
use Rattle.commands.specs.declared.status.Status.TheVariants as status
use Rattle.commands.specs.declared.words.Keeping.{Keeping}
use Rattle.commands.proofs.BegunRooms.{begins-sound}
use Rattle.commands.proofs.Given.{left-excludes, read-whole}

abbrev pub ClosedEnd : KeepEnd → Type 0
ClosedEnd end = (end ≡ AllClosed) ⊎ ((end ≡ MemoryEnd) ⊎ ((end ≡ LinkEnd) ⊎ (end ≡ JournalFault)))

-- what room_disk says of durable rooms that are led to a close
abbrev pub CloseKeptSo : Type 0
CloseKeptSo =
    (limits : RoomLimits) (head : Heading) (port : ℕ) (room other new : RoomState)
    (before after : LinksEnd) (journal journal_after : SinkEnd) (end : KeepEnd)
    → room.joined ≡ other.joined → LeadToKeptClose limits (at_start room) before after
    → IsKept limits head port other new before after journal journal_after end → ClosedEnd end

-- no such end is a refusal, or that of a room where nothing happens
closed-status : (end : KeepEnd) → ClosedEnd end → kept_status end ≡ status.Refused → ⊥
closed-status AllClosed closed is = cc
closed-status IdleEnd closed is = cc
closed-status LinkEnd closed is = cc
closed-status LinksFull (inl e) is = cc
closed-status LinksFull (inr (inl e)) is = cc
closed-status LinksFull (inr (inr (inl e))) is = cc
closed-status LinksFull (inr (inr (inr e))) is = cc
closed-status EventsFull (inl e) is = cc
closed-status EventsFull (inr (inl e)) is = cc
closed-status EventsFull (inr (inr (inl e))) is = cc
closed-status EventsFull (inr (inr (inr e))) is = cc
closed-status JournalFault closed is = cc
closed-status MemoryEnd closed is = cc

not-idle : ClosedEnd IdleEnd → ⊥
not-idle (inl e) = cc
not-idle (inr (inl e)) = cc
not-idle (inr (inr (inl e))) = cc
not-idle (inr (inr (inr e))) = cc

module _ (close : CloseKeptSo) (keeping : Keeping) (ends : Ends) (notes : Span SinkEnd) (bytes : List ℕ)
    (begun : Begun) (left : HasLeft (limit_from keeping.begins) ends.input.before bytes)
    (begins : BeginsWith keeping.begins bytes begun) (none : NoneRose ends)
    (leads : LeadToKeptClose keeping.limits (at_start (room_of begun.stored)) ends.links.before ends.links.after) where
  -- how a room that was kept then ended
  ended : (end : KeepEnd) → WasKeptTo keeping end ends → ClosedEnd end
  ended end was = elim was.kept [
    | inl unopened ↦ elim unopened.cause [
      | inl failed ↦ inr (inr (inr failed))
      | inr memory ↦ inr (inl memory)
    ]
    | inr kept ↦ close keeping.limits was.begun.head keeping.port (room_of begun.stored) (room_of was.begun.stored)
        was.last ends.links.before ends.links.after ends.output.before ends.output.after end refl leads kept
  ]

  not-refused : (found : Fault) → WasBeginsRefused keeping.begins found ends.input → ⊥
  not-refused fault.TooLong refused =
      left-excludes (limit_from keeping.begins) bytes ends.input.before ends.input.after left refused
  not-refused (fault.Refused found) (given, read, refused) =
      begins-sound keeping.begins bytes begun found begins (subst (λ b. IsBeginsRefusal keeping.begins b found)
      (read-whole (limit_from keeping.begins) bytes given ends.input.before ends.input.after left read) refused)
  not-refused fault.Memory refused = refused
  not-refused fault.Usage refused = refused
  not-refused fault.Read refused = refused
  not-refused fault.Write refused = refused

  pub kept-whole : (result : Status) → EndsKeeping keeping ends notes result → (result ≡ status.Done)
      ⊎ (result ≡ status.Memory)
  kept-whole status.Done was = inl refl
  kept-whole status.Memory was = inr refl
  kept-whole status.Usage was = absurd was
  kept-whole status.Refused (inl (found, is, refused, same, noted)) = absurd (not-refused found refused)
  kept-whole status.Refused (inr (end, is, was, noted)) = absurd (closed-status end (ended end was) is)
  kept-whole status.ReadFault was = absurd (none.input was.0)
  kept-whole status.WriteFault was = absurd (none.output (was.0.output_rose refl))
  kept-whole status.LinkFault was = absurd (none.links (was.0.link_rose refl))
  kept-whole status.Idle was = absurd (not-idle (ended IdleEnd was))
