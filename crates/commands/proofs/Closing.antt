-- Which ends are left of a drill whose output doesn't fail, and of a room that is led to a close where no end fails.
use Rattle.std.proofs.Common.{◌≡◌, ◌⊎◌, inl, inr, ℕ, List, refl, subst, ap}
use Rattle.board_ends.specs.Counts.{Rose}
use Rattle.board_ends.specs.Ends.{LinksEnd, SinkEnd}
use Rattle.room_core.specs.Closing.{LeadToClose}
use Rattle.room_core.specs.Rooms.{RoomState}
use Rattle.room_core.specs.Serving.{at_start, IsServed}
use Rattle.room_core.specs.declared.limits.RoomLimits.{RoomLimits}
use Rattle.room_core.specs.declared.limits.ServeEnd.{ServeEnd}
use Rattle.room_core.specs.declared.limits.ServeEnd.TheVariants.{AllClosed, Idle as IdleEnd, LinkFault as LinkEnd, LinksFull, EventsFull, Memory as MemoryEnd}
use Rattle.scene_file.specs.declared.scene.Scene.{Scene}
use Rattle.commands.specs.Answers.{IsRefusal}
use Rattle.commands.specs.Closing.{NoneRose, LeadsToClose}
use Rattle.commands.specs.Ends.{Span, HasLeft, limit}
use Rattle.commands.specs.Faults.{status_of}
use Rattle.commands.specs.Input.{HasScenes}
use Rattle.commands.specs.Serving.{Ends, EndsServing, WasServed, WasInputRefused, end_status, room_of}
use Rattle.commands.specs.declared.status.Fault.{Fault}
use Rattle.commands.specs.declared.status.Fault.TheVariants as fault
use Rattle.commands.specs.declared.status.Status.{Status}
use Rattle.commands.specs.declared.status.Status.TheVariants as status
use Rattle.commands.specs.declared.words.Service.{Service}
use Rattle.commands.proofs.Given.{left-excludes, read-whole}
use Rattle.commands.proofs.Unique.{refusal-none}

-- a drill that ends with a fault
pub drilled-whole : (f : Fault) (before after : ℕ) → (f ≡ fault.Memory) ⊎ (f ≡ fault.Write)
    → (f ≡ fault.Write → Rose before after)
    → (Rose before after → ⊥) → (status_of f ≡ status.Done) ⊎ (status_of f ≡ status.Memory)
drilled-whole f before after (inl memory) write kept = inr (ap status_of memory)
drilled-whole f before after (inr wrote) write kept = absurd (kept (write wrote))

-- what room_core says of rooms that are led to a close
abbrev pub CloseSo : Type 0
CloseSo =
    (limits : RoomLimits) (room other new : RoomState) (before after : LinksEnd) (end : ServeEnd)
    → room.joined ≡ other.joined
    → LeadToClose limits (at_start room) before after → IsServed limits (at_start other) new before after end
    → (end ≡ AllClosed) ⊎ ((end ≡ MemoryEnd) ⊎ (end ≡ LinkEnd))

-- an end that a close, want of memory or a fault of the links gives
closed-status : (end : ServeEnd) → (end ≡ AllClosed) ⊎ ((end ≡ MemoryEnd) ⊎ (end ≡ LinkEnd))
    → end_status end ≡ status.Refused → ⊥
closed-status AllClosed closed is = cc
closed-status IdleEnd closed is = cc
closed-status LinkEnd closed is = cc
closed-status LinksFull (inl e) is = cc
closed-status LinksFull (inr (inl e)) is = cc
closed-status LinksFull (inr (inr e)) is = cc
closed-status EventsFull (inl e) is = cc
closed-status EventsFull (inr (inl e)) is = cc
closed-status EventsFull (inr (inr e)) is = cc
closed-status MemoryEnd closed is = cc

not-idle : (IdleEnd ≡ AllClosed) ⊎ ((IdleEnd ≡ MemoryEnd) ⊎ (IdleEnd ≡ LinkEnd)) → ⊥
not-idle (inl e) = cc
not-idle (inr (inl e)) = cc
not-idle (inr (inr e)) = cc

-- where no end fails and the links lead the room to a close
module _ (close : CloseSo) (service : Service) (ends : Ends) (notes : Span SinkEnd) (bytes : List ℕ)
    (scenes : List Scene)
    (left : HasLeft limit ends.input.before bytes) (has : HasScenes bytes scenes) (none : NoneRose ends)
    (leads : LeadsToClose service scenes ends.links) where
  -- how a room that was served then ended
  ended : (end : ServeEnd) (part : List ℕ → List ℕ) → WasServed service end ends part → (end ≡ AllClosed)
      ⊎ ((end ≡ MemoryEnd) ⊎ (end ≡ LinkEnd))
  ended end part was = close service.limits (room_of leads.begun.stored) (room_of was.room.begun.stored)
      was.room.held.last ends.links.before ends.links.after end refl leads.leads was.room.held.served

  not-refused : (found : Fault) → WasInputRefused found ends.input → ⊥
  not-refused fault.TooLong refused = left-excludes limit bytes ends.input.before ends.input.after left refused
  not-refused (fault.Refused found) (given, read, refused) =
      refusal-none bytes found scenes (subst (λ b. IsRefusal b found)
      (read-whole limit bytes given ends.input.before ends.input.after left read) refused) has
  not-refused fault.Memory refused = refused
  not-refused fault.Usage refused = refused
  not-refused fault.Read refused = refused
  not-refused fault.Write refused = refused

  pub served-whole : (result : Status) → EndsServing service ends notes result → (result ≡ status.Done)
      ⊎ (result ≡ status.Memory)
  served-whole status.Done was = inl refl
  served-whole status.Memory was = inr refl
  served-whole status.Usage was = absurd was
  served-whole status.Refused (inl (found, is, refused, noted)) = absurd (not-refused found refused)
  served-whole status.Refused (inr (end, is, was, noted)) = absurd (closed-status end (ended end _ was) is)
  served-whole status.ReadFault was = absurd (none.input was.0)
  served-whole status.WriteFault was = absurd (none.output was.0.1)
  served-whole status.LinkFault was = absurd (none.links was.1)
  served-whole status.Idle was = absurd (not-idle (ended IdleEnd _ was))
