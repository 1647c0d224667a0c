-- A living replica stores the best of what it took.
use Rattle.std.proofs.Common.{◌≡◌, ℕ, List, [], ◌∷◌, Option, Some, None, Result, Ok, Err, sym, ap, subst}
use Rattle.std.specs.Option.{IfSome}
use Rattle.elem.specs.ElementValue.{ElementValue}
use Rattle.elem.specs.Said.{AreElements}
use Rattle.elem_store.specs.Updates.{HaveSameUpdates}
use Rattle.elem_store.proofs.CallerLemmas.{stores-converge}
use Rattle.history.specs.declared.planned.Direction.{Direction}
use Rattle.history.specs.declared.planned.Direction.TheVariants as directions
use Rattle.undo_model.specs.Carrying.{taken_all}
use Rattle.replica.specs.State.{outcome_on, turn_on}
use Rattle.view.specs.Shown.{live_elements, shown}
use Rattle.session_text.specs.declared.fault.TextFault.{TextFault}
use Rattle.session_text.specs.declared.lines.Line.{Line}
use Rattle.session_text.specs.declared.lines.Line.TheVariants as lines
use Rattle.session_text.specs.declared.lines.Opening.{Opening}
use Rattle.room_msg.specs.declared.fault.MsgFault.{MsgFault}
use Rattle.room_msg.specs.declared.message.Message.{Message}
use Rattle.session.specs.Reports.{shown_at}
use Rattle.session.specs.Worlds.{Act, change_on, fresh, given_of, opening_elements, turn_by}
use Rattle.session.proofs.CallerLemmas.{StoresTaken, acted-stores, change-stored, delivered-stores, fresh-stores, turn_by-stored}
use Rattle.line_replica.specs.Living.{Living, Reply, IsReply, brought_by, command_text, nonce_of, of_act, of_read, of_taking, session_of, step_text, of_turn}
use Rattle.line_replica.specs.Talks.{Answers, AnswersAll, IsReadReply, opened_by}

abbrev pub LifeStores : Living → Type 0
LifeStores l = StoresTaken l.seat

-- ---- replies
abbrev ReplyStores : Reply → Type 0
ReplyStores reply = LifeStores reply.after

act-stores : (text : List ℕ) (act : Act) (l : Living) → act.state.stored
    ≡ taken_all (given_of act.outcome) l.seat.state.stored → LifeStores l → ReplyStores (of_act text act l)
act-stores text act l is stores = acted-stores l.seat act is stores

taking-stores : (elements : List ElementValue) (l : Living) → LifeStores l → ReplyStores (of_taking elements l)
taking-stores elements l stores = delivered-stores elements l.seat stores

read-stores : (read : Result Message MsgFault) (l : Living) → LifeStores l → ReplyStores (of_read read l)
read-stores (Ok message) l stores = taking-stores (brought_by message) l stores
read-stores (Err fault) l stores = stores

turn-stores : (direction : Direction) (time : ℕ) (l : Living) → LifeStores l → ReplyStores (of_turn direction time l)
turn-stores direction time l stores =
    act-stores (step_text (turn_on direction time (nonce_of l) l.seat.state))
    (turn_by direction time (nonce_of l) l.seat.state) l (turn_by-stored direction time (nonce_of l) l.seat.state)
    stores

pub reply-stores : (l : Living) (line : Line) (reply : Reply) → IsReply l line reply → LifeStores l → ReplyStores reply
reply-stores l (lines.Change time capture command) reply is stores =
    subst ReplyStores (sym is)
    (act-stores (command_text (outcome_on command time (nonce_of l) l.seat.state))
    (change_on command capture time (nonce_of l) l.seat.state) l
    (change-stored command capture time (nonce_of l) l.seat.state) stores)
reply-stores l (lines.Undo time) reply is stores =
    subst ReplyStores (sym is) (turn-stores directions.Undo time l stores)
reply-stores l (lines.Redo time) reply is stores =
    subst ReplyStores (sym is) (turn-stores directions.Redo time l stores)
reply-stores l (lines.Take elements) reply is stores = subst ReplyStores (sym is) (taking-stores elements l stores)
reply-stores l (lines.Receive text) reply (read, reads, is) stores =
    subst ReplyStores (sym is) (read-stores read l stores)
reply-stores l (lines.Hold id) reply is stores = subst ReplyStores (sym is) stores
reply-stores l (lines.Release id) reply is stores = subst ReplyStores (sym is) stores
reply-stores l lines.Scene reply is stores = subst ReplyStores (sym is) stores
reply-stores l lines.State reply is stores = subst ReplyStores (sym is) stores
reply-stores l (lines.Stored id) reply is stores = subst ReplyStores (sym is) stores
reply-stores l lines.Lengths reply is stores = subst ReplyStores (sym is) stores
reply-stores l lines.Pending reply is stores = subst ReplyStores (sym is) stores

read-reply-stores : (l : Living) (read : Result Line TextFault) (reply : Reply) → IsReadReply l read reply
    → LifeStores l → ReplyStores reply
read-reply-stores l (Ok line) reply is stores = reply-stores l line reply is stores
read-reply-stores l (Err fault) reply is stores = subst ReplyStores (sym is) stores

-- ---- lines
opened-stores : (read : Result Opening TextFault) → IfSome (opened_by read) LifeStores
opened-stores (Ok opening) = delivered-stores (opening_elements (session_of opening [])) fresh fresh-stores
opened-stores (Err fault) = tt

line-stores : (old : Option Living) (bytes text : List ℕ) (new : Option Living) → Answers old bytes text new
    → IfSome old LifeStores → IfSome new LifeStores
line-stores None bytes text new opens stores =
    subst (λ l. IfSome l LifeStores) (sym opens.after) (opened-stores opens.read)
line-stores (Some l) bytes text new goes stores =
    subst (λ m. IfSome m LifeStores) (sym goes.after) (read-reply-stores l goes.read goes.reply goes.is stores)

pub lines-store : (old : Option Living) (lines texts : List (List ℕ)) (new : Option Living)
    → AnswersAll old lines texts new → IfSome old LifeStores → IfSome new LifeStores
lines-store old [] texts new are stores = subst (λ l. IfSome l LifeStores) (sym are.1) stores
lines-store old (line ∷ lines) [] new are stores = absurd are
lines-store old (line ∷ lines) (text ∷ texts) new (middle, one, more) stores =
    lines-store middle lines texts new more (line-stores old line text middle one stores)

-- ---- two replicas
module _ (lines texts lines' texts' : List (List ℕ)) (l other : Living) (one : AnswersAll None lines texts (Some l))
    (two : AnswersAll None lines' texts' (Some other))
    (are : AreElements l.seat.taken) (same : HaveSameUpdates l.seat.taken other.seat.taken) where
  pub store-same : l.seat.state.stored ≡ other.seat.state.stored
  store-same =
      stores-converge l.seat.taken other.seat.taken l.seat.state.stored other.seat.state.stored same are
      (lines-store None lines texts (Some l) one tt) (lines-store None lines' texts' (Some other) two tt)

  pub show-same : shown_at l.seat ≡ shown_at other.seat
  show-same = ap (λ stored. shown (live_elements stored)) store-same
