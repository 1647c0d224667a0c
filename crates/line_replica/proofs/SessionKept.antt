-- The events that lines are keep to what holds of every session.
use Rattle.std.proofs.Common.{◌<◌, ◌+◌, ◌≤◌, ℕ, List, [], ◌∷◌, ◌++◌, length, Result, Ok, Err, sym, subst, arith}
use Rattle.std.specs.List.{AllByRecursion}
use Rattle.std.proofs.lemmas.List.Elements.{All-nil}
use Rattle.elem.specs.ElementValue.{ElementValue}
use Rattle.elem.specs.Facts.{IsElement}
use Rattle.elem.specs.Said.{AreElements, HasValidTexts}
use Rattle.elem.proofs.CallerLemmas.{AllByRecursion-append}
use Rattle.room_msg.specs.Messages.{IsReadAs, IsWholeMessage}
use Rattle.room_msg.specs.declared.fault.MsgFault.{MsgFault}
use Rattle.room_msg.specs.declared.message.Message.{Message}
use Rattle.room_msg.specs.declared.message.Message.TheVariants as messages
use Rattle.session_text.specs.Facts.{BringsElements, IsAmong, IsEventWithinLimits, IsSession, PickMade}
use Rattle.session_text.specs.Lines.{IsLineWithinLimits, IsReplicaOpening, LineBringsElements, LineText}
use Rattle.session_text.specs.Sessions.{made_after, messages_of, most_events}
use Rattle.session_text.specs.declared.event.Event.{Event}
use Rattle.session_text.specs.declared.fault.TextFault.{TextFault}
use Rattle.session_text.specs.declared.fault.TextFault.TheVariants.{Json}
use Rattle.session_text.specs.declared.lines.Line.{Line}
use Rattle.session_text.specs.declared.lines.Line.TheVariants as lines
use Rattle.session_text.specs.declared.lines.Opening.{Opening}
use Rattle.session_text.proofs.CallerLemmas.{apart, line-brings, line-within, whole-elements}
use Rattle.line_replica.specs.Living.{brought_by, session_of}
use Rattle.line_replica.specs.Sessions.{AreEventsOf, AreReadEvents, SayEvents, message_events, taking_events}
use Rattle.line_replica.specs.Talks.{LineReads, faulty, says}

-- They are at one of 64 replicas, within their limits, bring elements, and pick of messages that are made.
record Keep (made : ℕ) (es : List Event) : Type 0 where
  places : AllByRecursion (IsAmong 64) es
  limits : AllByRecursion IsEventWithinLimits es
  brings : AllByRecursion BringsElements es
  picks : PickMade made es

none-keep : (made : ℕ) → Keep made []
none-keep made = record { places = tt; limits = tt; brings = tt; picks = tt }

joined-picks : (made : ℕ) (xs ys : List Event) → PickMade made xs → PickMade (made_after made xs) ys
    → PickMade made (xs ++ ys)
joined-picks made [] ys picks others = others
joined-picks made (x ∷ xs) ys picks others = (picks.0, joined-picks (made + messages_of x) xs ys picks.1 others)

joined-keep : (made : ℕ) (xs ys : List Event) → Keep made xs → Keep (made_after made xs) ys → Keep made (xs ++ ys)
joined-keep made xs ys one two = record {
  places = AllByRecursion-append (IsAmong 64) xs ys one.places two.places;
  limits = AllByRecursion-append IsEventWithinLimits xs ys one.limits two.limits;
  brings = AllByRecursion-append BringsElements xs ys one.brings two.brings;
  picks = joined-picks made xs ys one.picks two.picks;
}

-- ---- what a message brings

brought-are : (message : Message) → IsWholeMessage message → AreElements (brought_by message)
brought-are (messages.Init elements) whole = whole-elements elements whole
brought-are (messages.Update elements) whole = whole-elements elements whole
brought-are (messages.Presence value) whole = All-nil (λ e. IsElement e × HasValidTexts e)

-- ---- a line
module _ (number : ℕ) (few : number < 64) (whole : (text : List ℕ) (message : Message) → IsReadAs text (Ok message)
    → IsWholeMessage message) where
  taking-keep : (made : ℕ) (elements : List ElementValue) → AreElements elements
      → Keep made (taking_events number made elements)
  taking-keep made elements are = record {
    places = (tt, (few, tt));
    limits = (tt, (tt, tt));
    brings = (are, (tt, tt));
    picks = (tt, ((omega arith, tt), tt));
  }

  message-keep : (made : ℕ) (text : List ℕ) (read : Result Message MsgFault) → IsReadAs text read
      → Keep made (message_events number made read)
  message-keep made text (Ok message) is =
      taking-keep made (brought_by message) (brought-are message (whole text message is))
  message-keep made text (Err fault) is = none-keep made

  line-keep : (made : ℕ) (line : Line) (es : List Event) → IsLineWithinLimits line → LineBringsElements line
      → AreEventsOf number made line es → Keep made es
  line-keep made (lines.Change time capture command) es within brings is =
      subst (Keep made) (sym is) (record {
        places = (few, tt);
        limits = (within, tt);
        brings = (brings, tt);
        picks =
            (tt, tt);
      })
  line-keep made (lines.Undo time) es within brings is =
      subst (Keep made) (sym is) (record {
        places = (few, tt);
        limits = (within, tt);
        brings = (tt, tt);
        picks =
            (tt, tt);
      })
  line-keep made (lines.Redo time) es within brings is =
      subst (Keep made) (sym is) (record {
        places = (few, tt);
        limits = (within, tt);
        brings = (tt, tt);
        picks =
            (tt, tt);
      })
  line-keep made (lines.Take elements) es within brings is =
      subst (Keep made) (sym is) (taking-keep made elements brings)
  line-keep made (lines.Receive text) es within brings (read, reads, is) =
      subst (Keep made) (sym is) (message-keep made text read reads)
  line-keep made (lines.Hold id) es within brings is =
      subst (Keep made) (sym is) (record { places = (few, tt); limits = (tt, tt); brings = (tt, tt); picks = (tt, tt) })
  line-keep made (lines.Release id) es within brings is =
      subst (Keep made) (sym is) (record { places = (few, tt); limits = (tt, tt); brings = (tt, tt); picks = (tt, tt) })
  line-keep made lines.Scene es within brings is = subst (Keep made) (sym is) (none-keep made)
  line-keep made lines.State es within brings is = subst (Keep made) (sym is) (none-keep made)
  line-keep made (lines.Stored id) es within brings is = subst (Keep made) (sym is) (none-keep made)
  line-keep made lines.Lengths es within brings is = subst (Keep made) (sym is) (none-keep made)
  line-keep made lines.Pending es within brings is = subst (Keep made) (sym is) (none-keep made)

  bytes-keep : (made : ℕ) (bytes : List ℕ) (read : Result Line TextFault) (es : List Event)
      → LineReads LineText bytes read → AreReadEvents number made read es → Keep made es
  bytes-keep made bytes (Ok line) es (says text alone is) are =
      line-keep made line es (line-within text line is) (line-brings text line is) are
  bytes-keep made bytes (Ok line) es (faulty fault is e) are = absurd (apart line (Json fault) e)
  bytes-keep made bytes (Err fault) es reads are = subst (Keep made) (sym are) (none-keep made)

  -- ---- several lines
  lines-keep : (made : ℕ) (lines : List (List ℕ)) (es : List Event) → SayEvents number made lines es → Keep made es
  lines-keep made [] es say = subst (Keep made) (sym say) (none-keep made)
  lines-keep made (bytes ∷ lines) es (read, first, others, reads, are, is, more) =
      subst (Keep made) (sym is) (joined-keep made first others (bytes-keep made bytes read first reads are)
      (lines-keep (made_after made first) lines others more))

pub keeps-session : (opening : Opening) → IsReplicaOpening opening
    → ((text : List ℕ) (message : Message) → IsReadAs text (Ok message) → IsWholeMessage message)
    → (lines : List (List ℕ)) (es : List Event) → SayEvents opening.number 0 lines es → length es ≤ most_events
    → IsSession (session_of opening es)
keeps-session opening is whole lines es say few =
    let keep = lines-keep opening.number is.number whole 0 lines es say in
    record {
      some = omega arith;
      most = omega arith;
      seed = is.seed;
      keys = is.keys;
      elements = is.elements;
      few = few;
      places = keep.places;
      limits = keep.limits;
      brings = keep.brings;
      picks = keep.picks;
    }
