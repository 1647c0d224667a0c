-- Each text of a drill is read as its event, and the header as the header.
use Rattle.std.proofs.Common.{◌<◌, ◌≤◌, inl, inr, ℕ, ◌+◌, List, [], ◌∷◌, Some, None, Ok, map, codes, decimal, refl, sym, ap, arith, lit≤, lit<, IsUtf8}
use Rattle.std.specs.Cmp.Lexicographic.{nat_list_eq_equiv}
use Rattle.std.specs.List.{AllByRecursion}
use Rattle.std.proofs.lemmas.Fmt.{decimal_digit}
use Rattle.std.proofs.lemmas.Map.Made.{IsDistinct-from_count}
use Rattle.json_text.specs.Characters.{quote}
use Rattle.json_text.specs.Compact.{Member as Pair, object_text}
use Rattle.json_text.specs.Parts.{AreMembers}
use Rattle.json_text.specs.Tree.{null_word}
use Rattle.json_text.specs.Value.{IsCompact}
use Rattle.json_text.proofs.CallerLemmas.{Value-deeper, array-compact, decimal_nests, literal-compact, object-compact, ascii-utf8}
use Rattle.elem.specs.Facts.{greatest_whole}
use Rattle.elem.proofs.CallerLemmas.{AreMembers-deeper}
use Rattle.board_commands.specs.declared.command.Capture.{Capture}
use Rattle.board_commands.specs.declared.command.Capture.TheVariants as captures
use Rattle.session_text.specs.Events.{EventOf, EventText, HeaderText, header}
use Rattle.session_text.specs.Forms.{IsFrom, ArePicks, capture_text}
use Rattle.session_text.specs.Reads.Then.{goes_on}
use Rattle.session_text.specs.declared.event.Event.{Event}
use Rattle.session_text.specs.declared.event.Pick.TheVariants.{All}
use Rattle.session_text.proofs.CallerLemmas.{change-said, undo-said, redo-said, deliver-said}
use Rattle.workload.specs.Drills.{command_of, delivery, event_of}
use Rattle.workload.specs.Texts.{change_members, step_members, delivery_members, delivery_text, deed_text, session_header_members, session_header_text, order_members}
use Rattle.workload.specs.declared.deed.Deed.{Deed}
use Rattle.workload.specs.declared.deed.Deed.TheVariants.{Change, Undo, Redo, Deliver}
use Rattle.workload.specs.declared.deed.Order.{Order}
use Rattle.workload.proofs.IdLaws.{digit-compact, word-compact}
use Rattle.workload.proofs.OrderLaws.{IsSmall, order-read, order-compact}

-- A text is compact, and is read as this event where so many messages were made before.
pub record IsLine (made : ℕ) (text : List ℕ) (event : Event) : Type 0 where
  pub compact : IsCompact 128 text
  pub says : EventText 4 made text (Ok event)

line-of : (made limit : ℕ) (members : List Pair) (event : Event) → limit ≤ 127 → AreMembers limit members
    → EventOf 4 made members (Ok event) → IsLine made (object_text members) event
line-of made limit members event few are says = record {
  compact = Value-deeper (omega arith) (object-compact limit members are);
  says = goes_on members (record { are_members = AreMembers-deeper limit 127 members few are; spelled = refl }) says;
}

-- ---- values
number-value : (limit number : ℕ) → number ≤ greatest_whole → IsCompact limit (decimal number)
number-value limit number small = decimal_nests limit number (omega arith)

word-value : (limit : ℕ) (word : List ℕ) → IsUtf8 word → IsCompact limit (quote word)
word-value limit word is = Value-deeper (omega arith) (word-compact word is)

capture-value : (limit : ℕ) (capture : Capture) → IsCompact limit (capture_text capture)
capture-value limit captures.Now = word-value limit (codes "now") (ascii-utf8 (codes "now") refl)
capture-value limit captures.Later = word-value limit (codes "later") (ascii-utf8 (codes "later") refl)
capture-value limit captures.Never = word-value limit (codes "never") (ascii-utf8 (codes "never") refl)

at-is : (limit number : ℕ) → number < limit → limit ≤ greatest_whole → IsFrom 0 limit (Some (decimal number)) number
at-is limit number below most = ((omega arith, refl), omega arith, below)

-- ---- a change
change-are : (at time : ℕ) (capture : Capture) (order : Order) → at < 4 → time ≤ greatest_whole → IsSmall order
    → AreMembers 2 (change_members at time capture order)
change-are at time capture order place soon small = record {
  named = (
    ascii-utf8 (codes "do") refl,
    (
      ascii-utf8 (codes "at") refl,
      (ascii-utf8 (codes "time") refl, (ascii-utf8 (codes "capture") refl, (ascii-utf8 (codes "command") refl, tt))),
    ),
  );
  valued = (
    word-value 2 (codes "change") (ascii-utf8 (codes "change") refl),
    (
      number-value 2 at (omega arith),
      (
        number-value 2 time soon,
        (capture-value 2 capture, (order-compact order small, tt)),
      ),
    ),
  );
  distinct = IsDistinct-from_count nat_list_eq_equiv _ refl;
}

change-line : (made at time : ℕ) (capture : Capture) (order : Order) → at < 4 → time ≤ greatest_whole → IsSmall order
    → IsLine made (deed_text (Change at time capture order)) (event_of (Change at time capture order))
change-line made at time capture order place soon small =
    let command = order-read order small in
    line-of made 2 (change_members at time capture order) (event_of (Change at time capture order)) (lit≤ tt)
    (change-are at time capture order place soon small)
    (change-said 4 made (change_members at time capture order) at time capture (command_of order) refl
    (goes_on at (at-is 4 at place (lit≤ tt)) (goes_on time (soon, refl) refl)) refl
    (goes_on (order_members order) command.0 command.1))

-- ---- an undo and a redo
step-are : (word : List ℕ) (at time : ℕ) → IsUtf8 word → at < 4 → time ≤ greatest_whole
    → AreMembers 0 (step_members word at time)
step-are word at time is place soon = record {
  named = (ascii-utf8 (codes "do") refl, (ascii-utf8 (codes "at") refl, (ascii-utf8 (codes "time") refl, tt)));
  valued = (word-value 0 word is, (number-value 0 at (omega arith), (number-value 0 time soon, tt)));
  distinct = IsDistinct-from_count nat_list_eq_equiv _ refl;
}

undo-line : (made at time : ℕ) → at < 4 → time ≤ greatest_whole
    → IsLine made (deed_text (Undo at time)) (event_of (Undo at time))
undo-line made at time place soon =
    line-of made 0 (step_members (codes "undo") at time) (event_of (Undo at time)) (lit≤ tt)
    (step-are (codes "undo") at time (ascii-utf8 (codes "undo") refl) place soon)
    (undo-said 4 made (step_members (codes "undo") at time) at time refl
    (goes_on at (at-is 4 at place (lit≤ tt)) (goes_on time (soon, refl) refl)))

redo-line : (made at time : ℕ) → at < 4 → time ≤ greatest_whole
    → IsLine made (deed_text (Redo at time)) (event_of (Redo at time))
redo-line made at time place soon =
    line-of made 0 (step_members (codes "redo") at time) (event_of (Redo at time)) (lit≤ tt)
    (step-are (codes "redo") at time (ascii-utf8 (codes "redo") refl) place soon)
    (redo-said 4 made (step_members (codes "redo") at time) at time refl
    (goes_on at (at-is 4 at place (lit≤ tt)) (goes_on time (soon, refl) refl)))

-- ---- a delivery
numbers-compact : (limit made : ℕ) (messages : List ℕ) → made ≤ greatest_whole
    → AllByRecursion (λ message. message < made) messages → AllByRecursion (IsCompact limit) (map decimal messages)
numbers-compact limit made [] most below = tt
numbers-compact limit made (message ∷ messages) most (first, others) =
    (number-value limit message (omega arith), numbers-compact limit made messages most others)

are-picks : (made : ℕ) (messages : List ℕ) → made ≤ greatest_whole → AllByRecursion (λ message. message < made) messages
    → ArePicks made (map decimal messages) (map All messages)
are-picks made [] most below = refl
are-picks made (message ∷ messages) most (first, others) =
    (All message, map All messages, refl, at-is made message first most, are-picks made messages most others)

delivery-are : (made to : ℕ) (messages : List ℕ) → to < 4 → made ≤ greatest_whole
    → AllByRecursion (λ message. message < made) messages → AreMembers 1 (delivery_members to messages)
delivery-are made to messages place most below = record {
  named = (ascii-utf8 (codes "do") refl, (ascii-utf8 (codes "to") refl, (ascii-utf8 (codes "picks") refl, tt)));
  valued = (
    word-value 1 (codes "deliver") (ascii-utf8 (codes "deliver") refl),
    (
      number-value 1 to (omega arith),
      (array-compact 0 (map decimal messages) (numbers-compact 0 made messages most below), tt),
    ),
  );
  distinct = IsDistinct-from_count nat_list_eq_equiv _ refl;
}

pub delivery-line : (made to : ℕ) (messages : List ℕ) → to < 4 → made ≤ greatest_whole
    → AllByRecursion (λ message. message < made) messages
    → IsLine made (delivery_text to messages) (delivery to messages)
unfolding delivery_text
delivery-line made to messages place most below =
    line-of made 1 (delivery_members to messages) (delivery to messages) (lit≤ tt)
    (delivery-are made to messages place most below)
    (deliver-said 4 made (delivery_members to messages) to (map All messages) refl (at-is 4 to place (lit≤ tt))
    (map decimal messages, (numbers-compact 127 made messages most below, refl), are-picks made messages most below))

-- ---- an event
-- Its numbers are within their limits, and it delivers messages that are made.
abbrev pub IsFine : ℕ → Deed → Type 0
IsFine made (Change at time capture order) = (at < 4) × (time ≤ greatest_whole) × IsSmall order
IsFine made (Undo at time) = (at < 4) × (time ≤ greatest_whole)
IsFine made (Redo at time) = (at < 4) × (time ≤ greatest_whole)
IsFine made (Deliver to first last) = (to < 4) × (first < made) × (last < made)

pub deed-line : (made : ℕ) (deed : Deed) → made ≤ greatest_whole → IsFine made deed
    → IsLine made (deed_text deed) (event_of deed)
deed-line made (Change at time capture order) most (place, soon, small) =
    change-line made at time capture order place soon small
deed-line made (Undo at time) most (place, soon) = undo-line made at time place soon
deed-line made (Redo at time) most (place, soon) = redo-line made at time place soon
deed-line made (Deliver to first last) most (place, one, two) =
    delivery-line made to (first ∷ last ∷ []) place most (one, (two, tt))

-- ---- the header
header-are : (seed : ℕ) → seed ≤ greatest_whole → AreMembers 0 (session_header_members seed)
header-are seed small = record {
  named = (
    ascii-utf8 (codes "session") refl,
    (ascii-utf8 (codes "replicas") refl, (ascii-utf8 (codes "seed") refl, (ascii-utf8 (codes "scene") refl, tt))),
  );
  valued = (
    digit-compact 1 (lit< tt),
    (digit-compact 4 (lit< tt), (number-value 0 seed small, (literal-compact 0 null_word (inr (inl refl)), tt))),
  );
  distinct = IsDistinct-from_count nat_list_eq_equiv _ refl;
}

digit-is : (least limit digit : ℕ) → least ≤ digit → digit < limit → digit < 10
    → IsFrom least limit (Some ((48 + digit) ∷ [])) digit
digit-is least limit digit from below small = ((omega arith, ap Some (sym (decimal_digit digit small))), from, below)

pub header-compact : (seed : ℕ) → seed ≤ greatest_whole → IsCompact 128 (session_header_text seed)
unfolding session_header_text
header-compact seed small =
    Value-deeper (lit≤ tt) (object-compact 0 (session_header_members seed) (header-are seed small))

pub header-says : (seed : ℕ) → seed ≤ greatest_whole → HeaderText (session_header_text seed) (Ok (header 4 seed None))
unfolding session_header_text
header-says seed small =
    goes_on (session_header_members seed)
    (record {
      are_members = AreMembers-deeper 0 127 (session_header_members seed) (lit≤ tt) (header-are seed small);
      spelled = refl;
    })
    (goes_on 1 (digit-is 1 2 1 (lit≤ tt) (lit< tt) (lit< tt))
    (goes_on 4 (digit-is 1 65 4 (lit≤ tt) (lit< tt) (lit< tt))
    (goes_on seed (small, refl)
    (goes_on None refl refl))))
