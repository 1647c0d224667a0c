-- The text of a message is read as that message.
use Rattle.std.proofs.Common.{◌≤◌, ℕ, List, [], ◌∷◌, Ok, All, IsUtf8, codes, map, refl, sym, subst, append-nil, lit≤}
use Rattle.std.specs.List.{AllByRecursion}
use Rattle.std.specs.Cmp.Lexicographic.{nat_list_eq_equiv}
use Rattle.std.proofs.lemmas.List.Elements.{recursion_from_All, All-map, All-weaker}
use Rattle.std.proofs.lemmas.Map.Made.{IsDistinct-from_count}
use Rattle.json_text.specs.Compact.{Member as Pair, array_text, object_text}
use Rattle.json_text.specs.Parts.{AreMembers}
use Rattle.json_text.specs.Value.{IsCompact}
use Rattle.json_text.proofs.CallerLemmas.{Value-deeper, quote-compact, array-compact, object-compact, ascii-utf8}
use Rattle.elem.specs.ElementValue.{ElementValue}
use Rattle.elem.specs.Texts.{element_text}
use Rattle.elem_read.specs.Reading.{IsWholeElement}
use Rattle.elem_read.proofs.CallerLemmas.{AreRead-texts}
use Rattle.room_msg.specs.Messages.{init_tag, update_tag, HasElements, StandsAlone, IsReadAs, IsWholeMessage}
use Rattle.room_msg.specs.Texts.{tagged_members, message_text}
use Rattle.room_msg.specs.declared.message.Message.{Message}
use Rattle.room_msg.specs.declared.message.Message.TheVariants.{Init, Update, Presence}

alone : (text : List ℕ) → IsCompact 128 text → StandsAlone text text
alone text compact = record {
  rest = [];
  stands = record { blank = []; value = text; parts = sym (append-nil text); space = refl; reads = compact; ends = tt };
  space = refl;
}

elements-compact : (limit : ℕ) (elements : List ElementValue) → 120 ≤ limit → All IsWholeElement elements
    → AllByRecursion (IsCompact limit) (map element_text elements)
elements-compact limit elements deep whole =
    recursion_from_All (IsCompact limit) (map element_text elements)
    (All-map (IsCompact limit) element_text elements (All-weaker IsWholeElement (λ e. IsCompact limit (element_text e))
    (λ e is. Value-deeper deep is.shallow) elements whole))

inner : List ElementValue → List Pair
inner elements = (codes "elements", array_text (map element_text elements)) ∷ []

inner-are : (limit : ℕ) (elements : List ElementValue) → 121 ≤ limit → All IsWholeElement elements
    → AreMembers limit (inner elements)
unfolding inner
inner-are limit elements deep whole = record {
  named = (ascii-utf8 (codes "elements") refl, tt);
  valued = (
    Value-deeper deep (array-compact 120 (map element_text elements)
        (elements-compact 120 elements (lit≤ tt) whole)),
    tt,
  );
  distinct = IsDistinct-from_count nat_list_eq_equiv _ refl;
}

tagged-are : (tag : List ℕ) (elements : List ElementValue) → IsUtf8 tag → All IsWholeElement elements
    → AreMembers 127 (tagged_members tag elements)
unfolding inner
tagged-are tag elements utf8 whole = record {
  named = (ascii-utf8 (codes "type") refl, (ascii-utf8 (codes "payload") refl, tt));
  valued = (
    quote-compact 127 tag utf8,
    (Value-deeper (lit≤ tt) (object-compact 121 (inner elements) (inner-are 121 elements (lit≤ tt) whole)), tt),
  );
  distinct = IsDistinct-from_count nat_list_eq_equiv _ refl;
}

has-elements : (tag : List ℕ) (elements : List ElementValue) → IsUtf8 tag → All IsWholeElement elements
    → HasElements (object_text (tagged_members tag elements)) tag elements
unfolding inner
has-elements tag elements utf8 whole = record {
  members = tagged_members tag elements;
  object = record { are_members = tagged-are tag elements utf8 whole; spelled = refl };
  tagged = (utf8, refl);
  values = map element_text elements;
  payload = record {
    payload = object_text (inner elements);
    others = inner elements;
    named = refl;
    object = record { are_members = inner-are 127 elements (lit≤ tt) whole; spelled = refl };
    compact = elements-compact 127 elements (lit≤ tt) whole;
    array = refl;
  };
  read = AreRead-texts elements whole;
}

tagged-alone : (tag : List ℕ) (elements : List ElementValue) → IsUtf8 tag → All IsWholeElement elements
    → StandsAlone (object_text (tagged_members tag elements)) (object_text (tagged_members tag elements))
tagged-alone tag elements utf8 whole =
    alone (object_text (tagged_members tag elements))
    (object-compact 127 (tagged_members tag elements) (tagged-are tag elements utf8 whole))

pub read-back : (message : Message) → IsWholeMessage message → IsReadAs (message_text message) (Ok message)
unfolding message_text
read-back (Init elements) whole =
    let utf8 = ascii-utf8 init_tag refl in (
      object_text (tagged_members init_tag elements),
      tagged-alone init_tag elements utf8 whole,
      has-elements init_tag elements utf8 whole,
    )
read-back (Update elements) whole =
    let utf8 = ascii-utf8 update_tag refl in (
      object_text (tagged_members update_tag elements),
      tagged-alone update_tag elements utf8 whole,
      has-elements update_tag elements utf8 whole,
    )
read-back (Presence value) is = (
  value,
  alone value (subst (IsCompact 128) (sym is.object.spelled)
      (object-compact 127 is.members is.object.are_members)),
  (refl, is),
)
