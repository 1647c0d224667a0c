-- Each command of a drill is read as itself.
use Rattle.std.proofs.Common.{◌<◌, ◌^◌, ℕ, List, [], ◌∷◌, Some, Ok, codes, decimal, refl, arith, lit≤, IsUtf8}
use Rattle.std.specs.Cmp.Lexicographic.{nat_list_eq_equiv}
use Rattle.std.proofs.lemmas.Map.Made.{IsDistinct-from_count}
use Rattle.json_text.specs.Characters.{quote}
use Rattle.json_text.specs.Compact.{Member as Pair, array_text, object_text}
use Rattle.json_text.specs.Parts.{AreMembers}
use Rattle.json_text.specs.Value.{IsCompact}
use Rattle.json_text.proofs.CallerLemmas.{Value-deeper, array-compact, decimal_nests, object-compact, ascii-utf8}
use Rattle.json_text.specs.FirstOccurrences.{first_texts}
use Rattle.elem.specs.Forms.{IsText}
use Rattle.elem.proofs.CallerLemmas.{AreMembers-deeper}
use Rattle.board_commands.specs.declared.command.Side.{Side}
use Rattle.board_commands.specs.declared.command.Side.TheVariants as sides
use Rattle.board_commands.specs.declared.command.Spot.TheVariants as spots
use Rattle.session_text.specs.Commands.{CommandOf}
use Rattle.session_text.specs.Forms.{IsSpotAfter, IsRest, AreIds, HasObject, side_text}
use Rattle.session_text.specs.Reads.Then.{goes_on}
use Rattle.session_text.proofs.CallerLemmas.{create-said, set-said, delete-said, place-said, bind-said, label-said, frame-said, group-said}
use Rattle.workload.specs.Drills.{command_of}
use Rattle.workload.specs.Elements.{numbered_element}
use Rattle.workload.specs.Texts.{numbered_id, id_text, numbered_element_text, order_members, order_text}
use Rattle.workload.specs.declared.deed.Order.{Order}
use Rattle.workload.specs.declared.deed.Order.TheVariants.{Create, SetX, SetY, Place, Bind, Label, Frame, Group, Delete}
use Rattle.workload.proofs.ElementLaws.{element-read, element-compact}
use Rattle.workload.proofs.IdLaws.{id-utf8, id-compact, word-compact}

-- The numbers of a command fit.
abbrev pub IsSmall : Order → Type 0
IsSmall (Create element) = element < 200
IsSmall (SetX element value) = (element < 200) × (value < 200)
IsSmall (SetY element value) = (element < 200) × (value < 200)
IsSmall (Place element other) = (element < 200) × (other < 200)
IsSmall (Bind side element other) = (element < 200) × (other < 200)
IsSmall (Label element other) = (element < 200) × (other < 200)
IsSmall (Frame element other) = (element < 200) × (other < 200)
IsSmall (Group element other) = (element < 200) × (other < 200)
IsSmall (Delete element) = element < 200

fits : (number : ℕ) → number < 200 → number < 2 ^ 64
fits number small = omega arith

-- ---- forms of values
id-is : (number : ℕ) → number < 200 → IsText (Some (id_text number)) (numbered_id number)
unfolding id_text
id-is number small = (id-utf8 number (fits number small), refl)

one-id : (element : ℕ) → element < 200 → AreIds (Some (array_text (id_text element ∷ []))) (numbered_id element ∷ [])
unfolding id_text
one-id element small = (numbered_id element ∷ [], ((id-utf8 element (fits element small), tt), refl), refl)

two-ids : (element other : ℕ) → element < 200 → other < 200
    → AreIds (Some (array_text (id_text element ∷ id_text other ∷ [])))
    (first_texts (numbered_id element ∷ numbered_id other ∷ []))
unfolding id_text
two-ids element other one two = (
  numbered_id element ∷ numbered_id other ∷ [],
  ((id-utf8 element (fits element one), (id-utf8 other (fits other two), tt)), refl),
  refl,
)

-- ---- compact values
id-value : (number : ℕ) → number < 200 → IsCompact 1 (id_text number)
id-value number small = Value-deeper (lit≤ tt) (id-compact number (fits number small))

number-value : (number : ℕ) → number < 200 → IsCompact 1 (decimal number)
number-value number small = decimal_nests 1 number (fits number small)

word-value : (word : List ℕ) → IsUtf8 word → IsCompact 1 (quote word)
word-value word is = Value-deeper (lit≤ tt) (word-compact word is)

side-value : (side : Side) → IsCompact 1 (side_text side)
side-value sides.Start = word-value (codes "start") (ascii-utf8 (codes "start") refl)
side-value sides.End = word-value (codes "end") (ascii-utf8 (codes "end") refl)

one-value : (element : ℕ) → element < 200 → IsCompact 1 (array_text (id_text element ∷ []))
one-value element small = array-compact 0 (id_text element ∷ []) (id-compact element (fits element small), tt)

two-values : (element other : ℕ) → element < 200 → other < 200
    → IsCompact 1 (array_text (id_text element ∷ id_text other ∷ []))
two-values element other one two =
    array-compact 0 (id_text element ∷ id_text other ∷ []) (
      id-compact element (fits element one),
      (id-compact other (fits other two), tt),
    )

-- ---- the member `after` of a spot
after-are : (other : ℕ) → other < 200 → AreMembers 0 ((codes "after", id_text other) ∷ [])
after-are other small = record {
  named = (ascii-utf8 (codes "after") refl, tt);
  valued = (id-compact other (fits other small), tt);
  distinct = IsDistinct-from_count nat_list_eq_equiv _ refl;
}

after-is : (other : ℕ) → other < 200
    → IsSpotAfter (object_text ((codes "after", id_text other) ∷ [])) (numbered_id other)
after-is other small =
    let members : List Pair = (codes "after", id_text other) ∷ [] in (
      members,
      record {
        are_members = AreMembers-deeper 0 127 members (lit≤ tt) (after-are other small);
        spelled =
            refl;
      },
      id-is other small,
    )

none-are : AreMembers 0 []
none-are = record { named = tt; valued = tt; distinct = IsDistinct-from_count nat_list_eq_equiv _ refl }

no-rest : IsRest (Some (object_text [])) []
no-rest = (
  Value-deeper (lit≤ tt) (object-compact 0 [] none-are),
  (
    [],
    record { are_members = AreMembers-deeper 0 127 [] (lit≤ tt) none-are; spelled = refl },
    record { rise = refl; free = refl; same = λ name other. refl },
  ),
)

-- ---- the commands
order-are : (order : Order) → IsSmall order → AreMembers 1 (order_members order)
order-are (Create element) small = record {
  named = (ascii-utf8 (codes "name") refl, (ascii-utf8 (codes "element") refl, (ascii-utf8 (codes "spot") refl, tt)));
  valued = (
    word-value (codes "create") (ascii-utf8 (codes "create") refl),
    (element-compact element (fits element small), (word-value (codes "top") (ascii-utf8 (codes "top") refl), tt)),
  );
  distinct = IsDistinct-from_count nat_list_eq_equiv _ refl;
}
order-are (SetX element value) small = record {
  named = (
    ascii-utf8 (codes "name") refl,
    (ascii-utf8 (codes "id") refl, (ascii-utf8 (codes "member") refl, (ascii-utf8 (codes "value") refl, tt))),
  );
  valued = (
    word-value (codes "set") (ascii-utf8 (codes "set") refl),
    (
      id-value element small.0,
      (
        word-value (codes "x") (ascii-utf8 (codes "x") refl),
        (number-value value small.1, tt),
      ),
    ),
  );
  distinct = IsDistinct-from_count nat_list_eq_equiv _ refl;
}
order-are (SetY element value) small = record {
  named = (
    ascii-utf8 (codes "name") refl,
    (ascii-utf8 (codes "id") refl, (ascii-utf8 (codes "member") refl, (ascii-utf8 (codes "value") refl, tt))),
  );
  valued = (
    word-value (codes "set") (ascii-utf8 (codes "set") refl),
    (
      id-value element small.0,
      (
        word-value (codes "y") (ascii-utf8 (codes "y") refl),
        (number-value value small.1, tt),
      ),
    ),
  );
  distinct = IsDistinct-from_count nat_list_eq_equiv _ refl;
}
order-are (Place element other) small = record {
  named = (ascii-utf8 (codes "name") refl, (ascii-utf8 (codes "id") refl, (ascii-utf8 (codes "spot") refl, tt)));
  valued = (
    word-value (codes "place") (ascii-utf8 (codes "place") refl),
    (id-value element small.0, (object-compact 0 _ (after-are other small.1), tt)),
  );
  distinct = IsDistinct-from_count nat_list_eq_equiv _ refl;
}
order-are (Bind side element other) small = record {
  named = (
    ascii-utf8 (codes "name") refl,
    (
      ascii-utf8 (codes "arrow") refl,
      (
        ascii-utf8 (codes "end") refl,
        (ascii-utf8 (codes "target") refl, (ascii-utf8 (codes "binding") refl, tt)),
      ),
    ),
  );
  valued = (
    word-value (codes "bind") (ascii-utf8 (codes "bind") refl),
    (id-value element small.0, (side-value side, (id-value other small.1, (object-compact 0 [] none-are, tt)))),
  );
  distinct = IsDistinct-from_count nat_list_eq_equiv _ refl;
}
order-are (Label element other) small = record {
  named = (ascii-utf8 (codes "name") refl, (ascii-utf8 (codes "container") refl, (ascii-utf8 (codes "text") refl, tt)));
  valued = (
    word-value (codes "label") (ascii-utf8 (codes "label") refl),
    (id-value element small.0, (id-value other small.1, tt)),
  );
  distinct = IsDistinct-from_count nat_list_eq_equiv _ refl;
}
order-are (Frame element other) small = record {
  named = (ascii-utf8 (codes "name") refl, (ascii-utf8 (codes "ids") refl, (ascii-utf8 (codes "frame") refl, tt)));
  valued = (
    word-value (codes "frame") (ascii-utf8 (codes "frame") refl),
    (one-value element small.0, (id-value other small.1, tt)),
  );
  distinct = IsDistinct-from_count nat_list_eq_equiv _ refl;
}
order-are (Group element other) small = record {
  named = (ascii-utf8 (codes "name") refl, (ascii-utf8 (codes "ids") refl, (ascii-utf8 (codes "group") refl, tt)));
  valued = (
    word-value (codes "group") (ascii-utf8 (codes "group") refl),
    (two-values element other small.0 small.1, (word-value (codes "g") (ascii-utf8 (codes "g") refl), tt)),
  );
  distinct = IsDistinct-from_count nat_list_eq_equiv _ refl;
}
order-are (Delete element) small = record {
  named = (ascii-utf8 (codes "name") refl, (ascii-utf8 (codes "ids") refl, tt));
  valued = (word-value (codes "delete") (ascii-utf8 (codes "delete") refl), (one-value element small, tt));
  distinct = IsDistinct-from_count nat_list_eq_equiv _ refl;
}

order-says : (order : Order) → IsSmall order → CommandOf (order_members order) (Ok (command_of order))
order-says (Create element) small =
    create-said (order_members (Create element)) (numbered_element element) spots.Top refl
    (goes_on (numbered_element_text element) refl (element-read element (fits element small))) refl
order-says (SetX element value) small =
    set-said (order_members (SetX element value)) (numbered_id element) (codes "x") (decimal value) refl
    (id-is element small.0) (ascii-utf8 (codes "x") refl, refl)
    (refl, decimal_nests 100 value (fits value small.1))
order-says (SetY element value) small =
    set-said (order_members (SetY element value)) (numbered_id element) (codes "y") (decimal value) refl
    (id-is element small.0) (ascii-utf8 (codes "y") refl, refl)
    (refl, decimal_nests 100 value (fits value small.1))
order-says (Place element other) small =
    place-said (order_members (Place element other)) (numbered_id element) (spots.After (numbered_id other)) refl
    (id-is element small.0) (after-is other small.1)
order-says (Bind side element other) small =
    bind-said (order_members (Bind side element other)) (numbered_id element) side (numbered_id other) [] refl
    (id-is element small.0) refl (id-is other small.1) no-rest
order-says (Label element other) small =
    label-said (order_members (Label element other)) (numbered_id element) (numbered_id other) refl
    (id-is element small.0) (id-is other small.1)
order-says (Frame element other) small =
    frame-said (order_members (Frame element other)) (numbered_id element ∷ []) (numbered_id other) refl
    (one-id element small.0) (id-is other small.1)
order-says (Group element other) small =
    group-said (order_members (Group element other)) (first_texts (numbered_id element ∷ numbered_id other ∷ []))
    (codes "g") refl (two-ids element other small.0 small.1)
    (ascii-utf8 (codes "g") refl, refl)
order-says (Delete element) small =
    delete-said (order_members (Delete element)) (numbered_id element ∷ []) refl (one-id element small)

-- the command as the member of a change
pub order-read : (order : Order) → IsSmall order → HasObject (Some (order_text order)) (order_members order)
    × CommandOf (order_members order) (Ok (command_of order))
unfolding order_text
order-read order small = (
  (
    order_text order,
    refl,
    record {
      are_members =
          AreMembers-deeper 1 127 (order_members order) (lit≤ tt) (order-are order small);
      spelled = refl;
    },
  ),
  order-says order small,
)

pub order-compact : (order : Order) → IsSmall order → IsCompact 2 (order_text order)
unfolding order_text
order-compact order small = object-compact 1 (order_members order) (order-are order small)
