-- The element of a command that makes one is read as the element of the table with this id and kind.
use Rattle.std.proofs.Common.{◌≡◌, ◌<◌, ◌^◌, ◌+◌, ◌%◌, ◌∙◌, ℕ, List, [], ◌∷◌, ◌==◌, Bool, true, false, cond, None, Some, map, bytes_eq, codes, decimal, refl, sym, ap, subst, lit≤, lit<, inl, inr, IsUtf8}
use Rattle.std.specs.Cmp.Lexicographic.{nat_list_eq_equiv}
use Rattle.std.proofs.lemmas.Bool.{both_ways}
use Rattle.std.proofs.lemmas.Fmt.{decimal_digit}
use Rattle.std.proofs.lemmas.List.Sorted.{IsPermutation-refl}
use Rattle.std.proofs.lemmas.Map.Made.{IsDistinct-from_count}
use Rattle.std.proofs.lemmas.Option.{none-some}
use Rattle.json_text.specs.Characters.{quote}
use Rattle.json_text.specs.Compact.{Member as Pair, array_text, object_text}
use Rattle.json_text.specs.Parts.{AreMembers}
use Rattle.json_text.specs.Value.{IsCompact}
use Rattle.scene_json.specs.Named.{HaveRisingNames}
use Rattle.json_text.proofs.CallerLemmas.{bytes_eq-same, Value-deeper, object-compact, ascii-utf8}
use Rattle.scene_json.proofs.CallerLemmas.{rising_from, rising_none}
use Rattle.restore_table.specs.Merged.{merged}
use Rattle.restore_table.specs.Restored.{AreRestored}
use Rattle.restore_table.specs.Table.{defaults}
use Rattle.restore_table.proofs.CallerLemmas.{merged-rise, restored-from, defaults-rise}
use Rattle.elem.specs.ElementValue.{ElementValue}
use Rattle.elem.specs.Facts.{is_header, IsKind}
use Rattle.elem.specs.Forms.{find_in, IsTextOrNull, IsBindingOrNull, AreOthers}
use Rattle.elem.specs.Said.{IsOwn, Says, is_named}
use Rattle.elem.specs.Texts.{kind_name}
use Rattle.elem.specs.declared.kind.Kind.{Kind}
use Rattle.elem.specs.declared.kind.Kind.TheVariants as kinds
use Rattle.elem.proofs.CallerLemmas.{text-once, AreMembers-deeper}
use Rattle.elem_read.specs.Reading.{IsElementIn}
use Rattle.elem_read.proofs.CallerLemmas.{kept, kept-others}
use Rattle.workload.specs.Elements.{numbered_element, member_of, plain_rest}
use Rattle.workload.specs.Texts.{id_text, kind_of, numbered_element_members, numbered_element_text}
use Rattle.workload.proofs.IdLaws.{id-utf8, id-compact, word-compact}

-- the members, and the element, of a given kind
abbrev members_as : Kind → ℕ → List Pair
members_as kind number = (codes "id", id_text number) ∷ (codes "type", quote (kind_name kind)) ∷ []

abbrev all_as : Kind → ℕ → List Pair
all_as kind number = merged (members_as kind number) defaults

-- the members of a kind of its own are missing in all of them
record IsPlain (kind : Kind) : Type 0 where
  named : IsUtf8 (kind_name kind)
  known : IsKind kind
  apart : bytes_eq (kind_name kind) (codes "selection") ≡ false
  container : IsOwn (is_named (codes "text") kind) IsTextOrNull None None
  bound : IsOwn (is_named (codes "arrow") kind) IsBindingOrNull None None
  file : IsOwn (is_named (codes "image") kind) IsTextOrNull None None
  rest : (number : ℕ) → kept (is_header kind) (map member_of (all_as kind number)) ≡ plain_rest

plain-rectangle : IsPlain kinds.Rectangle
plain-rectangle = record {
  named = ascii-utf8 (codes "rectangle") refl;
  known = tt;
  apart = refl;
  container = refl;
  bound = refl;
  file = refl;
  rest = λ number. refl;
}

plain-ellipse : IsPlain kinds.Ellipse
plain-ellipse = record {
  named = ascii-utf8 (codes "ellipse") refl;
  known = tt;
  apart = refl;
  container = refl;
  bound = refl;
  file = refl;
  rest = λ number. refl;
}

plain-arrow : IsPlain kinds.Arrow
plain-arrow = record {
  named = ascii-utf8 (codes "arrow") refl;
  known = tt;
  apart = refl;
  container = refl;
  bound = inl (inl refl);
  file = refl;
  rest = λ number. refl;
}

plain-text : IsPlain kinds.Text
plain-text = record {
  named = ascii-utf8 (codes "text") refl;
  known = tt;
  apart = refl;
  container = inl refl;
  bound = refl;
  file = refl;
  rest = λ number. refl;
}

plain-frame : IsPlain kinds.Frame
plain-frame = record {
  named = ascii-utf8 (codes "frame") refl;
  known = tt;
  apart = refl;
  container = refl;
  bound = refl;
  file = refl;
  rest = λ number. refl;
}

-- the choice among five
chosen : (P : Kind → Type 0) (a b c d : Bool) (p q r s t : Kind) → P p → P q → P r → P s → P t
    → P (cond a p (cond b q (cond c r (cond d s t))))
chosen P true b c d p q r s t one two three four five = one
chosen P false true c d p q r s t one two three four five = two
chosen P false false true d p q r s t one two three four five = three
chosen P false false false true p q r s t one two three four five = four
chosen P false false false false p q r s t one two three four five = five

plain-of : (number : ℕ) → IsPlain (kind_of number)
plain-of number =
    chosen IsPlain (number % 5 == 0) (number % 5 == 1) (number % 5 == 2) (number % 5 == 3) kinds.Rectangle kinds.Ellipse
    kinds.Arrow kinds.Text kinds.Frame plain-rectangle
    plain-ellipse plain-arrow plain-text plain-frame

-- ---- the members
are-members : (kind : Kind) (number : ℕ) → number < 2 ^ 64 → IsPlain kind → AreMembers 0 (members_as kind number)
are-members kind number small plain = record {
  named = (ascii-utf8 (codes "id") refl, (ascii-utf8 (codes "type") refl, tt));
  valued = (id-compact number small, (word-compact (kind_name kind) plain.named, tt));
  distinct = IsDistinct-from_count nat_list_eq_equiv _ refl;
}

members-rise : (kind : Kind) (number : ℕ) → HaveRisingNames (members_as kind number)
members-rise kind number =
    rising_from (codes "id", id_text number) ((codes "type", quote (kind_name kind)) ∷ []) (refl, tt)
    (rising_from (codes "type", quote (kind_name kind)) [] tt rising_none)

-- with the defaults of the table
restored : (kind : Kind) (number : ℕ) → number < 2 ^ 64 → IsPlain kind
    → AreRestored (members_as kind number) (all_as kind number)
restored kind number small plain =
    let members = members_as kind number in
    restored-from members members members (all_as kind number)
    (record {
      ids = None;
      old = λ ids has. none-some _ has.named;
      distinct = (are-members kind number small plain).distinct;
      gone = refl;
      listing = refl;
      others = λ name not_old not_listing. refl;
    })
    (IsPermutation-refl members) (members-rise kind number) refl

-- what is no header member
rest-as : (kind : Kind) (number : ℕ) → IsPlain kind
    → AreOthers (is_header kind) (find_in (all_as kind number)) plain_rest
rest-as kind number plain =
    let all = all_as kind number in
    subst (AreOthers (is_header kind) (find_in all)) (plain.rest number)
    (kept-others (is_header kind) (map member_of all)
    (merged-rise (members_as kind number) defaults (members-rise kind number) defaults-rise))

-- ---- the element
abbrev drawn_as : Kind → ℕ → ElementValue
drawn_as kind number = record (numbered_element number) { kind = kind }

digit-found : (digit : ℕ) → digit < 10 → Some ((48 + digit) ∷ []) ≡ Some (decimal digit)
digit-found digit small = ap Some (sym (decimal_digit digit small))

says-as : (kind : Kind) (number : ℕ) → number < 2 ^ 64 → IsPlain kind
    → Says (find_in (all_as kind number)) (drawn_as kind number)
unfolding id_text array_text
says-as kind number small plain = record {
  id = ((id-utf8 number small, refl), λ e. cc);
  kind = ((plain.named, refl), plain.known);
  version = (lit≤ tt, digit-found 1 (lit< tt));
  nonce = (lit≤ tt, digit-found 0 (lit< tt));
  updated = (lit≤ tt, digit-found 0 (lit< tt));
  index = inl (inr refl);
  deleted = refl;
  groups = (tt, refl);
  frame = inr refl;
  bound = ([], tt, refl, refl);
  container = plain.container;
  start_binding = plain.bound;
  end_binding = plain.bound;
  file = plain.file;
  rest = rest-as kind number plain;
}

element-as : (kind : Kind) (number : ℕ) → number < 2 ^ 64 → IsPlain kind
    → IsElementIn (object_text (members_as kind number)) (drawn_as kind number)
element-as kind number small plain =
    let members = members_as kind number in
    let are = are-members kind number small plain in
    record {
      members = members;
      restored = all_as kind number;
      no_selection = record {
        object = record { are_members = AreMembers-deeper 0 127 members (lit≤ tt) are; spelled = refl };
        kind = λ selection.
            let same = text-once (Some (quote (kind_name kind))) (kind_name kind) (codes "selection") (
              plain.named,
              refl,
            ) (ascii-utf8 (codes "selection") refl, selection) in
            bytes_eq-differ (kind_name kind) (codes "selection") plain.apart same;
      };
      shallow = Value-deeper (lit≤ tt) (object-compact 0 members are);
      restores = restored kind number small plain;
      says = says-as kind number small plain;
    }
  where
    bytes_eq-differ : (a b : List ℕ) → bytes_eq a b ≡ false → a ≡ b → ⊥
    bytes_eq-differ a b other same = both_ways (bytes_eq a b) other (ap (λ x. bytes_eq x b) same ∙ bytes_eq-same b)

pub element-read : (number : ℕ) → number < 2 ^ 64 → IsElementIn (numbered_element_text number) (numbered_element number)
unfolding numbered_element_text
element-read number small = element-as (kind_of number) number small (plain-of number)

pub element-compact : (number : ℕ) → number < 2 ^ 64 → IsCompact 1 (numbered_element_text number)
unfolding numbered_element_text
element-compact number small =
    object-compact 0 (numbered_element_members number) (are-members (kind_of number) number small (plain-of number))
