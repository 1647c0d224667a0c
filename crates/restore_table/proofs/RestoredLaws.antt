-- Restored members.
use Rattle.std.proofs.Common.{◌≡◌, ◌≢◌, ℕ, List, [], ◌∷◌, false, Option, Some, None, bytes_eq, map, refl, sym, subst, ap, ◌∙◌, inl, inr}
use Rattle.std.specs.List.{IsDistinct}
use Rattle.std.specs.List.Sorted.{IsPermutation}
use Rattle.std.proofs.lemmas.Bool.{both_ways, cases_Bool, cond-true, cond-false}
use Rattle.std.proofs.lemmas.List.Sorted.{IsPermutation-map}
use Rattle.std.proofs.lemmas.Option.{none-some}
use Rattle.json_text.specs.Characters.{quote}
use Rattle.json_text.specs.Compact.{Member as Pair, array_text}
use Rattle.json_text.specs.Members.{pairs, pair_of}
use Rattle.json_text.specs.Parts.{names_of}
use Rattle.json_text.specs.Tree.{null_word}
use Rattle.json_text.specs.declared.text.Member.{Member}
use Rattle.scene_json.specs.Named.{value_at, AreSameMembers, HaveRisingNames}
use Rattle.scene_json.specs.TheOne.{IsTheOne}
use Rattle.json_text.proofs.CallerLemmas.{bytes_eq-true, bytes_eq-same, bytes_eq-apart}
use Rattle.scene_json.proofs.CallerLemmas.{distinct_moved, names-pairs, rising_parts, same_moved, rising_same}
use Rattle.restore_table.specs.Merged.{merged}
use Rattle.restore_table.specs.inner.Merged.{AreUpdated, IsWhole, listing_over}
use Rattle.restore_table.specs.Restored.{filled, filled_at, AreRestored, HasOldListing, LackNothing, listing_at, listing_text, listing_name, old_name}
use Rattle.restore_table.specs.Table.{defaults}
use Rattle.restore_table.proofs.Listings.{updated-none}
use Rattle.restore_table.proofs.Merging.{merged-at, merged-rise}
use Rattle.restore_table.proofs.Rows.{defaults-rise, defaults-old}

-- ---- a value and its default
filled-given : (d : Option (List ℕ)) (value : List ℕ) → value ≢ null_word → filled d (Some value) ≡ Some value
filled-given None value given = refl
filled-given (Some default) value given =
    cond-false (bytes_eq value null_word) (Some default) (Some value) (bytes_eq-apart value null_word given)

filled-null : (default value : List ℕ) → value ≡ null_word → filled (Some default) (Some value) ≡ Some default
filled-null default value null =
    cond-true (bytes_eq value null_word) (Some default) (Some value) (ap (λ v. bytes_eq v null_word) null
    ∙ bytes_eq-same null_word)

-- a value that is null only if its default is
record IsFull (default : List ℕ) (found : Option (List ℕ)) : Type 0 where
  value : List ℕ
  found_is : found ≡ Some value
  full : value ≡ null_word → default ≡ null_word

filled-IsFull : (default : List ℕ) (given : Option (List ℕ)) → IsFull default (filled (Some default) given)
filled-IsFull default None = record { value = default; found_is = refl; full = λ e. e }
filled-IsFull default (Some value) = elim (cases_Bool (bytes_eq value null_word)) [
  | inl e ↦ record {
    value = default;
    found_is = cond-true (bytes_eq value null_word) (Some default) (Some value) e;
    full = λ e. e;
  }
  | inr e ↦ record {
    value = value;
    found_is = cond-false (bytes_eq value null_word) (Some default) (Some value) e;
    full = λ null. absurd (both_ways (bytes_eq value null_word) e (ap (λ v. bytes_eq v null_word) null
        ∙ bytes_eq-same null_word));
  }
]

full-filled : (default : List ℕ) (given : Option (List ℕ)) → IsFull default given → filled (Some default) given ≡ given
full-filled default given full = elim (cases_Bool (bytes_eq full.value null_word)) [
  | inl e ↦
      let null = bytes_eq-true full.value null_word e in
      ap (filled (Some default)) full.found_is
      ∙ (filled-null default full.value null ∙ (ap Some (full.full null ∙ sym null) ∙ sym full.found_is))
  | inr e ↦
      let given' : full.value ≢ null_word =
      λ null. both_ways (bytes_eq full.value null_word) e (ap (λ v. bytes_eq v null_word) null
      ∙ bytes_eq-same null_word) in
      ap (filled (Some default)) full.found_is ∙ (filled-given (Some default) full.value given' ∙ sym full.found_is)
]

listing-given : (ids : List (List ℕ)) → listing_text ids ≢ null_word
unfolding array_text
listing-given ids e =
    both_ways (bytes_eq (listing_text ids) null_word) refl (ap (λ v. bytes_eq v null_word) e ∙ bytes_eq-same null_word)

-- the listing is filled in already
filled-listing : (ids : Option (List (List ℕ))) (members : List Pair) → IsFull (91 ∷ 93 ∷ []) (listing_at ids members)
filled-listing (Some ids) members =
    record { value = listing_text ids; found_is = refl; full = λ null. absurd (listing-given ids null) }
filled-listing None members = filled-IsFull (91 ∷ 93 ∷ []) (value_at listing_name members)

-- ---- look-ups name by name
apart : (a b : List ℕ) → bytes_eq a b ≡ false → a ≢ b
apart a b h e = both_ways (bytes_eq a b) h (ap (λ x. bytes_eq x b) e ∙ bytes_eq-same b)

by_name : (rs ss : List Pair) → value_at old_name rs ≡ value_at old_name ss
    → value_at listing_name rs ≡ value_at listing_name ss →
    ((name : List ℕ) → name ≢ old_name → name ≢ listing_name → value_at name rs ≡ value_at name ss)
    → AreSameMembers rs ss
by_name rs ss old listing others name = elim (cases_Bool (bytes_eq name old_name)) [
  | inl e ↦ subst (λ n. value_at n rs ≡ value_at n ss) (sym (bytes_eq-true name old_name e)) old
  | inr e ↦ elim (cases_Bool (bytes_eq name listing_name)) [
    | inl f ↦ subst (λ n. value_at n rs ≡ value_at n ss) (sym (bytes_eq-true name listing_name f)) listing
    | inr f ↦ others name (apart name old_name e) (apart name listing_name f)
  ]
]

-- ---- what is made of the members
listing_over-at : (ids : Option (List (List ℕ))) (members : List Pair) →
    filled (Some (91 ∷ 93 ∷ [])) (listing_over ids (value_at listing_name members)) ≡ listing_at ids members
listing_over-at (Some ids) members = filled-given (Some (91 ∷ 93 ∷ [])) (listing_text ids) (listing-given ids)
listing_over-at None members = refl

pub restored-from : (ms us ws all : List Pair) → AreUpdated ms us → IsPermutation us ws → HaveRisingNames ws
    → all ≡ merged ws defaults → AreRestored ms all
restored-from ms us ws all update moved rise is =
    let at : (name : List ℕ) → value_at name all ≡ filled (value_at name defaults) (value_at name us) = λ name.
    ap (value_at name) is ∙ (merged-at name ws defaults rise defaults-rise
    ∙ ap (filled (value_at name defaults)) (sym (same_moved us ws update.distinct moved name))) in
    record {
      rise = subst HaveRisingNames (sym is) (merged-rise ws defaults rise defaults-rise);
      ids = update.ids;
      old = update.old;
      gone = at old_name ∙ ap (filled None) update.gone;
      listing = at listing_name ∙ (ap (filled (Some (91 ∷ 93 ∷ []))) update.listing ∙ listing_over-at update.ids ms);
      others = λ name not_old not_listing. at name
          ∙ ap (filled (value_at name defaults)) (update.others name not_old not_listing);
    }

-- ---- the laws
one-same : {A : Type 0} (P : A → Type 0) (x y : Option A) → IsTheOne P x → IsTheOne P y → x ≡ y
one-same P None None h k = refl
one-same P None (Some y) h k = absurd (h y k.0)
one-same P (Some x) None h k = absurd (k x h.0)
one-same P (Some x) (Some y) h k = ap Some (k.1 x h.0)

pub restored-unique : (ms rs ss : List Pair) → AreRestored ms rs → AreRestored ms ss → rs ≡ ss
restored-unique ms rs ss one two =
    let ids = one-same (HasOldListing ms) one.ids two.ids one.old two.old in
    rising_same rs ss one.rise two.rise
    (by_name rs ss (one.gone ∙ sym two.gone) (one.listing ∙ (ap (λ i. listing_at i ms) ids ∙ sym two.listing))
    (λ name not_old not_listing. one.others name not_old not_listing ∙ sym (two.others name not_old not_listing)))

old-same : (ms ns : List Pair) (ids : List (List ℕ)) → AreSameMembers ms ns → HasOldListing ms ids
    → HasOldListing ns ids
old-same ms ns ids same has = record { texts = has.texts; named = sym (same old_name) ∙ has.named }

one-moved : (ms ns : List Pair) (ids : Option (List (List ℕ))) → AreSameMembers ms ns → IsTheOne (HasOldListing ms) ids
    → IsTheOne (HasOldListing ns) ids
one-moved ms ns None same none = λ ids has. none ids (old-same ns ms ids (λ name. sym (same name)) has)
one-moved ms ns (Some ids) same one =
    (old-same ms ns ids same one.0, λ other has. one.1 other (old-same ns ms other (λ name. sym (same name)) has))

listing-same : (ids : Option (List (List ℕ))) (ms ns : List Pair) → AreSameMembers ms ns
    → listing_at ids ms ≡ listing_at ids ns
listing-same (Some ids) ms ns same = refl
listing-same None ms ns same = ap (filled (Some (91 ∷ 93 ∷ []))) (same listing_name)

pub restored-order : (ms ns rs : List Pair) → AreSameMembers ms ns → AreRestored ms rs → AreRestored ns rs
restored-order ms ns rs same are = record {
  rise = are.rise;
  ids = are.ids;
  old = one-moved ms ns are.ids same are.old;
  gone = are.gone;
  listing = are.listing ∙ listing-same are.ids ms ns same;
  others = λ name not_old not_listing. are.others name not_old not_listing
      ∙ ap (filled (value_at name defaults)) (same name);
}

full-there : (default : List ℕ) (found : Option (List ℕ)) → IsFull default found → (value : List ℕ)
    × (found ≡ Some value) × (value ≡ null_word → default ≡ null_word)
full-there default found full = (full.value, full.found_is, full.full)

there-full : (default : List ℕ) (found : Option (List ℕ)) → (value : List ℕ) × (found ≡ Some value)
    × (value ≡ null_word → default ≡ null_word) → IsFull default found
there-full default found there = record { value = there.0; found_is = there.1; full = there.2 }

pub restored-lack : (ms rs : List Pair) → AreRestored ms rs → LackNothing rs
restored-lack ms rs are = record {
  gone = are.gone;
  each_filled = λ name default row. elim (cases_Bool (bytes_eq name old_name)) [
    | inl e ↦ absurd (none-some default (sym defaults-old
        ∙ (ap (λ n. value_at n defaults) (sym (bytes_eq-true name old_name e)) ∙ row)))
    | inr e ↦ elim (cases_Bool (bytes_eq name listing_name)) [
      | inl f ↦
          let own = bytes_eq-true name listing_name f in
          let brackets : Some (91 ∷ 93 ∷ []) ≡ Some default = ap (λ n. value_at n defaults) (sym own) ∙ row in
          let full = subst (λ d. IsFull d (listing_at are.ids ms)) (some-same (91 ∷ 93 ∷ []) default brackets)
          (filled-listing are.ids ms) in
          full-there default (value_at name rs)
          (subst (IsFull default) (sym (ap (λ n. value_at n rs) own ∙ are.listing)) full)
      | inr f ↦
          let filled_in = are.others name (apart name old_name e) (apart name listing_name f)
          ∙ ap (λ d. filled d (value_at name ms)) row in
          full-there default (value_at name rs)
          (subst (IsFull default) (sym filled_in) (filled-IsFull default (value_at name ms)))
    ]
  ];
}
  where
    some-same : (a b : List ℕ) → Some a ≡ Some b → a ≡ b
    some-same a b e = cc

-- what lacks nothing has nothing filled in
lack-filled : (ms : List Pair) (name : List ℕ) (d : Option (List ℕ)) → LackNothing ms → value_at name defaults ≡ d
    → filled d (value_at name ms) ≡ value_at name ms
lack-filled ms name None lack row = refl
lack-filled ms name (Some default) lack row =
    full-filled default (value_at name ms) (there-full default (value_at name ms) (lack.each_filled name default row))

lack-listing : (ms : List Pair) (ids : Option (List (List ℕ))) → LackNothing ms → IsTheOne (HasOldListing ms) ids
    → listing_at ids ms ≡ value_at listing_name ms
lack-listing ms (Some ids) lack one = absurd (none-some (array_text (map quote ids)) (sym lack.gone ∙ one.0.named))
lack-listing ms None lack none = lack-filled ms listing_name (Some (91 ∷ 93 ∷ [])) lack refl

pub lack-same : (ms rs : List Pair) → LackNothing ms → AreRestored ms rs → AreSameMembers ms rs
lack-same ms rs lack are =
    by_name ms rs (lack.gone ∙ sym are.gone) (sym (lack-listing ms are.ids lack are.old) ∙ sym are.listing)
    (λ name not_old not_listing. sym (are.others name not_old not_listing
    ∙ lack-filled ms name (value_at name defaults) lack refl))

pub restored-again : (ms rs ss : List Pair) → AreRestored ms rs → AreRestored rs ss → ss ≡ rs
restored-again ms rs ss one two =
    sym (rising_same rs ss one.rise two.rise (lack-same rs ss (restored-lack ms rs one) two))

-- what is given stays
pub given-stays : (ms rs : List Pair) (name value : List ℕ) → AreRestored ms rs → name ≢ old_name → name ≢ listing_name
    →
    value_at name ms ≡ Some value → value ≢ null_word → value_at name rs ≡ Some value
given-stays ms rs name value are not_old not_listing is given =
    are.others name not_old not_listing
    ∙ (ap (filled (value_at name defaults)) is ∙ filled-given (value_at name defaults) value given)

listing-none : (ms : List Pair) (ids : Option (List (List ℕ))) → IsTheOne (HasOldListing ms) ids
    → ((ids : List (List ℕ)) → HasOldListing ms ids → ⊥) → listing_at ids ms ≡ filled_at listing_name ms
listing-none ms None old none = refl
listing-none ms (Some ids) old none = absurd (none ids old.0)

pub listing-stays : (ms rs : List Pair) (value : List ℕ) → AreRestored ms rs
    → ((ids : List (List ℕ)) → HasOldListing ms ids → ⊥) →
    value_at listing_name ms ≡ Some value → value ≢ null_word → value_at listing_name rs ≡ Some value
listing-stays ms rs value are none is given =
    are.listing ∙ (listing-none ms are.ids are.old none
    ∙ (ap (filled (Some (91 ∷ 93 ∷ []))) is ∙ filled-given (Some (91 ∷ 93 ∷ [])) value given))

pub unknown-stays : (ms rs : List Pair) (name : List ℕ) → AreRestored ms rs → name ≢ old_name
    → value_at name defaults ≡ None → value_at name rs ≡ value_at name ms
unknown-stays ms rs name are not_old unknown =
    are.others name not_old (λ own. none-some (91 ∷ 93 ∷ []) (sym unknown ∙ ap (λ n. value_at n defaults) own))
    ∙ ap (λ d. filled d (value_at name ms)) unknown

-- ---- members that are moved
pairs-distinct : (ms : List Member) → IsDistinct bytes_eq (map (λ (m : Member). m.name) ms)
    → IsDistinct bytes_eq (names_of (pairs ms))
pairs-distinct ms apart = subst (IsDistinct bytes_eq) (sym (names-pairs ms)) apart

pub moved-distinct : (ms ns : List Member) → IsDistinct bytes_eq (map (λ (m : Member). m.name) ms)
    → IsPermutation ms ns → IsDistinct bytes_eq (map (λ (m : Member). m.name) ns)
moved-distinct ms ns apart moved =
    subst (IsDistinct bytes_eq) (names-pairs ns)
    (distinct_moved (pairs ms) (pairs ns) (IsPermutation-map pair_of ms ns moved) (pairs-distinct ms apart))

moved-same : (ms ns : List Member) → IsDistinct bytes_eq (map (λ (m : Member). m.name) ms) → IsPermutation ms ns
    → AreSameMembers (pairs ms) (pairs ns)
moved-same ms ns apart moved =
    same_moved (pairs ms) (pairs ns) (pairs-distinct ms apart) (IsPermutation-map pair_of ms ns moved)

pub restored-moved : (ms ns : List Member) (rs : List Pair) → IsDistinct bytes_eq (map (λ (m : Member). m.name) ms)
    → IsPermutation ms ns → AreRestored (pairs ns) rs → AreRestored (pairs ms) rs
restored-moved ms ns rs apart moved restored =
    restored-order (pairs ns) (pairs ms) rs (λ name. sym (moved-same ms ns apart moved name)) restored

pub restored-whole : (ms ns : List Member) → IsDistinct bytes_eq (map (λ (m : Member). m.name) ms)
    → IsPermutation ms ns → IsWhole (pairs ns) → AreRestored (pairs ms) (pairs ns)
restored-whole ms ns apart moved whole =
    let none : value_at old_name (pairs ms) ≡ None = moved-same ms ns apart moved old_name ∙ whole.gone in
    restored-from (pairs ms) (pairs ms) (pairs ns) (pairs ns)
    (updated-none (pairs ms) (pairs ms) (pairs-distinct ms apart) none refl)
    (IsPermutation-map pair_of ms ns moved) (rising_parts ([], []) (pairs ns) whole.beside.rise).1
    (sym whole.beside.whole)
