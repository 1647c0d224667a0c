-- Finding the members that have a name among those that are kept, and names by their marks.
use Rattle.std.proofs.Common.{◌≡◌, ◌<◌, ◌≤◌, ℕ, zero, suc, ◌+◌, List, [], ◌∷◌, ◌++◌, Option, Some, None, Bool, true, false, ap, if◌then◌else◌, cond, refl, sym, ◌∙◌, arith, length, get_or, take, bytes_eq}
use Rattle.std.proofs.lemmas.Grind.{common_steps}
use Rattle.std.proofs.lemmas.List.{take_more, map-append, map-set, length-map, get_or-map, get_or-set_same, get_or-set_other, length-set}
use Rattle.std.proofs.lemmas.List.Elements.{All-set, All-push}
use Rattle.std.proofs.Math.ListN.{set}
use Rattle.std.specs.List.{list_any}
use Rattle.json_text.specs.Compact.{Member, collapsed}
use Rattle.json_reader.specs.inner.Places.{cut, entry, entries, mark_of, IsPlaced, AreWithin, MemberPlace}
use Rattle.json_text.proofs.CallerLemmas.{bytes_eq-true, bytes_eq-same, bytes_eq-flip, bytes_eq-apart, names_of, insert_entry, collapsed-push}

-- the place of the first member of this name, counted from a number on
abbrev pub place_from : ℕ → List ℕ → List Member → Option ℕ
place_from n name [] = None
place_from n name (m ∷ ms) = if bytes_eq name m.0 then Some n else place_from (suc n) name ms

-- a member of a new name stands at the end
place-new : (n : ℕ) (ms : List Member) (name value q : List ℕ) → place_from n name ms ≡ None →
    place_from n q (insert_entry ms name value) ≡ cond (bytes_eq name q) (Some (n + length ms)) (place_from n q ms)
place-new n [] name value q none = grind (arith, bytes_eq-true name q, bytes_eq-same q, bytes_eq-flip name q)
place-new n (m ∷ ms) name value q none =
    grind (arith, place-new (suc n) ms name value q, bytes_eq-true q m.0, bytes_eq-same name)

insert-new : (n : ℕ) (ms : List Member) (name value : List ℕ) → place_from n name ms ≡ None
    → insert_entry ms name value ≡ ms ++ (name, value) ∷ []
insert-new n [] name value none = refl
insert-new n (m ∷ ms) name value none = grind (arith, insert-new (suc n) ms name value)

-- one of a name that is there takes that place
place-last : (n : ℕ) (ms : List Member) (name value q : List ℕ) (i : ℕ) → place_from n name ms ≡ Some i
    → place_from n q (insert_entry ms name value) ≡ place_from n q ms
place-last n [] name value q i some = cc
place-last n (m ∷ ms) name value q i some = grind (arith, place-last (suc n) ms name value q i)

place-within : (n : ℕ) (ms : List Member) (name : List ℕ) (i : ℕ) → place_from n name ms ≡ Some i → (n ≤ i)
    × (i < n + length ms)
place-within n [] name i some = cc
place-within n (m ∷ ms) name i some = grind (arith, place-within (suc n) ms name i)

insert-last : (n : ℕ) (ms : List Member) (name value : List ℕ) (i k : ℕ) (d : Member) → place_from n name ms ≡ Some i
    → i ≡ n + k →
    insert_entry ms name value ≡ set ms k ((get_or ms k d).0, value)
insert-last n [] name value i k d some at = cc
insert-last n (m ∷ ms) name value i zero d some at = grind (arith, place-within (suc n) ms name i)
insert-last n (m ∷ ms) name value i (suc k) d some at = grind (arith, insert-last (suc n) ms name value i k d)

-- ---- members that stand in a text
abbrev pub nowhere : MemberPlace
nowhere = record { name = record { start = 0; end = 0 }; value = record { start = 0; end = 0 } }

-- one member more is looked at
pub entries-push : (bytes : List ℕ) (places : List MemberPlace) (i : ℕ) → i < length places
    → entries bytes (take (i + 1) places) ≡ entries bytes (take i places) ++ entry bytes (get_or places i nowhere) ∷ []
entries-push bytes places i here =
    rw (take_more places i nowhere here) (map-append (entry bytes) (take i places) (get_or places i nowhere ∷ []))

pub entries-more : (bytes : List ℕ) (places : List MemberPlace) (i : ℕ) → i < length places →
    collapsed (entries bytes (take (i + 1) places))
    ≡ insert_entry (collapsed (entries bytes (take i places))) (cut bytes (get_or places i nowhere).name)
    (cut bytes (get_or places i nowhere).value)
entries-more bytes places i here =
    rw (entries-push bytes places i here) (collapsed-push (entries bytes (take i places)) _ _)

-- These places are kept of those before i, and this says at which of them a name stands. None is left out where no name
-- came again.
pub record AreKept (bytes : List ℕ) (places kept : List MemberPlace) (i : ℕ) (find : List ℕ
    → Option ℕ) (repeats : Bool) :
    Type 0 where
  pub within : AreWithin (length bytes) kept
  pub same : entries bytes kept ≡ collapsed (entries bytes (take i places))
  pub found : (name : List ℕ) → find name ≡ place_from 0 name (entries bytes kept)
  pub plain : repeats ≡ false → kept ≡ take i places

module _ (bytes : List ℕ) (places kept : List MemberPlace) (i : ℕ) (find : List ℕ
    → Option ℕ) (repeats : Bool) (are : AreKept bytes places kept i find repeats)
    (here : i < length places) (fits : AreWithin (length bytes) places) where
  abbrev place : MemberPlace
  place = get_or places i nowhere

  abbrev pub name : List ℕ
  name = cut bytes place.name

  -- the name is there
  module _ (first : ℕ) (there : find name ≡ Some first) where
    pub first_within : first < length kept
    first_within = omega (
      arith,
      place-within 0 (entries bytes kept) name first (sym (are.found name) ∙ there),
      length-map kept (entry bytes),
    )

    pub kept_last : (d : MemberPlace)
        → AreKept bytes places (set kept first (record { name = (get_or kept first d).name; value = place.value }))
        (i + 1) find true
    kept_last d =
        let at : place_from 0 name (entries bytes kept) ≡ Some first = sym (are.found name) ∙ there in
        let new : MemberPlace = record { name = (get_or kept first d).name; value = place.value } in
        let put : entries bytes (set kept first new) ≡ insert_entry (entries bytes kept) name (cut bytes place.value) =
        map-set (entry bytes) kept first new
        ∙ sym (rw (
          insert-last 0 (entries bytes kept) name (cut bytes place.value) first first (entry bytes d) at
              (omega arith),
          get_or-map (entry bytes) kept first d (entry bytes d) first_within,
        ) refl) in
        record {
          within = All-set (IsPlaced (length bytes)) kept first new (
            (are.within first d first_within).0,
            (fits i nowhere here).1,
          ) are.within;
          same = grind (arith, put, are.same, entries-more bytes places i here);
          found = λ q. are.found q
              ∙ sym (rw put (place-last 0 (entries bytes kept) name (cut bytes place.value) q first at));
          plain = λ e. cc;
        }

  -- the name is new
  pub kept_new : find name ≡ None → (more : List ℕ → Option ℕ)
      → ((q : List ℕ) → more q ≡ cond (bytes_eq name q) (Some (length kept)) (find q))
      → AreKept bytes places (kept ++ place ∷ []) (i + 1) more repeats
  kept_new new more finds =
      let none : place_from 0 name (entries bytes kept) ≡ None = sym (are.found name) ∙ new in
      let put : entries bytes (kept ++ place ∷ []) ≡ insert_entry (entries bytes kept) name (cut bytes place.value) =
      map-append (entry bytes) kept (place ∷ [])
      ∙ sym (insert-new 0 (entries bytes kept) name (cut bytes place.value) none) in
      let size : 0 + length (entries bytes kept) ≡ length kept = omega (arith, length-map kept (entry bytes)) in
      record {
        within = All-push (IsPlaced (length bytes)) kept place are.within (fits i nowhere here);
        same = grind (arith, put, are.same, entries-more bytes places i here);
        found = λ q. finds q
            ∙ sym (rw (put, are.found q, ← size) (place-new 0 (entries bytes kept) name (cut bytes place.value) q
            none));
        plain = λ e. ap (λ ps. ps ++ place ∷ []) (are.plain e) ∙ sym (take_more places i nowhere here);
      }

-- ---- names by their marks
-- The names at the places before i are all kept, and a name whose mark wasn't seen is none of them.
pub record AreSeen (bytes : List ℕ) (places : List MemberPlace) (i : ℕ) (seen : List Bool) : Type 0 where
  pub kept : collapsed (entries bytes (take i places)) ≡ entries bytes (take i places)
  pub marked : (name : List ℕ) → get_or seen (mark_of name) false ≡ false
      → list_any (bytes_eq name) (names_of (entries bytes (take i places))) ≡ false
  pub size : length seen ≡ 256

insert-unknown : (ms : List Member) (name value : List ℕ) → list_any (bytes_eq name) (names_of ms) ≡ false
    → insert_entry ms name value ≡ ms ++ (name, value) ∷ []
insert-unknown [] name value new = grind arith
insert-unknown (m ∷ ms) name value new = grind (arith, insert-unknown ms name value)

-- one name more, which is new
pub seen_more : (bytes : List ℕ) (places : List MemberPlace) (i : ℕ) (seen : List Bool) (mark : ℕ) → i < length places
    → AreSeen bytes places i seen
    → mark ≡ mark_of (cut bytes (get_or places i nowhere).name) → mark < 256
    → list_any (bytes_eq (cut bytes (get_or places i nowhere).name)) (names_of (entries bytes (take i places))) ≡ false
    → AreSeen bytes places (i + 1) (set seen mark true)
seen_more bytes places i seen mark here before marks small new =
    let name = cut bytes (get_or places i nowhere).name in
    let value = cut bytes (get_or places i nowhere).value in
    let more = entries-push bytes places i here in
    record {
      kept = entries-more bytes places i here
          ∙ rw (before.kept, more) (insert-unknown (entries bytes (take i places)) name value new);
      marked = λ other unseen.
          let another_mark : mark_of other ≡ mark → ⊥ =
          λ same. grind (arith, get_or-set_same seen mark true false, before.size) in
          let apart : bytes_eq other name ≡ false =
          bytes_eq-apart other name (λ same. another_mark (ap mark_of same ∙ sym marks)) in
          rw more (grind (
            arith,
            common_steps,
            apart,
            before.marked other (sym (get_or-set_other seen mark (mark_of other) true false another_mark) ∙ unseen),
          ));
      size = length-set seen mark true ∙ before.size;
    }
