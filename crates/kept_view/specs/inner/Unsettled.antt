-- Ids of elements that may be shown otherwise than they are stored, or with another key, before a
-- change and after it. This project's own.
use Rattle.std.specs.Prelude.{◌≡◌, ℕ, ◌+◌, List, [], ◌∷◌, ◌++◌, length, take, drop, map, Some, false}
use Rattle.std.specs.BTreeSet.{BTreeSet, contains}
use Rattle.std.specs.Cmp.Lexicographic.{slice_cmp}
use Rattle.std.specs.Option.{option_map}
use Rattle.std.specs.Ordering.{nat_cmp}
use Rattle.elem.specs.ElementValue.{ElementValue}
use Rattle.elem_store.specs.Updates.{element_of, ids_of, is_among}
use Rattle.index_repair.specs.Keyed.{index_of}
use Rattle.view.specs.Kept.{AreOthersAsStored, AreOthersKeyedAsStored}
use Rattle.kept_view.specs.declared.places.Put.{Put}
use Rattle.kept_view.specs.declared.unsettled.Unsettled.{Unsettled}

-- Each element of another id than those that may be unsettled is shown as it is stored, and each of
-- another id than those that may be rekeyed with the key that is stored.
pub record AreNoted (unsettled : Unsettled) (live shown : List ElementValue) : Type 0 where
  pub others : AreOthersAsStored unsettled.ids live shown
  pub keyed : AreOthersKeyedAsStored unsettled.rekeyed live shown

-- A shown element of another id is stored as it is shown, or with the key that it is shown with.
pub record IsWalked (live : List ElementValue) (unsettled : Unsettled)
    (e : ElementValue) : Type 0 where
  pub whole : contains (slice_cmp nat_cmp) unsettled.ids e.id ≡ false
      → element_of live e.id ≡ Some e
  pub keyed : contains (slice_cmp nat_cmp) unsettled.rekeyed e.id ≡ false
      → option_map index_of (element_of live e.id) ≡ Some e.index

-- the ids of the old set are in the new one
abbrev pub StillHas : BTreeSet (List ℕ) → BTreeSet (List ℕ) → Type 0
StillHas old new =
    (id : List ℕ) → contains (slice_cmp nat_cmp) new id ≡ false
    → contains (slice_cmp nat_cmp) old id ≡ false

-- these ids are in a set
abbrev pub HasNoted : List (List ℕ) → BTreeSet (List ℕ) → Type 0
HasNoted ids set =
    (id : List ℕ) → contains (slice_cmp nat_cmp) set id ≡ false → is_among ids id ≡ false

-- Both sets still have their ids.
pub record StillHave (old new : Unsettled) : Type 0 where
  pub ids : StillHas old.ids new.ids
  pub rekeyed : StillHas old.rekeyed new.rekeyed

-- Both sets have these ids.
pub record HaveNoted (noted : List (List ℕ)) (unsettled : Unsettled) : Type 0 where
  pub ids : HasNoted noted unsettled.ids
  pub rekeyed : HasNoted noted unsettled.rekeyed

-- the id of an element that is put
abbrev pub put_id : Put → List ℕ
put_id put = put.e.id

abbrev pub put_ids : List Put → List (List ℕ)
put_ids puts = map put_id puts

-- the ids of so many elements from a place on
abbrev pub run_ids : ℕ → ℕ → List ElementValue → List (List ℕ)
run_ids start count drawn = ids_of (take count (drop start drawn))

-- The ids of what is shown anew where one element comes or goes: those of what is put, its own, and
-- those of the run whose keys are set, with the one that comes among them or not.
abbrev pub touched_ids : List ElementValue → List Put → List ℕ → ℕ → List (List ℕ) → List (List ℕ)
touched_ids drawn puts id start keys =
    (put_ids puts ++ id ∷ []) ++ run_ids start (length keys + 1) drawn
