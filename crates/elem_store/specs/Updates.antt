-- What is stored of a list of updates. Source: Excalidraw's reconcile.
use Rattle.std.specs.Prelude.{◌≡◌, ℕ, List, [], ◌∷◌, ◌++◌, Bool, true, not, ◌&&◌, ◌==◌, Option, Some, is_some, Contains, find, filter, map, bytes_eq, if◌then◌else◌}
use Rattle.std.specs.List.{list_any}
use Rattle.std.specs.Option.{option_map_or}
use Rattle.frac_keys.specs.Rising.{are_rising}
use Rattle.elem.specs.ElementValue.{ElementValue}
use Rattle.elem.specs.Order.{beats, has_id}

-- no update of the element's id in the list beats it
abbrev pub is_unbeaten : List ElementValue → ElementValue → Bool
is_unbeaten updates e = not (list_any (λ other. has_id e.id other && beats other e) updates)

-- whether an element is of the id and unbeaten
abbrev pub is_best : List ElementValue → List ℕ → ElementValue → Bool
is_best updates id e = has_id id e && is_unbeaten updates e

-- the best updates of an id: those that no update of the list beats
abbrev pub best_updates : List ElementValue → List ℕ → List ElementValue
best_updates updates id = filter (is_best updates id) updates

-- the stored element of an id: its best update, of which there is one alone, since those that none
-- beats have one text
unfoldable pub stored_of : List ElementValue → List ℕ → Option ElementValue
stored_of updates id = find (is_best updates id) updates

-- the element of this id in a list
abbrev pub element_of : List ElementValue → List ℕ → Option ElementValue
element_of elements id = find (has_id id) elements

-- whether an update becomes stored where this is stored of its id: nothing is, or the update beats
-- it
abbrev pub is_newer : ElementValue → Option ElementValue → Bool
is_newer e stored = option_map_or (beats e) stored true

-- whether a store of these elements takes an update: its id is new, or it beats the stored element
abbrev pub is_taken : List ElementValue → ElementValue → Bool
is_taken elements e = is_newer e (element_of elements e.id)

-- An update that becomes stored, and what was stored of its id before it.
pub record Taking : Type 0 where
  pub before : Option ElementValue
  pub taken : ElementValue

-- which of further updates become stored behind these, in their order, each with what was stored
-- before it
abbrev pub takings : List ElementValue → List ElementValue → List Taking
takings updates [] = []
takings updates (e ∷ more) =
    if is_newer e (stored_of updates e.id)
    then record { before = stored_of updates e.id; taken = e } ∷ takings (updates ++ e ∷ []) more
    else takings (updates ++ e ∷ []) more

-- the ids of elements
abbrev pub ids_of : List ElementValue → List (List ℕ)
ids_of elements = map (λ (e : ElementValue). e.id) elements

-- whether an id is one of these
abbrev pub is_among : List (List ℕ) → List ℕ → Bool
is_among ids id = list_any (bytes_eq id) ids

-- These are the stored elements of the updates, one for each id, in the order of the ids.
pub record AreStored (updates elements : List ElementValue) : Type 0 where
  pub ordered : are_rising (ids_of elements) ≡ true
  pub each : (id : List ℕ) → element_of elements id ≡ stored_of updates id

-- These are the elements after a store of the old ones was given an update: where it is taken it is
-- the element of its id, and the others stay.
pub record HasTaken (old : List ElementValue) (e : ElementValue) (new : List ElementValue) :
    Type 0 where
  pub ordered : are_rising (ids_of new) ≡ true
  pub each : (id : List ℕ) → element_of new id
      ≡ (if has_id id e && is_taken old e then Some e else element_of old id)

-- whether the ids, versions and nonces of two updates agree, so that their texts decide
abbrev pub are_tied : ElementValue → ElementValue → Bool
are_tied e other = bytes_eq e.id other.id && (e.version == other.version && e.nonce == other.nonce)

-- Two updates clash where their id, version and nonce agree and they aren't the same; none do. A
-- clash is told, and decides nothing.
abbrev pub IsFreeOfClashes : List ElementValue → Type 0
IsFreeOfClashes updates =
    (e other : ElementValue) → Contains updates e → Contains updates other → are_tied e other ≡ true
    → e ≡ other

-- Each update of the one list is in the other one: order and repeats don't count.
pub record HaveSameUpdates (updates others : List ElementValue) : Type 0 where
  pub in_others : (e : ElementValue) → Contains updates e → Contains others e
  pub in_updates : (e : ElementValue) → Contains others e → Contains updates e

-- These elements are the best update of each id, in the order of the ids.
pub record AreBest (updates chosen : List ElementValue) : Type 0 where
  pub ordered : are_rising (ids_of chosen) ≡ true
  pub each_id : (id : List ℕ) → is_some (element_of chosen id) ≡ list_any (has_id id) updates
  pub best : (e : ElementValue) → Contains chosen e → Contains (best_updates updates e.id) e
