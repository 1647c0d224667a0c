-- On what the rules for texts, arrows, frames and groups rest for one element. This project's own.
use Rattle.std.specs.Prelude.{◌≡◌, ℕ, List, Bool, true, false, Option, Some, Contains, IsTrue, All, map, option_map}
use Rattle.std.specs.Option.{option_map_or}
use Rattle.elem.specs.ElementValue.{ElementValue}
use Rattle.elem_store.specs.Updates.{element_of}
use Rattle.frames_groups.specs.Frames.{is_frame, has_frame, keeps_frame}
use Rattle.links.specs.Looks.{HasAllSeen, LookAlike}
use Rattle.links.specs.Steps.{near}
use Rattle.view.specs.Settled.{settled}
use Rattle.view.specs.Shown.{without_index}

-- whether the element of an id keeps its frame name in the list: the list has a frame of this name,
-- and the element is none itself
abbrev pub is_framed : List ElementValue → List ℕ → Bool
is_framed list id = option_map_or (keeps_frame (has_frame list)) (element_of list id) false

-- The elements of the two lists at most three steps of links from an id are the same but for their
-- keys, and in the same order; and the element of this id keeps its frame name in both lists or in
-- none.
pub record AreAlikeNear (list other : List ElementValue) (id : List ℕ) : Type 0 where
  pub linked : map without_index (near list id) ≡ map without_index (near other id)
  pub framed : is_framed list id ≡ is_framed other id

-- the element of an id as it is settled, and the same without its key
abbrev pub settled_of : List ElementValue → List ℕ → Option ElementValue
settled_of list id = element_of (settled list) id

abbrev pub settled_but_for_key : List ElementValue → List ℕ → Option ElementValue
settled_but_for_key list id = option_map without_index (settled_of list id)

-- a test that the elements of the list at most three steps of links from an id pass
abbrev pub HasAllLinked : (ElementValue → Bool) → List ElementValue → List ℕ → Type 0
HasAllLinked among list id = All (λ e. IsTrue (among e)) (near list id)

-- A test that the elements of the list at most three steps of links from an id pass, and the frame
-- that the element of this id names, if the list has it.
pub record HasAllNear (among : ElementValue → Bool) (list : List ElementValue) (id : List ℕ) :
    Type 0 where
  pub linked : HasAllLinked among list id
  pub framed : (e frame : ElementValue) → element_of list id ≡ Some e → e.frame ≡ Some frame.id
      → Contains list frame → is_frame frame ≡ true → among frame ≡ true

-- Two lists look alike, but for keys, to the element of an id, and it keeps its frame name in both
-- or in none.
pub record LookAlikeFramed (list other : List ElementValue) (id : List ℕ) : Type 0 where
  pub linked : LookAlike (map without_index list) (map without_index other) id
  pub framed : is_framed list id ≡ is_framed other id

-- A test that all pass at which settling looks for the element of an id, and the frame that this
-- names, if the list has it.
pub record HasAllSeenFramed (among : ElementValue → Bool) (list : List ElementValue)
    (id : List ℕ) : Type 0 where
  pub linked : HasAllSeen among list id
  pub framed : (e frame : ElementValue) → element_of list id ≡ Some e → e.frame ≡ Some frame.id
      → Contains list frame → is_frame frame ≡ true → among frame ≡ true
