-- At what settling looks for the links of one element. This project's own.
use Rattle.std.specs.Prelude.{◌≡◌, ℕ, List, Bool, true, ◌||◌, Option, Some, Contains, filter, find, map}
use Rattle.std.specs.Option.{option_map}
use Rattle.elem.specs.declared.kind.Kind.{Kind}
use Rattle.elem.specs.ElementValue.{ElementValue}
use Rattle.elem.specs.Order.{has_id}
use Rattle.links.specs.Names.{id_of, is_text, names_container, end_names, has_end_at}
use Rattle.links.specs.Steps.{links_to}

-- the ids of the arrows with an end at an element of this id, and of the texts that name it as
-- their container, in the list's order
abbrev pub arrows_at : List ElementValue → List ℕ → List (List ℕ)
arrows_at list id = map id_of (filter (has_end_at id) list)

abbrev pub texts_in : List ElementValue → List ℕ → List (List ℕ)
texts_in list id = map id_of (filter (names_container id) list)

-- of what kind the element of an id is, if there is one
abbrev pub kind_at : List ElementValue → List ℕ → Option Kind
kind_at list id = option_map (λ (e : ElementValue). e.kind) (find (has_id id) list)

-- whether an end of an element names this id
abbrev pub ends_at : List ℕ → ElementValue → Bool
ends_at id e = end_names id e.start_binding || end_names id e.end_binding

-- Two lists have one container of an id: the same element, and the same texts name it, or none.
pub record HaveOneContainer (list other : List ElementValue) (id : List ℕ) : Type 0 where
  pub own : find (has_id id) list ≡ find (has_id id) other
  pub texts : (e : ElementValue) → find (has_id id) list ≡ Some e
      → texts_in list id ≡ texts_in other id

-- Where an element is a text with a container, two lists have one container of that id.
abbrev pub HaveItsContainer : List ElementValue → List ElementValue → ElementValue → Type 0
HaveItsContainer list other e =
    (id : List ℕ) → names_container id e ≡ true → HaveOneContainer list other id

-- Two lists have one target of an id: an element of the same kind; and where that is a text, it is
-- the same, and they have its container.
pub record HaveOneTarget (list other : List ElementValue) (id : List ℕ) : Type 0 where
  pub kind : kind_at list id ≡ kind_at other id
  pub text : (e : ElementValue) → find (has_id id) list ≡ Some e → is_text e.kind ≡ true
      → (find (has_id id) other ≡ Some e) × HaveItsContainer list other e

-- Two lists look alike to the element of an id: it is the same in both, or in none; the same arrows
-- and texts name it; they have its container, if it is a text; and they have the targets of its
-- ends.
pub record LookAlike (list other : List ElementValue) (id : List ℕ) : Type 0 where
  pub own : find (has_id id) list ≡ find (has_id id) other
  pub arrows : (e : ElementValue) → find (has_id id) list ≡ Some e
      → arrows_at list id ≡ arrows_at other id
  pub texts : (e : ElementValue) → find (has_id id) list ≡ Some e
      → texts_in list id ≡ texts_in other id
  pub container : (e : ElementValue) → find (has_id id) list ≡ Some e
      → HaveItsContainer list other e
  pub targets : (e : ElementValue) (target : List ℕ) → find (has_id id) list ≡ Some e
      → ends_at target e ≡ true → HaveOneTarget list other target

-- A test that the element of an id passes, if there is one, and the texts that name it as their
-- container.
pub record HasContainer (among : ElementValue → Bool) (list : List ElementValue) (id : List ℕ) :
    Type 0 where
  pub own : (e : ElementValue) → Contains list e → has_id id e ≡ true → among e ≡ true
  pub texts : (e text : ElementValue) → Contains list e → has_id id e ≡ true
      → Contains list text → names_container id text ≡ true → among text ≡ true

-- Where an element is a text with a container, that passes a test with its texts.
abbrev pub HasItsContainer : (ElementValue → Bool) → List ElementValue → ElementValue → Type 0
HasItsContainer among list e =
    (id : List ℕ) → names_container id e ≡ true → HasContainer among list id

-- A test that all pass at which settling looks for the element of an id: itself, what links to it,
-- its container, if it is a text, the targets of its ends, and of those that are texts the
-- containers; each container together with the texts that name it.
pub record HasAllSeen (among : ElementValue → Bool) (list : List ElementValue) (id : List ℕ) :
    Type 0 where
  pub own : (e : ElementValue) → Contains list e → has_id id e ≡ true → among e ≡ true
  pub namers : (e namer : ElementValue) → Contains list e → has_id id e ≡ true
      → Contains list namer → links_to id namer ≡ true → among namer ≡ true
  pub container : (e : ElementValue) → Contains list e → has_id id e ≡ true
      → HasItsContainer among list e
  pub targets : (e target : ElementValue) → Contains list e → has_id id e ≡ true
      → Contains list target → ends_at target.id e ≡ true
      → (among target ≡ true) × HasItsContainer among list target
