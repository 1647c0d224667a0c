-- Ids that are reached over links. This project's own.
use Rattle.std.specs.Prelude.{◌≡◌, ◌⊎◌, ℕ, List, Bool, true, false, ◌||◌, Some, bytes_eq, Contains, All}
use Rattle.std.specs.List.{IsDistinct}
use Rattle.std.specs.Option.{option_map_or}
use Rattle.elem.specs.ElementValue.{ElementValue}
use Rattle.elem_store.specs.Updates.{element_of, is_among}
use Rattle.links.specs.Looks.{kind_at}
use Rattle.links.specs.Names.{is_text}
use Rattle.links.specs.Steps.{links_to, names_id}

-- the ids of one list are among others
abbrev pub AreAmong : List (List ℕ) → List (List ℕ) → Type 0
AreAmong from to = (id : List ℕ) → is_among from id ≡ true → is_among to id ≡ true

-- The ids of one list are among others, as is what the elements of some ids link to.
pub record HaveLinked (elements : List ElementValue) (over from to : List (List ℕ)) : Type 0 where
  pub kept : AreAmong from to
  pub linked : (e : ElementValue) (id : List ℕ) → Contains elements e → is_among over e.id ≡ true
      → links_to id e ≡ true → is_among to id ≡ true

-- The ids of one list are among others, as is what links to some ids and passes a test there.
pub record HaveNamers (passes : List ℕ → ElementValue → Bool) (elements : List ElementValue)
    (over from to : List (List ℕ)) : Type 0 where
  pub kept : AreAmong from to
  pub naming : (e : ElementValue) (id : List ℕ) → Contains elements e → is_among over id ≡ true
      → links_to id e ≡ true → passes id e ≡ true → is_among to e.id ≡ true

-- whether what links to an id is a text, and whether the element of the id is one
abbrev pub is_text_there : List ℕ → ElementValue → Bool
is_text_there id e = is_text e.kind

abbrev pub is_to_text : List ElementValue → List ℕ → ElementValue → Bool
is_to_text elements id e = option_map_or (λ (t : ElementValue). is_text t.kind) (element_of elements
    id) false

-- whether an id is one of these, or what links to it is a text
abbrev pub is_text_or_to : List (List ℕ) → List ℕ → ElementValue → Bool
is_text_or_to ids id e = is_among ids id || is_text e.kind

-- The ids of one list were reached from those of another: what their elements link to, the texts
-- that link to all these, and what links to those of these that are texts.
pub record HaveReached (elements : List ElementValue) (from to : List (List ℕ)) : Type 0 where
  pub one : List (List ℕ)
  pub two : List (List ℕ)
  pub linked : HaveLinked elements from from one
  pub texts : HaveNamers is_text_there elements one one two
  pub to_texts : HaveNamers (is_to_text elements) elements two two to

-- The ids of these elements, and those that they link to, are among others.
abbrev pub IsStartedBy : List (List ℕ) → ElementValue → Type 0
IsStartedBy ids e =
    (is_among ids e.id ≡ true) × ((id : List ℕ) → links_to id e ≡ true → is_among ids id ≡ true)

abbrev pub AreStartedBy : List (List ℕ) → List ElementValue → Type 0
AreStartedBy ids elements = All (IsStartedBy ids) elements

-- All that name an id are among ids.
abbrev pub HasNamers : List ElementValue → List (List ℕ) → List ℕ → Type 0
HasNamers elements ids id = (e : ElementValue) → Contains elements e
    → names_id id e ≡ true → is_among ids e.id ≡ true

-- What is held of an element's id is of its kind, or else all that name it are among ids.
abbrev pub StaysKind : List ElementValue → List (List ℕ) → ElementValue → Type 0
StaysKind live ids e = (kind_at live e.id ≡ Some e.kind) ⊎ HasNamers live ids e.id

-- The frames that the elements of some ids name are among others.
abbrev pub HaveFrames : List ElementValue → List (List ℕ) → List (List ℕ) → Type 0
HaveFrames elements ids to = (e : ElementValue) (id : List ℕ) → Contains elements e
    → is_among ids e.id ≡ true → e.frame ≡ Some id → is_among to id ≡ true

-- What is needed to settle what is near as it is settled among all: what it links to, and what that
-- links to; what links to it, and the texts that link to all these; and the frames that it names,
-- before and after new elements took their places; each once.
pub record AreSurrounded (live news : List ElementValue) (near wide : List (List ℕ)) : Type 0 where
  pub one : List (List ℕ)
  pub two : List (List ℕ)
  pub linked : HaveLinked live near near one
  pub again : HaveLinked live one one two
  pub namers : HaveNamers (is_text_or_to near) live two two wide
  pub frames : HaveFrames live near wide
  pub new_frames : HaveFrames news near wide
  pub distinct : IsDistinct bytes_eq wide
