-- Elements that take the places of those of their ids. This project's own.
use Rattle.std.specs.Prelude.{◌≡◌, ℕ, List, Bool, true, ◌&&◌, Option, All, bytes_eq, filter, filter_map, map}
use Rattle.std.specs.List.{list_any}
use Rattle.std.specs.Option.{option_or}
use Rattle.frac_keys.specs.Rising.{are_rising}
use Rattle.elem.specs.ElementValue.{ElementValue}
use Rattle.elem_store.specs.Updates.{element_of, ids_of, is_among}
use Rattle.links.specs.declared.rows.LinkRow.{LinkRow}
use Rattle.links.specs.Rows.{has_row}
use Rattle.links.specs.Steps.{names_id}
use Rattle.view.specs.Settled.{settled}
use Rattle.view.specs.Shown.{in_scene_order, without_index, IsView}
use Rattle.kept_view.specs.declared.places.Put.{Put}
use Rattle.kept_view.specs.inner.Putting.{puts_of, IsInPlace}
use Rattle.kept_view.specs.inner.Reached.{AreStartedBy, AreSurrounded, HaveReached, StaysKind}
use Rattle.kept_view.specs.inner.Unsettled.{AreNoted}
use Rattle.kept_view.specs.declared.unsettled.Unsettled.{Unsettled}
use Rattle.view.specs.Kept.{HaveRowsOf}

-- the element of an id after new ones took the places of those of their ids
abbrev pub element_after : List ElementValue → List ElementValue → List ℕ → Option ElementValue
element_after live news id = option_or (element_of news id) (element_of live id)

-- New elements took the places of those of their ids, or came.
pub record HaveReplaced (live news after : List ElementValue) : Type 0 where
  pub ordered : are_rising (ids_of after) ≡ true
  pub each : (id : List ℕ) → element_of after id ≡ element_after live news id

-- whether an element is of the namer's id and names the named one
abbrev pub names_as : List ℕ → List ℕ → ElementValue → Bool
names_as named namer e = bytes_eq namer e.id && names_id named e

-- rows are those of what elements name
abbrev pub AreRowsOfAll : List ElementValue → List LinkRow → Type 0
AreRowsOfAll elements rows =
    (named namer : List ℕ)
    → has_row rows (record { named = named; namer = namer })
    ≡ list_any (names_as named namer) elements

-- What is shown anew: the elements near the new ones, and near all that name one of these whose
-- kind is new, settled among what surrounds them, with the keys that they are shown with.
pub record AreRepairs (live shown news : List ElementValue) (puts : List Put) : Type 0 where
  pub start : List (List ℕ)
  pub near : List (List ℕ)
  pub wide : List (List ℕ)
  pub started : AreStartedBy start news
  pub kinds_started : All (StaysKind live start) news
  pub reached : HaveReached live start near
  pub surrounded : AreSurrounded live news near wide
  pub placed : All (IsInPlace shown) puts
  pub drawn : map without_index (puts_of puts) ≡ map without_index
      (filter (λ (e : ElementValue). is_among near e.id)
      (settled (in_scene_order (filter_map (element_after live news) wide))))

-- A view, its elements in the order of their ids, what is shown of them, the rows of who names
-- whom, and the ids of those that may be shown otherwise than they are stored, or with another key.
pub record IsKeptView (live shown : List ElementValue) (rows : List LinkRow)
    (unsettled : Unsettled) : Type 0 where
  pub view : IsView live shown
  pub table : HaveRowsOf live rows
  pub noted : AreNoted unsettled live shown
