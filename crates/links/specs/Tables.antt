-- How the code keeps who names whom: rows of an id and an element, for one id in the order of the
-- list. This project's own.
use Rattle.std.specs.Prelude.{◌≡◌, ℕ, List, [], ◌∷◌, ◌++◌, Bool, None, filter, map, bytes_eq, if◌then◌else◌}
use Rattle.elem.specs.ElementValue.{ElementValue}
use Rattle.std.specs.BTreeSet.{BTreeSet}
use Rattle.std.specs.Cmp.Lexicographic.{slice_cmp}
use Rattle.std.specs.List.{list_any}
use Rattle.std.specs.Ordering.{is_eq, nat_cmp}
use Rattle.elem.specs.declared.parts.BoundRef.{BoundRef}
use Rattle.links.specs.declared.arrows.Links.{Links}
use Rattle.links.specs.declared.table.Row.{Row}
use Rattle.links.specs.Arrows.{names_target, listing}
use Rattle.links.specs.Entries.{lists}
use Rattle.links.specs.Names.{target_of}

abbrev pub is_under : List ℕ → Row → Bool
is_under key row = bytes_eq key row.key

abbrev pub row_element : Row → ElementValue
row_element row = row.element.now

-- the elements under an id
abbrev pub elements_under : List ℕ → List Row → List ElementValue
elements_under key rows = map row_element (filter (is_under key) rows)

-- The new rows have one more element, under each id that it names.
pub record Adds (names : List ℕ → ElementValue → Bool) (e : ElementValue) (old new : List Row) :
    Type 0 where
  pub each : (key : List ℕ) → elements_under key new ≡ elements_under key old
      ++ (if names key e then e ∷ [] else [])

-- whether an id is among those that were seen
abbrev pub has_seen : BTreeSet (List ℕ) → List ℕ → Bool
has_seen seen id = list_any (λ key. is_eq (slice_cmp nat_cmp id key)) seen.keys

-- entries and one more, which is added where it is missing
abbrev pub with_listing_entry : List BoundRef → BoundRef → List BoundRef
with_listing_entry entries entry = if lists entries entry then entries else entries ++ entry ∷ []

-- what settling an element's links changes: which ends it keeps, and its listing
abbrev pub links_of : List ElementValue → ElementValue → Links
links_of list e = record {
  keeps_start = names_target list (target_of e.start_binding);
  keeps_end = names_target list (target_of e.end_binding);
  bound = listing list e;
}

-- the element with its container or without, and with these links
abbrev pub with_container : ElementValue → Bool → ElementValue
with_container e keeps = record e { container = if keeps then e.container else None }

abbrev pub with_links : ElementValue → Links → ElementValue
with_links e links = record e {
  start_binding = if links.keeps_start then e.start_binding else None;
  end_binding = if links.keeps_end then e.end_binding else None;
  bound = links.bound;
}
