-- How the code keeps who names whom: rows of an id and an element, in the order of the fronts of the
-- ids as numbers, then of the ids and, for one id, of the list. This project's own.
-- Only this crate's own bodies and proofs need it.
use Rattle.std.specs.Prelude.{◌≡◌, ℕ, List, [], ◌∷◌, Bool, filter, map}
use Rattle.std.specs.List.Sorted.{IsSortedBy}
use Rattle.std.specs.Cmp.Lexicographic.{slice_cmp}
use Rattle.std.specs.Ordering.{is_lt, nat_cmp}
use Rattle.elem.specs.ElementValue.{ElementValue}
use Rattle.std.specs.BTreeSet.{BTreeSet}
use Rattle.elem.specs.declared.parts.BoundRef.{BoundRef}
use Rattle.elem.specs.Order.{has_id}
use Rattle.links.specs.declared.table.Row.{Row}
use Rattle.links.specs.Entries.{lists, arrow_entry, text_entry}
use Rattle.links.specs.inner.Keys.{front_number, rank}
use Rattle.links.specs.Names.{names_container}
use Rattle.links.specs.Tables.{elements_under, has_seen, with_listing_entry}

-- whether a row stands before another one
abbrev pub row_less : Row → Row → Bool
row_less row other = is_lt (slice_cmp nat_cmp (rank row.key) (rank other.key))

abbrev pub row_front : Row → ℕ
row_front row = front_number row.key

-- The rows are in order, and these are the fronts of their ids.
pub record AreOrdered (fronts : List ℕ) (rows : List Row) : Type 0 where
  pub ordered : IsSortedBy row_less rows
  pub beside : fronts ≡ map row_front rows

-- These rows have under each id the elements of the list that name it, in the list's order.
pub record IsTable (names : List ℕ → ElementValue → Bool) (list : List ElementValue)
    (rows : List Row) : Type 0 where
  pub found : (key : List ℕ) → elements_under key rows ≡ filter (names key) list

-- the tables of a list: its elements by their ids, and its texts by their containers
pub record AreTables (list : List ElementValue) (by_id by_container : List Row) : Type 0 where
  pub ids : IsTable has_id list by_id
  pub texts : IsTable names_container list by_container

abbrev pub with_entries : List BoundRef → List BoundRef → List BoundRef
with_entries entries [] = entries
with_entries entries (entry ∷ others) = with_entries (with_listing_entry entries entry) others

-- The ids that were seen are those of the entries.
pub record AreSeen (entries : List BoundRef) (arrows texts : BTreeSet (List ℕ)) : Type 0 where
  pub arrow_ids : (id : List ℕ) → has_seen arrows id ≡ lists entries (arrow_entry id)
  pub text_ids : (id : List ℕ) → has_seen texts id ≡ lists entries (text_entry id)
