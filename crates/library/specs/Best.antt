-- The best item of each id. This project's own.
use Rattle.std.specs.Prelude.{◌≡◌, ℕ, List, Bool, true, false, ◌&&◌, ◌||◌, ◌==◌, nat_lt, Option, Some, Contains, find, map, bytes_eq, if◌then◌else◌}
use Rattle.std.specs.Option.{option_map_or}
use Rattle.frac_keys.specs.Keys.{bytes_less}
use Rattle.frac_keys.specs.Rising.{are_rising}
use Rattle.library.specs.Items.{item_text}
use Rattle.library.specs.declared.item.Item.{Item}

-- whether an item's text is less than another one's in the order of their bytes
unfoldable pub text_less : Item → Item → Bool
text_less a b = bytes_less (item_text a) (item_text b)

-- whether an item is better than another one of its id: it was made later, or at the same time and
-- its text is less
abbrev pub is_better : Item → Item → Bool
is_better a b = nat_lt b.created a.created || (a.created == b.created && text_less a b)

-- whether an item is of this id
abbrev pub has_id : List ℕ → Item → Bool
has_id id item = bytes_eq id item.id

-- the item of this id in a list
abbrev pub item_of : List Item → List ℕ → Option Item
item_of items id = find (has_id id) items

-- the ids of items
abbrev pub ids_of : List Item → List (List ℕ)
ids_of items = map (λ (item : Item). item.id) items

-- The item is among the items, and none of its id is better.
pub record IsBest (items : List Item) (item : Item) : Type 0 where
  pub among : Contains items item
  pub unbeaten : (other : Item) → Contains items other → other.id ≡ item.id
      → is_better other item ≡ false

-- These are the best item of each id, by rising id.
pub record AreBest (items best : List Item) : Type 0 where
  pub ordered : are_rising (ids_of best) ≡ true
  pub each_is_best : (item : Item) → Contains best item → IsBest items item
  pub each_id : (item : Item) → Contains items item → Contains (ids_of best) item.id

-- whether an item is new to a list of best items, or better than the one of its id
abbrev pub is_put : List Item → Item → Bool
is_put best item = option_map_or (is_better item) (item_of best item.id) true

-- These are the best items after one more was put among them: where it is new or better it is the
-- item of its id, and the others stay.
pub record HasPut (old : List Item) (item : Item) (new : List Item) : Type 0 where
  pub ordered : are_rising (ids_of new) ≡ true
  pub each : (id : List ℕ)
      → item_of new id ≡ (if has_id id item && is_put old item then Some item else item_of old id)

-- Each item of the one list is in the other one: order and repeats don't count.
pub record HaveSameItems (items others : List Item) : Type 0 where
  pub in_others : (item : Item) → Contains items item → Contains others item
  pub in_items : (item : Item) → Contains others item → Contains items item
