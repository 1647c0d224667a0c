-- Which stored elements an effect may change. Only contracts of private functions cite this.
use Rattle.std.specs.Prelude.{◌≡◌, ℕ, List, Bool, true, false, Option, Some, Contains}
use Rattle.std.specs.BTreeSet.{BTreeSet, contains}
use Rattle.std.specs.Cmp.Lexicographic.{slice_cmp}
use Rattle.std.specs.Option.{option_and_then, option_map_or}
use Rattle.std.specs.Ordering.{nat_cmp}
use Rattle.elem.specs.ElementValue.{ElementValue}
use Rattle.elem_store.specs.Updates.{element_of, is_among}
use Rattle.links.specs.Steps.{names_id}
use Rattle.view.specs.Shown.{is_live}
use Rattle.effects.specs.declared.effect.Effect.{Effect}
use Rattle.effects.specs.declared.effect.Effect.TheVariants as effects
use Rattle.effects.specs.Changed.{change_of, is_full}
use Rattle.effects.specs.Refusals.{is_live_id}

-- what is made of the stored element of an id, stamped, if that changes; and whether it would
-- change one that stands at the greatest version
abbrev pub change_at : List ElementValue → (ElementValue → ElementValue) → ℕ → ℕ → List ℕ
    → Option ElementValue
change_at stored makes time nonce id =
    option_and_then (change_of makes time nonce) (element_of stored id)

abbrev pub is_full_at : List ElementValue → (ElementValue → ElementValue) → List ℕ → Bool
is_full_at stored makes id = option_map_or (is_full makes) (element_of stored id) false

-- each live stored element of another id than these stays as it is
abbrev pub LeavesOthers : (ElementValue → ElementValue) → List ElementValue → BTreeSet (List ℕ)
    → Type 0
LeavesOthers makes stored ids =
    (e : ElementValue) → Contains stored e → is_live e ≡ true
    → contains (slice_cmp nat_cmp) ids e.id ≡ false → makes e ≡ e

-- What becomes deleted is live.
abbrev pub DeletesLive : Effect → List ElementValue → Type 0
DeletesLive (effects.Delete ids) stored =
    (id : List ℕ) → contains (slice_cmp nat_cmp) ids id ≡ true → is_live_id stored id ≡ true
DeletesLive _ stored = Unit {0}

-- the one set has the ids of the other
abbrev pub IsWithin : BTreeSet (List ℕ) → BTreeSet (List ℕ) → Type 0
IsWithin ids others =
    (id : List ℕ) → contains (slice_cmp nat_cmp) ids id ≡ true
    → contains (slice_cmp nat_cmp) others id ≡ true

-- the set has the ids of the live elements that name this one
abbrev pub HasNamers : List ElementValue → List ℕ → BTreeSet (List ℕ) → Type 0
HasNamers stored id set =
    (e : ElementValue) → Contains stored e → is_live e ≡ true → names_id id e ≡ true
    → contains (slice_cmp nat_cmp) set e.id ≡ true

-- The set has the ids of the live elements that name one of these, and all that the shown elements
-- of these name.
pub record HaveLinked (stored elements : List ElementValue) (ids : List (List ℕ))
    (set : BTreeSet (List ℕ)) : Type 0 where
  pub namers : (id : List ℕ) → is_among ids id ≡ true → HasNamers stored id set
  pub named : (id other : List ℕ) (e : ElementValue) → is_among ids id ≡ true
      → element_of elements id ≡ Some e → names_id other e ≡ true
      → contains (slice_cmp nat_cmp) set other ≡ true
