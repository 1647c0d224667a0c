-- Held ids by the order of a set and by their bytes.
use Rattle.std.proofs.Common.{◌≡◌, ℕ, Bool, true, false, cond, not, ◌&&◌, ◌||◌, List, [], ◌∷◌, Option, Some, None, map, bytes_eq, nat_cmp, refl, sym, ap, ◌∙◌, inl, inr}
use Rattle.std.specs.BTreeMap.{is_at}
use Rattle.std.specs.Cmp.Lexicographic.{slice_cmp}
use Rattle.std.specs.List.{list_any}
use Rattle.std.proofs.lemmas.Bool.{cases_Bool}
use Rattle.std.proofs.lemmas.Slice.Eq.{bytes_eq-Decides}
use Rattle.json_text.specs.Compact.{Member as Pair}
use Rattle.json_text.specs.Parts.{names_of}
use Rattle.scene_json.specs.Named.{value_at}
use Rattle.scene_json.proofs.CallerLemmas.{rising_same}
use Rattle.elem_store.proofs.CallerLemmas.{is_at-bytes, is_at-among}
use Rattle.elem_store.specs.Updates.{is_among}
use Rattle.reconcile.specs.Ids.{AreStrictlySorted, HasAdded, HasDropped}

-- what an update of a set at an id says of each id
abbrev pub Updates : Bool → List (List ℕ) → List ℕ → List (List ℕ) → Type 0
Updates b old id new =
    (q : List ℕ) → list_any (is_at (slice_cmp nat_cmp q)) new
    ≡ cond (is_at (slice_cmp nat_cmp id) q) b (list_any (is_at (slice_cmp nat_cmp q)) old)

updated : (b : Bool) (old : List (List ℕ)) (id : List ℕ) (new : List (List ℕ)) → Updates b old id new → (q : List ℕ)
    → is_among new q ≡ cond (bytes_eq q id) b (is_among old q)
updated b old id new updates q =
    sym (is_at-among q new) ∙ updates q
    ∙ ap (λ own. cond own b (list_any (is_at (slice_cmp nat_cmp q)) old)) (is_at-bytes id q)
    ∙ ap (cond (bytes_eq q id) b) (is_at-among q old)

or-cond : (b c : Bool) → cond b true c ≡ (b || c)
or-cond true c = refl
or-cond false c = refl

and-cond : (b c : Bool) → cond b false c ≡ (not b && c)
and-cond true c = refl
and-cond false c = refl

pub HasAdded-new : (old : List (List ℕ)) (id : List ℕ) (new : List (List ℕ)) → AreStrictlySorted new
    → Updates true old id new → HasAdded old id new
HasAdded-new old id new rise updates =
    record { ordered = rise; each = λ q. updated true old id new updates q ∙ or-cond (bytes_eq q id) (is_among old q) }

pub HasDropped-old : (old : List (List ℕ)) (id : List ℕ) (new : List (List ℕ)) → AreStrictlySorted new
    → Updates false old id new → HasDropped old id new
HasDropped-old old id new rise updates =
    record {
      ordered = rise;
      each = λ q. updated false old id new updates q ∙ and-cond (bytes_eq q id) (is_among old q);
    }

-- an id that is held is added by nothing
pub HasAdded-held : (ids : List (List ℕ)) (id : List ℕ) → AreStrictlySorted ids → is_among ids id ≡ true
    → HasAdded ids id ids
HasAdded-held ids id rise held = record { ordered = rise; each = each }
  where
    each : (q : List ℕ) → is_among ids q ≡ (bytes_eq q id || is_among ids q)
    each q = elim (cases_Bool (bytes_eq q id)) [
      | inl t ↦ ap (is_among ids) ((bytes_eq-Decides q id).0 t) ∙ held ∙ sym (ap (λ b. b || is_among ids q) t)
      | inr f ↦ sym (ap (λ b. b || is_among ids q) f)
    ]

-- ids as members without values
bare : List (List ℕ) → List Pair
bare ids = map (λ id. (id, [])) ids

names-bare : (ids : List (List ℕ)) → names_of (bare ids) ≡ ids
unfolding bare
names-bare [] = refl
names-bare (id ∷ ids) = ap (λ xs. id ∷ xs) (names-bare ids)

found : (b : Bool) → Option (List ℕ)
found b = cond b (Some []) None

value-bare : (id : List ℕ) (ids : List (List ℕ)) → value_at id (bare ids) ≡ found (is_among ids id)
unfolding bare found
value-bare id [] = refl
value-bare id (other ∷ ids) =
    elim (bytes_eq id other) as (λ b. cond b (Some []) (value_at id (bare ids)) ≡ found (b || is_among ids id))
    [ true ↦ refl | false ↦ value-bare id ids ]

pub held-unique : (ids others : List (List ℕ)) → AreStrictlySorted ids → AreStrictlySorted others
    → ((id : List ℕ) → is_among ids id ≡ is_among others id) → ids ≡ others
held-unique ids others rise also same =
    sym (names-bare ids)
    ∙ ap names_of (rising_same (bare ids) (bare others) (rw names-bare rise) (rw names-bare also)
    (λ id. value-bare id ids ∙ ap found (same id) ∙ sym (value-bare id others)))
    ∙ names-bare others
