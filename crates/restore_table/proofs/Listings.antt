-- Members whose old listing, if they have one, is put into its present form.
use Rattle.std.proofs.Common.{◌≡◌, ◌≢◌, ℕ, List, [], ◌∷◌, ◌++◌, Bool, true, false, not, cond, Some, None, map, filter, bytes_eq, refl, sym, subst, ap, ◌∙◌}
use Rattle.std.specs.Cmp.Lexicographic.{nat_list_eq_equiv}
use Rattle.std.specs.List.{IsDistinct, AllByRecursion, list_any}
use Rattle.std.proofs.lemmas.List.{map-append}
use Rattle.std.proofs.lemmas.Map.{none_passes_from_lookup}
use Rattle.std.proofs.lemmas.Map.Entries.{lookup-filter-keys, lookup_head, lookup_tail}
use Rattle.std.proofs.lemmas.Map.Keys.{IsDistinct-push}
use Rattle.std.proofs.lemmas.Map.Made.{IsDistinct-keys_filter}
use Rattle.std.proofs.lemmas.Option.{none-some}
use Rattle.json_text.specs.Characters.{quote}
use Rattle.json_text.specs.Compact.{Member as Pair, array_text, has_other_name}
use Rattle.json_text.specs.Parts.{names_of}
use Rattle.scene_json.specs.Named.{value_at}
use Rattle.scene_json.specs.TheOne.{IsTheOne}
use Rattle.json_text.proofs.CallerLemmas.{bytes_eq-true, bytes_eq-same, bytes_eq-apart}
use Rattle.restore_table.specs.inner.Merged.{AreUpdated, AreOldIds}
use Rattle.restore_table.specs.Restored.{HasOldListing, listing_name, old_name, listing_text}

-- ---- without a name
filtered : (name other : List ℕ) (b : Bool) (ms : List Pair) → not (bytes_eq other name) ≡ b
    → value_at name (filter (has_other_name other) ms) ≡ cond b (value_at name ms) None
filtered name other b ms e =
    lookup-filter-keys (bytes_eq name) (λ key. not (bytes_eq other key)) b
    (λ key same. ap (λ k. not (bytes_eq other k)) (sym (bytes_eq-true name key same)) ∙ e) ms

without-gone : (name : List ℕ) (ms : List Pair) → value_at name (filter (has_other_name name) ms) ≡ None
without-gone name ms = filtered name name false ms (ap not (bytes_eq-same name))

without-other : (name other : List ℕ) (ms : List Pair) → name ≢ other → value_at name (filter (has_other_name other) ms)
    ≡ value_at name ms
without-other name other ms differ =
    filtered name other true ms (ap not (bytes_eq-apart other name (λ e. differ (sym e))))

without-distinct : (name : List ℕ) (ms : List Pair) → IsDistinct bytes_eq (names_of ms)
    → IsDistinct bytes_eq (names_of (filter (has_other_name name) ms))
without-distinct name ms apart = IsDistinct-keys_filter bytes_eq (has_other_name name) ms apart

-- ---- with one more
push-there : (m : Pair) (ms : List Pair) → value_at m.0 ms ≡ None → value_at m.0 (ms ++ m ∷ []) ≡ Some m.1
push-there m [] none = lookup_head (bytes_eq m.0) m [] (bytes_eq-same m.0)
push-there m (n ∷ ns) none =
    elim (bytes_eq m.0 n.0) as (λ b. cond b (Some n.1) (value_at m.0 ns) ≡ None
    → cond b (Some n.1) (value_at m.0 (ns ++ m ∷ [])) ≡ Some m.1) [
      | true ↦ λ h. absurd (none-some n.1 (sym h))
      | false ↦ λ h. push-there m ns h
    ] none

push-other : (name : List ℕ) (m : Pair) (ms : List Pair) → name ≢ m.0 → value_at name (ms ++ m ∷ []) ≡ value_at name ms
push-other name m [] differ = lookup_tail (bytes_eq name) m [] (bytes_eq-apart name m.0 differ)
push-other name m (n ∷ ns) differ = ap (cond (bytes_eq name n.0) (Some n.1)) (push-other name m ns differ)

none_any : (name : List ℕ) (ms : List Pair) → AllByRecursion (λ (m : Pair). bytes_eq name m.0 ≡ false) ms
    → list_any (bytes_eq name) (names_of ms) ≡ false
none_any name [] none = refl
none_any name (m ∷ ms) none = rw none.0 (none_any name ms none.1)

push-distinct : (m : Pair) (ms : List Pair) → value_at m.0 ms ≡ None → IsDistinct bytes_eq (names_of ms)
    → IsDistinct bytes_eq (names_of (ms ++ m ∷ []))
push-distinct m ms none apart =
    subst (IsDistinct bytes_eq) (sym (map-append (λ (n : Pair). n.0) ms (m ∷ [])))
    (IsDistinct-push nat_list_eq_equiv (names_of ms) m.0 apart
    (none_any m.0 ms (none_passes_from_lookup (bytes_eq m.0) ms none)))

-- ---- the three cases
differ : listing_name ≢ old_name
differ e = absurd (apart_codes (ap (λ x. bytes_eq x old_name) e))
  where
    apart_codes : bytes_eq listing_name old_name ≡ bytes_eq old_name old_name → ⊥
    apart_codes e = cc

pub updated-none : (ms us : List Pair) → IsDistinct bytes_eq (names_of ms) → value_at old_name ms ≡ None → us ≡ ms
    → AreUpdated ms us
updated-none ms us apart none same = subst (AreUpdated ms) (sym same) (record {
  ids = None;
  old = λ ids has. none-some (array_text (map quote ids)) (sym none ∙ has.named);
  distinct = apart;
  gone = none;
  listing = refl;
  others = λ name not_old not_listing. refl;
})

value-same : (v w : List ℕ) → Some v ≡ Some w → v ≡ w
value-same v w e = cc

ids-of : (ms : List Pair) (value : List ℕ) (ids : List (List ℕ)) → value_at old_name ms ≡ Some value
    → HasOldListing ms ids → AreOldIds value ids
ids-of ms value ids is has = (has.texts, value-same value (array_text (map quote ids)) (sym is ∙ has.named))

has-old : (ms : List Pair) (value : List ℕ) (ids : List (List ℕ)) → value_at old_name ms ≡ Some value
    → AreOldIds value ids → HasOldListing ms ids
has-old ms value ids is old = record { texts = old.0; named = is ∙ ap Some old.1 }

pub updated-wrong : (ms us : List Pair) (value : List ℕ) → IsDistinct bytes_eq (names_of ms)
    → value_at old_name ms ≡ Some value → IsTheOne (AreOldIds value) None →
    us ≡ filter (has_other_name old_name) ms → AreUpdated ms us
updated-wrong ms us value apart is wrong same = subst (AreUpdated ms) (sym same) (record {
  ids = None;
  old = λ ids has. wrong ids (ids-of ms value ids is has);
  distinct = without-distinct old_name ms apart;
  gone = without-gone old_name ms;
  listing = without-other listing_name old_name ms differ;
  others = λ name not_old not_listing. without-other name old_name ms not_old;
})

pub updated-listing : (ms us : List Pair) (value : List ℕ) (ids : List (List ℕ)) → IsDistinct bytes_eq (names_of ms)
    → value_at old_name ms ≡ Some value →
    IsTheOne (AreOldIds value) (Some ids)
    → us ≡ filter (has_other_name listing_name) (filter (has_other_name old_name) ms)
    ++ (listing_name, listing_text ids) ∷ [] → AreUpdated ms us
updated-listing ms us value ids apart is one same =
    let m : Pair = (listing_name, listing_text ids) in
    let first = filter (has_other_name old_name) ms in
    let kept = filter (has_other_name listing_name) first in
    subst (AreUpdated ms) (sym same) (record {
      ids = Some ids;
      old = (has-old ms value ids is one.0, λ other has. one.1 other (ids-of ms value other is has));
      distinct = push-distinct m kept (without-gone listing_name first)
          (without-distinct listing_name first (without-distinct old_name ms apart));
      gone = push-other old_name m kept (λ e. differ (sym e))
          ∙ (without-other old_name listing_name first (λ e. differ (sym e)) ∙ without-gone old_name ms);
      listing = push-there m kept (without-gone listing_name first);
      others = λ name not_old not_listing.
          push-other name m kept not_listing ∙ (without-other name listing_name first not_listing
          ∙ without-other name old_name ms not_old);
    })
