-- Items that are filed under their ids, in order.
use Rattle.std.proofs.Common.{◌≡◌, ℕ, Bool, true, false, cond, List, [], ◌∷◌, Option, Some, None, bytes_eq, nat_cmp, refl, sym, ap, ap₂, ◌∙◌, subst}
use Rattle.std.specs.BTreeMap.{insert_entry, is_at}
use Rattle.std.specs.Cmp.Lexicographic.{nat_list_eq_equiv, slice_cmp}
use Rattle.std.specs.List.Sorted.{IsStrictlySortedBy}
use Rattle.std.specs.Map.{keys_of, set_value}
use Rattle.std.specs.Option.{option_map, option_map_or}
use Rattle.std.specs.Ordering.{match_ordering}
use Rattle.std.specs.declared.cmp.Ordering.TheVariants.{Less, Equal, Greater}
use Rattle.std.proofs.lemmas.Map.Text.{is_eq-slice_cmp}
use Rattle.std.proofs.lemmas.Option.{none-some, same_Some}
use Rattle.json_text.proofs.CallerLemmas.{bytes_eq-true}
use Rattle.scene_json.proofs.CallerLemmas.{bytes_eq-tied}
use Rattle.frac_keys.specs.Rising.{are_rising}
use Rattle.frac_keys.proofs.CallerLemmas.{sorted-rising}
use Rattle.library.specs.Best.{ids_of, is_better, is_put, item_of, HasPut}
use Rattle.library.specs.inner.Filed.{filed, items_in, AreFiled, Entry, IsFiled}
use Rattle.library.specs.declared.item.Item.{Item}
use Rattle.library.proofs.BestLaws.{HasPut-so}

-- ---- what is filed under an id
-- whether a key is that of an item's id
at_id : (id key : List ℕ) (item : Item) → id ≡ item.id → is_at (slice_cmp nat_cmp id) key ≡ bytes_eq key item.id
at_id id key item is = is_eq-slice_cmp id key ∙ (nat_list_eq_equiv.symm id key ∙ ap (bytes_eq key) is)

-- the item of an id is what is filed under it
pub filed-is : (entries : List Entry) (id : List ℕ) → AreFiled entries
    → item_of (items_in entries) id ≡ filed entries id
filed-is [] id are = refl
filed-is (e ∷ entries) id are =
    ap₂ (λ b o. cond b (Some e.1) o) (ap (bytes_eq id) (sym are.0)
    ∙ sym (is_eq-slice_cmp id e.0)) (filed-is entries id are.1)

-- what is filed after an item was put under its id
pub filed-after : (old : List Entry) (id key : List ℕ) (item : Item) (o : Option Item) → id ≡ item.id
    → o ≡ cond (is_at (slice_cmp nat_cmp id) key) (Some item) (filed old key)
    → o ≡ cond (bytes_eq key item.id) (Some item) (filed old key)
filed-after old id key item o is e = e ∙ ap (λ b. cond b (Some item) (filed old key)) (at_id id key item is)

-- ---- the order
-- the ids of items are the keys
keys-are : (entries : List Entry) → AreFiled entries → keys_of entries ≡ ids_of (items_in entries)
keys-are [] are = refl
keys-are (e ∷ entries) are = ap₂ (λ k ks. k ∷ ks) are.0 (keys-are entries are.1)

-- entries in order are filed
pub filed-ordered : (entries : List Entry) → AreFiled entries → IsStrictlySortedBy (slice_cmp nat_cmp) (keys_of entries)
    → IsFiled entries
filed-ordered entries are sorted = record {
  under = are;
  rise = subst (λ ks. are_rising ks ≡ true) (keys-are entries are)
      (sorted-rising (keys_of entries) sorted);
}

-- ---- one item more under its id, or in place of the one there
pub filed-insert : (entries : List Entry) (id : List ℕ) (item : Item) → id ≡ item.id → AreFiled entries
    → AreFiled (insert_entry (slice_cmp nat_cmp) entries id item)
filed-insert [] id item is are = (is, tt)
filed-insert (e ∷ entries) id item is are =
    elim (slice_cmp nat_cmp id e.0) as (λ o. slice_cmp nat_cmp id e.0 ≡ o
    → AreFiled (match_ordering o ((id, item) ∷ e ∷ entries) ((e.0, item) ∷ entries)
    (e ∷ insert_entry (slice_cmp nat_cmp) entries id item))) [
      | Less ↦ λ less. (is, are)
      | Equal ↦ λ tied. (sym (bytes_eq-true id e.0 (bytes_eq-tied id e.0 tied)) ∙ is, are.1)
      | Greater ↦ λ more. (are.0, filed-insert entries id item is are.1)
    ] refl

pub filed-set : (entries : List Entry) (item : Item) → AreFiled entries
    → AreFiled (set_value (is_at (slice_cmp nat_cmp item.id)) entries item)
filed-set [] item are = tt
filed-set (e ∷ entries) item are =
    elim (is_at (slice_cmp nat_cmp item.id) e.0) as (λ b. is_at (slice_cmp nat_cmp item.id) e.0 ≡ b
    → AreFiled (cond b ((e.0, item) ∷ entries) (e ∷ set_value (is_at (slice_cmp nat_cmp item.id)) entries item))) [
      | true ↦ λ here. (bytes_eq-true e.0 item.id (sym (at_id item.id e.0 item refl) ∙ here), are.1)
      | false ↦ λ other. (are.0, filed-set entries item are.1)
    ] refl

-- ---- whether an item is put
module _ (entries : List Entry) (item : Item) (are : AreFiled entries) where
  told : (o : Option Item) → item_of (items_in entries) item.id ≡ o
      → is_put (items_in entries) item ≡ option_map_or (is_better item) o true
  told o e = ap (λ x. option_map_or (is_better item) x true) e

  -- where nothing is filed under its id it is
  pub put-new : (r : Option Bool) → r ≡ None → r ≡ option_map (is_better item) (filed entries item.id)
      → is_put (items_in entries) item ≡ true
  put-new r none is = by (filed entries item.id) refl
    where
      by : (o : Option Item) → filed entries item.id ≡ o → is_put (items_in entries) item ≡ true
      by None e = told None (filed-is entries item.id are ∙ e)
      by (Some other) e =
          absurd (none-some (is_better item other) (sym none ∙ (is ∙ ap (option_map (is_better item)) e)))

  -- and else where it is better than that
  pub put-known : (r : Option Bool) (b : Bool) → r ≡ Some b → r ≡ option_map (is_better item) (filed entries item.id)
      → is_put (items_in entries) item ≡ b
  put-known r b some is = by (filed entries item.id) refl
    where
      by : (o : Option Item) → filed entries item.id ≡ o → is_put (items_in entries) item ≡ b
      by None e = absurd (none-some b (sym (ap (option_map (is_better item)) e) ∙ (sym is ∙ some)))
      by (Some other) e =
          told (Some other) (filed-is entries item.id are ∙ e)
          ∙ same_Some (is_better item other) b (sym (ap (option_map (is_better item)) e) ∙ (sym is ∙ some))

  -- an item that was put is there
  pub filed-put : (new : List Entry) → IsFiled new → is_put (items_in entries) item ≡ true
      → ((id : List ℕ) → filed new id ≡ cond (bytes_eq id item.id) (Some item) (filed entries id))
      → HasPut (items_in entries) item (items_in new)
  filed-put new is puts after =
      HasPut-so (items_in entries) item (items_in new) is.rise puts
      (λ id. filed-is new id is.under ∙ (after id
      ∙ ap (cond (bytes_eq id item.id) (Some item)) (sym (filed-is entries id are))))
