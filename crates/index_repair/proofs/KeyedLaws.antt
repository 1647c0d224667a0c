-- Elements whose keys are repaired: what holds of every element holds of them, and keys that rise stay.
use Rattle.std.proofs.Common.{◌≡◌, ℕ, true, List, [], ◌∷◌, map, Option, Some, None, IfSome, refl, sym, ap, ap₂, ◌∙◌, bytes_eq, false}
use Rattle.std.specs.List.{All, list_all, AllByRecursion, IsDistinct, zip}
use Rattle.std.proofs.lemmas.Bool.{and_from, and_parts}
use Rattle.frac_keys.specs.Keys.{is_key}
use Rattle.frac_keys.specs.Rising.{is_key_or_none}
use Rattle.index_repair.specs.Keyed.{index_of, keyed, with_index, HaveKeysOrNone, HaveRisingKeys}
use Rattle.index_repair.specs.Repair.{repaired}
use Rattle.index_repair.proofs.RepairLaws.{AreRepaired-from, repaired-rising}
use Rattle.elem.specs.ElementValue.{ElementValue}
use Rattle.elem.specs.Facts.{IsElement}
use Rattle.elem.specs.Said.{HasValidTexts}
use Rattle.elem.proofs.CallerLemmas as parts
use Rattle.elem.proofs.CallerLemmas.{IsKept, AreKept, kept-from, kept-to}
use Rattle.elem.specs.Order.{HaveDistinctIds}

-- ---- keys
pub kept-keys : (es : List ElementValue) → AreKept es → HaveKeysOrNone es
kept-keys [] all = refl
kept-keys (e ∷ es) all = and_from (is_key_or_none e.index) (list_all is_key_or_none (map index_of es))
    (by e.index all.0.written.index) (kept-keys es all.1)
  where
    by : (key : Option (List ℕ)) → IfSome key (λ k. is_key k ≡ true) → is_key_or_none key ≡ true
    by None is = refl
    by (Some key) is = is

with_index-kept : (e : ElementValue) (key : List ℕ) → is_key key ≡ true → IsKept e → IsKept (with_index e key)
with_index-kept e key is kept = parts.with_index e kept (Some key) is

pub keyed-kept : (es : List ElementValue) (keys : List (List ℕ)) → list_all is_key keys ≡ true → AreKept es
    → AreKept (keyed es keys)
keyed-kept [] keys are all = tt
keyed-kept (e ∷ es) [] are all = tt
keyed-kept (e ∷ es) (key ∷ keys) are all =
    let parts = and_parts (is_key key) (list_all is_key keys) are in
    (with_index-kept e key parts.0 all.0, keyed-kept es keys parts.1 all.1)

pub repaired-kept : (es : List ElementValue) → AreKept es → AreKept (keyed es (repaired (map index_of es)))
repaired-kept es all = keyed-kept es (repaired (map index_of es))
    (AreRepaired-from (map index_of es) (repaired (map index_of es)) refl (kept-keys es all)).new_keys all

-- ---- pairs of an element and a key, and ids
pub keyed-zip : (es : List ElementValue) (keys : List (List ℕ))
    → map (λ (p : ElementValue × List ℕ). with_index p.0 p.1) (zip es keys) ≡ keyed es keys
keyed-zip [] [] = refl
keyed-zip [] (key ∷ keys) = refl
keyed-zip (e ∷ es) [] = refl
keyed-zip (e ∷ es) (key ∷ keys) = ap (λ fs. with_index e key ∷ fs) (keyed-zip es keys)

keyed-apart : (id : List ℕ) (es : List ElementValue) (keys : List (List ℕ))
    → AllByRecursion (λ other. bytes_eq id other ≡ false) (map (λ (e : ElementValue). e.id) es)
    → AllByRecursion (λ other. bytes_eq id other ≡ false) (map (λ (e : ElementValue). e.id) (keyed es keys))
keyed-apart id [] keys apart = tt
keyed-apart id (e ∷ es) [] apart = tt
keyed-apart id (e ∷ es) (key ∷ keys) apart = (apart.0, keyed-apart id es keys apart.1)

pub keyed-distinct : (es : List ElementValue) (keys : List (List ℕ)) → HaveDistinctIds es
    → HaveDistinctIds (keyed es keys)
unfolding IsDistinct
keyed-distinct [] keys distinct = tt
keyed-distinct (e ∷ es) [] distinct = tt
keyed-distinct (e ∷ es) (key ∷ keys) distinct = (keyed-apart e.id es keys distinct.0, keyed-distinct es keys distinct.1)

-- ---- as laws say it
pub keyed-elements : (es : List ElementValue) → All (λ e. IsElement e × HasValidTexts e) es
    → All (λ e. IsElement e × HasValidTexts e) (keyed es (repaired (map index_of es)))
keyed-elements es all = kept-to (keyed es (repaired (map index_of es))) (repaired-kept es (kept-from es all))

-- the keys that elements have already change nothing
with_own_key : (e : ElementValue) (key : List ℕ) → e.index ≡ Some key → record e { index = Some key } ≡ e
with_own_key e key h = ap (λ index. record e { index = index }) (sym h)

keyed-own : (es : List ElementValue) (keys : List (List ℕ)) → map index_of es ≡ map Some keys → keyed es keys ≡ es
keyed-own [] keys h = refl
keyed-own (e ∷ es) [] h = cc
keyed-own (e ∷ es) (key ∷ keys) h = ap₂ (λ f fs. f ∷ fs) (with_own_key e key (cc)) (keyed-own es keys (cc))

pub keyed-rising : (es : List ElementValue) → HaveRisingKeys es → keyed es (repaired (map index_of es)) ≡ es
keyed-rising es h = ap (keyed es) (ap repaired h.each ∙ repaired-rising h.keys h.rise) ∙ keyed-own es h.keys h.each
