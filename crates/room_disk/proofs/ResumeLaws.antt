-- What a room resumes with: each element has a key, and only those without one got another, above all others.
use Rattle.std.proofs.Common.{◌≡◌, ℕ, List, [], ◌∷◌, ◌++◌, true, Result, Ok, Err, IfOk, Option, Some, None, is_some, Contains, bytes_eq, map, refl, sym, ap, ap₂, ◌∙◌, subst, inl, inr, arith, All}
use Rattle.std.specs.List.{list_all}
use Rattle.std.proofs.lemmas.Bool.{and_from, and_parts, cases_Bool, cond-true, cond-false}
use Rattle.frac_keys.specs.Between.{key_between, keys_above, keys_between}
use Rattle.frac_keys.specs.Keys.{bytes_less}
use Rattle.frac_keys.specs.Rising.{ends_rise, is_key_or_none, rise_between, are_rising}
use Rattle.frac_keys.proofs.CallerLemmas.{key_between-law, keys_between-law, bytes_less-trans, bytes_less-turned, ends_rise-none}
use Rattle.std.proofs.lemmas.List.Elements.{All-nil, All-cons, All-head, All-tail}
use Rattle.elem.specs.ElementValue.{ElementValue}
use Rattle.elem_read.specs.Reading.{IsWholeElement}
use Rattle.elem_read.proofs.CallerLemmas.{IsSound}
use Rattle.scene_file.proofs.CallerLemmas.{AreSound, sound-with, sounds-whole, wholes-sound, keys-or-none}
use Rattle.json_text.proofs.CallerLemmas.{bytes_eq-true}
use Rattle.elem_store.specs.Stock.{Held}
use Rattle.elem_store.specs.Updates.{ids_of, AreStored}
use Rattle.elem_store.proofs.CallerLemmas.{AreStored-itself, store-unique, Contains-cases}
use Rattle.index_repair.specs.Keyed.{index_of}
use Rattle.scene_file.specs.Whole.{HaveKeys}
use Rattle.room_disk.specs.Resuming.{greater_key, greatest_key, with_key_above, last_behind, filled_above, resumed, keyless_with, keyless_count, key_if_new, new_keys, IsFilled, AreFilled, IsAtMost}

-- ---- one element
has-key : (index last : Option (List ℕ)) (e : ElementValue) → e.index ≡ index
    → is_some (with_key_above index last e).index ≡ true
has-key (Some key) last e is = ap is_some is
has-key None last e is = refl

is-filled : (index last : Option (List ℕ)) (e : ElementValue) → IsFilled index e (with_key_above index last e)
is-filled (Some key) last e = refl
is-filled None last e = (key_between last None, refl)

pub same-id : (index last : Option (List ℕ)) (e : ElementValue) → (with_key_above index last e).id ≡ e.id
same-id (Some key) last e = refl
same-id None last e = refl

-- ---- all elements
pub filled-keys : (last : Option (List ℕ)) (elements : List ElementValue) → HaveKeys (filled_above last elements)
filled-keys last [] = refl
filled-keys last (e ∷ elements) =
    and_from (is_some (with_key_above e.index last e).index)
    (list_all (λ (x : ElementValue). is_some x.index) (filled_above (last_behind e.index last) elements))
    (has-key e.index last e refl) (filled-keys (last_behind e.index last) elements)

pub filled-are : (last : Option (List ℕ)) (elements : List ElementValue)
    → AreFilled elements (filled_above last elements)
filled-are last [] = tt
filled-are last (e ∷ elements) = (is-filled e.index last e, filled-are (last_behind e.index last) elements)

pub filled-ids : (last : Option (List ℕ)) (elements : List ElementValue)
    → ids_of (filled_above last elements) ≡ ids_of elements
filled-ids last [] = refl
filled-ids last (e ∷ elements) = ap₂ (λ (id : List ℕ) (ids : List (List ℕ)). id ∷ ids) (same-id e.index last e)
    (filled-ids (last_behind e.index last) elements)

-- the new keys are the keys between the last one and none
new-more : (index last : Option (List ℕ)) (e : ElementValue) (elements : List ElementValue)
    → ((low : Option (List ℕ)) → new_keys elements (filled_above low elements)
    ≡ map Some (keys_above low (keyless_count elements)))
    → key_if_new index (with_key_above index last e)
    ++ new_keys elements (filled_above (last_behind index last) elements)
    ≡ map Some (keys_above last (keyless_with index (keyless_count elements)))
unfolding keys_above
new-more (Some key) last e elements more = more last
new-more None last e elements more =
    ap (λ (keys : List (Option (List ℕ))). Some (key_between last None) ∷ keys) (more (Some (key_between last None)))

pub filled-new : (last : Option (List ℕ)) (elements : List ElementValue)
    → new_keys elements (filled_above last elements) ≡ map Some (keys_above last (keyless_count elements))
unfolding keys_above
filled-new last [] = refl
filled-new last (e ∷ elements) = new-more e.index last e elements (λ low. filled-new low elements)

-- ---- the greatest key
at-most-trans : (a b : List ℕ) (c : Option (List ℕ)) → bytes_less a b ≡ true → IsAtMost b c → IsAtMost a c
at-most-trans a b None h k = k
at-most-trans a b (Some c) h (inl same) = inr (subst (λ x. bytes_less a x ≡ true) same h)
at-most-trans a b (Some c) h (inr less) = inr (bytes_less-trans a b c h less)

-- of two keys both are at most the greater one, and what that is at most
both-at-most : (low : Option (List ℕ)) (key : List ℕ) (greatest : Option (List ℕ))
    → ((k : List ℕ) → greater_key low (Some key) ≡ Some k → IsAtMost k greatest) → IsAtMost key greatest
both-at-most None key greatest h = h key refl
both-at-most (Some low) key greatest h = elim (cases_Bool (bytes_less low key)) [
  | inl t ↦ h key (cond-true (bytes_less low key) (Some key) (Some low) t)
  | inr f ↦ elim (cases_Bool (bytes_eq key low)) [
    | inl same ↦ subst (λ k. IsAtMost k greatest) (sym (bytes_eq-true key low same))
        (h low (cond-false (bytes_less low key) (Some key) (Some low) f))
    | inr differ ↦ at-most-trans key low greatest (bytes_less-turned key low differ f)
        (h low (cond-false (bytes_less low key) (Some key) (Some low) f))
  ]
]

low-at-most : (low : List ℕ) (index : Option (List ℕ)) (greatest : Option (List ℕ))
    → ((k : List ℕ) → greater_key (Some low) index ≡ Some k → IsAtMost k greatest) → IsAtMost low greatest
low-at-most low None greatest h = h low refl
low-at-most low (Some key) greatest h = elim (cases_Bool (bytes_less low key)) [
  | inl t ↦ at-most-trans low key greatest t (h key (cond-true (bytes_less low key) (Some key) (Some low) t))
  | inr f ↦ h low (cond-false (bytes_less low key) (Some key) (Some low) f)
]

low-within : (low : Option (List ℕ)) (elements : List ElementValue) (key : List ℕ) → low ≡ Some key
    → IsAtMost key (greatest_key low elements)
low-within low [] key is = rw is (inl refl)
low-within low (e ∷ elements) key is =
    subst (λ l. IsAtMost key (greatest_key (greater_key l e.index) elements)) (sym is)
    (low-at-most key e.index (greatest_key (greater_key (Some key) e.index) elements)
    (λ k same. low-within (greater_key (Some key) e.index) elements k same))

key-of : (low index : Option (List ℕ)) (elements : List ElementValue) (key : List ℕ) → index ≡ Some key
    → IsAtMost key (greatest_key (greater_key low index) elements)
key-of low index elements key is =
    subst (λ i. IsAtMost key (greatest_key (greater_key low i) elements)) (sym is)
    (both-at-most low key (greatest_key (greater_key low (Some key)) elements)
    (λ k same. low-within (greater_key low (Some key)) elements k same))

pub keys-within : (low : Option (List ℕ)) (elements : List ElementValue) (e : ElementValue) (key : List ℕ)
    → Contains elements e → e.index ≡ Some key → IsAtMost key (greatest_key low elements)
keys-within low [] e key c is = absurd (omega (arith, c.1))
keys-within low (f ∷ elements) e key c is = elim (Contains-cases f elements e c) [
  | inl same ↦ key-of low f.index elements key (ap (λ (x : ElementValue). x.index) same ∙ is)
  | inr later ↦ keys-within (greater_key low f.index) elements e key later is
]

-- the greatest of keys is a key
greater-key : (low index : Option (List ℕ)) → is_key_or_none low ≡ true → is_key_or_none index ≡ true
    → is_key_or_none (greater_key low index) ≡ true
greater-key low None h k = h
greater-key low (Some key) h k = elim (cases_Bool (ends_rise low (Some key))) [
  | inl t ↦ ap is_key_or_none (cond-true (ends_rise low (Some key)) (Some key) low t) ∙ k
  | inr f ↦ ap is_key_or_none (cond-false (ends_rise low (Some key)) (Some key) low f) ∙ h
]

pub greatest-key : (low : Option (List ℕ)) (elements : List ElementValue) → is_key_or_none low ≡ true
    → list_all is_key_or_none (map index_of elements) ≡ true → is_key_or_none (greatest_key low elements) ≡ true
greatest-key low [] h k = h
greatest-key low (e ∷ elements) h k =
    let parts = and_parts (is_key_or_none e.index) (list_all is_key_or_none (map index_of elements)) k in
    greatest-key (greater_key low e.index) elements (greater-key low e.index h parts.0) parts.1

-- the new keys rise above the greatest
pub new-rise : (elements : List ElementValue) → list_all is_key_or_none (map index_of elements) ≡ true
    → rise_between (greatest_key None elements) None
    (keys_between (greatest_key None elements) None (keyless_count elements)) ≡ true
new-rise elements keys =
    (keys_between-law (greatest_key None elements) None (keyless_count elements) (greatest-key None elements refl keys)
    refl (ends_rise-none (greatest_key None elements))).rise

-- ---- whole elements stay whole
one-sound : (index last : Option (List ℕ)) (e : ElementValue) → is_key_or_none last ≡ true → IsSound e
    → IsSound (with_key_above index last e)
one-sound (Some key) last e h sound = sound
one-sound None last e h sound =
    let between = key_between-law last None h refl (ends_rise-none last) in
    sound-with e (Some (key_between last None)) e.groups e.frame e.bound e.container e.start_binding e.end_binding sound
    between.key
    sound.written.groups sound.written.frame sound.written.bound (inl refl) (inl refl) (inl refl)

pub last-key : (index last : Option (List ℕ)) → is_key_or_none last ≡ true
    → is_key_or_none (last_behind index last) ≡ true
last-key (Some key) last h = h
last-key None last h = (key_between-law last None h refl (ends_rise-none last)).key

filled-sound : (last : Option (List ℕ)) (elements : List ElementValue) → is_key_or_none last ≡ true → AreSound elements
    → AreSound (filled_above last elements)
filled-sound last [] h sound = All-nil IsSound
filled-sound last (e ∷ elements) h sound =
    All-cons IsSound (with_key_above e.index last e) (filled_above (last_behind e.index last) elements)
    (one-sound e.index last e h (All-head IsSound e elements sound))
    (filled-sound (last_behind e.index last) elements (last-key e.index last h) (All-tail IsSound e elements sound))

pub resumed-whole : (elements : List ElementValue) → All IsWholeElement elements → All IsWholeElement (resumed elements)
resumed-whole elements whole =
    let sound = wholes-sound elements whole in
    sounds-whole (resumed elements) (filled-sound (greatest_key None elements) elements
    (greatest-key None elements refl (keys-or-none elements sound)) sound)

-- ---- the store of them
pub resumed-stored : {E : Type 0} (elements updates : List ElementValue) (r : Result Held E)
    → are_rising (ids_of elements) ≡ true → updates ≡ resumed elements
    → IfOk r (λ store. AreStored updates store.elements) → IfOk r (λ store. store.elements ≡ resumed elements)
resumed-stored elements updates (Ok store) ordered same stored =
    let rising = ap are_rising (filled-ids (greatest_key None elements) elements) ∙ ordered in
    store-unique (resumed elements) store.elements (resumed elements)
    (subst (λ us. AreStored us store.elements) same stored) (AreStored-itself (resumed elements) rising)
resumed-stored elements updates (Err e) ordered same stored = tt
