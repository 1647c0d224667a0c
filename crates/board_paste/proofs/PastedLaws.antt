-- What is stored after a paste, and its keys.
use Rattle.std.proofs.Common.{◌≡◌, ◌≢◌, inl, inr, ℕ, false, ◌&&◌, List, [], ◌∷◌, ◌++◌, Option, Some, None, Contains, map, bytes_eq, refl, sym, ap, ap₂, ◌∙◌, arith}
use Rattle.std.specs.List.{IsDistinct, AllByRecursion}
use Rattle.std.proofs.lemmas.Bool.{false≢true}
use Rattle.json_text.proofs.CallerLemmas.{bytes_eq-same}
use Rattle.elem.specs.ElementValue.{ElementValue}
use Rattle.elem.specs.Order.{has_id, HaveDistinctIds}
use Rattle.index_repair.specs.Keyed.{keyed, with_index}
use Rattle.index_repair.proofs.CallerLemmas.{keyed-distinct}
use Rattle.elem_store.specs.Updates.{element_of, is_best, is_unbeaten, stored_of, AreStored}
use Rattle.elem_store.proofs.CallerLemmas.{Contains-cases, Contains-cons, Contains-head, find-None, find-Some, of_itself, of_other, same_id, stored-append, joined_leader, stored-None, AreStored-stored, IsBestOf-stored}
use Rattle.copies.specs.Copies.{copies_of}
use Rattle.board_paste.specs.Pasting.{pasted}
use Rattle.copies.proofs.CallerLemmas.{copies-distinct, original, copy-named}

-- ---- elements of distinct ids
apart-from : (id : List ℕ) (xs : List ElementValue) (e : ElementValue)
    → AllByRecursion (λ y. bytes_eq id y ≡ false) (map (λ (x : ElementValue). x.id) xs) → Contains xs e
    → bytes_eq id e.id ≡ false
apart-from id [] e apart c = absurd (omega (arith, c.1))
apart-from id (x ∷ xs) e apart c =
    elim (Contains-cases x xs e c) [
      | inl s ↦ ap (λ (y : ElementValue). bytes_eq id y.id) (sym s) ∙ apart.0
      | inr r ↦ apart-from id xs e apart.1 r
    ]

not-apart : (x e : ElementValue) (xs : List ElementValue)
    → AllByRecursion (λ y. bytes_eq x.id y ≡ false) (map (λ (y : ElementValue). y.id) xs) → Contains xs e → x.id ≡ e.id
    → ⊥
not-apart x e xs apart c same =
    false≢true (sym (apart-from x.id xs e apart c) ∙ (ap (bytes_eq x.id) (sym same) ∙ bytes_eq-same x.id))

one-each : (xs : List ElementValue) (e other : ElementValue) → HaveDistinctIds xs → Contains xs e → Contains xs other
    → e.id ≡ other.id → e ≡ other
unfolding IsDistinct
one-each [] e other d c k same = absurd (omega (arith, c.1))
one-each (x ∷ xs) e other d c k same =
    elim (Contains-cases x xs e c) [
      | inl s ↦ elim (Contains-cases x xs other k) [
        | inl t ↦ sym s ∙ t
        | inr r ↦ absurd (not-apart x other xs d.0 r (ap (λ (y : ElementValue). y.id) s ∙ same))
      ]
      | inr r ↦ elim (Contains-cases x xs other k) [
        | inl t ↦ absurd (not-apart x e xs d.0 r (ap (λ (y : ElementValue). y.id) t ∙ sym same))
        | inr q ↦ one-each xs e other d.1 r q same
      ]
    ]

-- ---- with other keys
keyed-from : (es : List ElementValue) (keys : List (List ℕ)) (e : ElementValue) → Contains (keyed es keys) e
    → (old : ElementValue) × Contains es old × (e.id ≡ old.id)
keyed-from [] keys e c = absurd (omega (arith, c.1))
keyed-from (x ∷ es) [] e c = absurd (omega (arith, c.1))
keyed-from (x ∷ es) (key ∷ keys) e c =
    elim (Contains-cases (with_index x key) (keyed es keys) e c) [
      | inl s ↦ (x, Contains-head x es, ap (λ (y : ElementValue). y.id) (sym s))
      | inr r ↦ let k = keyed-from es keys e r in (k.0, Contains-cons x es k.0 k.1, k.2)
    ]

-- ---- new elements of distinct ids beside those that are stored
none-of : (xs : List ElementValue) (id : List ℕ) → ((e : ElementValue) → Contains xs e → e.id ≢ id)
    → stored_of xs id ≡ None
unfolding stored_of
none-of xs id others =
    find-None (is_best xs id) xs (λ e c. ap (λ b. b && is_unbeaten xs e)
    (of_other id e (λ same. others e c (sym same))))

own-of : (xs : List ElementValue) (e : ElementValue) → HaveDistinctIds xs → Contains xs e → stored_of xs e.id ≡ Some e
own-of xs e d c = go (stored_of xs e.id) refl
  where
    go : (o : Option ElementValue) → stored_of xs e.id ≡ o → stored_of xs e.id ≡ Some e
    go None k = absurd (stored-None xs e.id e k c (of_itself e))
    go (Some x) k =
        let best = IsBestOf-stored xs e.id x k in
        k ∙ ap Some (sym (one-each xs e x d c best.taken (same_id e.id x best.named)))

module _ (updates stored more news : List ElementValue) (before : AreStored updates stored)
    (after : AreStored (updates ++ more) news)
    (distinct : HaveDistinctIds more) (new : (e : ElementValue) → Contains more e → element_of stored e.id ≡ None) where
  there : (e : ElementValue) → element_of news e.id ≡ Some e → Contains news e
  there e found = (find-Some (has_id e.id) news e found).0

  pub kept-beside : (e : ElementValue) → Contains stored e → Contains news e
  kept-beside e c =
      let own = AreStored-stored updates stored e before c in
      let here : element_of stored e.id ≡ Some e = before.each e.id ∙ own in
      let none = none-of more e.id (λ m k same. absurd (apart m (new m k) (ap (element_of stored) same ∙ here))) in
      there e (after.each e.id ∙ (stored-append updates more e.id ∙ ap₂ joined_leader own none))
    where
      apart : (m : ElementValue) → element_of stored m.id ≡ None → element_of stored m.id ≡ Some e → ⊥
      apart m none some = absurd cc

  pub added-beside : (e : ElementValue) → Contains more e → Contains news e
  added-beside e c =
      let own = own-of more e distinct c in
      there e (after.each e.id ∙ (stored-append updates more e.id
      ∙ ap₂ joined_leader (sym (before.each e.id) ∙ new e c) own))

-- ---- a clip's elements
module _ (updates stored elements news : List ElementValue) (prefix : List ℕ) (before : AreStored updates stored)
    (after : AreStored (updates ++ pasted stored elements prefix) news)
    (distinct : HaveDistinctIds elements) (new : (e : ElementValue) → Contains elements e
    → element_of stored (prefix ++ e.id) ≡ None) where
  pasted-distinct : HaveDistinctIds (pasted stored elements prefix)
  unfolding pasted
  pasted-distinct = keyed-distinct (copies_of elements prefix) _ (copies-distinct elements prefix distinct)

  pasted-new : (e : ElementValue) → Contains (pasted stored elements prefix) e → element_of stored e.id ≡ None
  unfolding pasted
  pasted-new e c =
      let k = keyed-from (copies_of elements prefix) _ e c in
      let o = original elements prefix k.0 k.1 in
      ap (element_of stored) (k.2 ∙ (ap (λ (x : ElementValue). x.id) (sym o.2) ∙ copy-named elements prefix o.0))
      ∙ new o.0 o.1

  pub pasted-kept : (e : ElementValue) → Contains stored e → Contains news e
  pasted-kept = kept-beside updates stored (pasted stored elements prefix) news before after pasted-distinct pasted-new

  pub pasted-added : (e : ElementValue) → Contains (pasted stored elements prefix) e → Contains news e
  pasted-added =
      added-beside updates stored (pasted stored elements prefix) news before after pasted-distinct pasted-new
