-- What holds of a store of a list of updates.
use Rattle.std.proofs.Common.{◌≡◌, ℕ, Bool, true, false, cond, ◌&&◌, ◌||◌, List, [], ◌∷◌, ◌++◌, Option, Some, None, is_some, Contains, refl, sym, ap, ap₂, ◌∙◌, subst, inl, inr}
use Rattle.std.specs.List.{list_any}
use Rattle.std.specs.Option.{option_map_or}
use Rattle.std.proofs.lemmas.Bool.{cases_Bool, cond-true, cond-false, false_from_ne_true, false≢true}
use Rattle.std.proofs.lemmas.List.Elements.{All-contains, All-contains_itself, All-weaker}
use Rattle.std.proofs.lemmas.Option.{same_Some}
use Rattle.frac_keys.specs.Rising.{are_rising}
use Rattle.elem.specs.ElementValue.{ElementValue}
use Rattle.elem.specs.Order.{beats, has_id}
use Rattle.elem.specs.Facts.{IsElement}
use Rattle.elem.specs.Said.{HasValidTexts, AreElements}
use Rattle.elem_store.specs.Updates.{best_updates, stored_of, element_of, is_taken, ids_of, AreStored, HasTaken, is_newer, takings, HaveSameUpdates, AreBest}
use Rattle.elem_store.proofs.Ids.{same_id, of_itself}
use Rattle.elem_store.proofs.Lists.{find-Some, find-None}
use Rattle.elem_store.proofs.Leader.{next_leader, joined_leader, stored-push, stored-append}
use Rattle.elem_store.proofs.BestUpdates.{IsBestOf, IsBestOf-stored, IsBestOf-best, stored-best, best-same, is_some-stored, stored-None}
use Rattle.elem_store.proofs.Rising.{member, same_elements}

-- a list of updates has one store
pub store-unique : (updates elements others : List ElementValue) → AreStored updates elements → AreStored updates others
    → elements ≡ others
store-unique updates elements others h k =
    same_elements elements others h.ordered k.ordered (λ id. h.each id ∙ sym (k.each id))

-- what a store answers of an id after it was given an update of that id
next : (e : ElementValue) (o : Option ElementValue) → cond (option_map_or (beats e) o true) (Some e) o
    ≡ Some (next_leader e o)
next e None = refl
next e (Some old) =
    elim (beats e old) as (λ b. cond b (Some e) (Some old) ≡ Some (cond b e old)) [ true ↦ refl | false ↦ refl ]

-- a store that was given an update is the store of the list with the update at its end
pub AreStored-push : (updates elements new : List ElementValue) (e : ElementValue) → AreStored updates elements
    → HasTaken elements e new → AreStored (updates ++ e ∷ []) new
AreStored-push updates elements new e h t = record {
  ordered = t.ordered;
  each = λ id. t.each id ∙ sym (stored-push updates e id ∙ pushed id);
}
  where
    pushed : (id : List ℕ) → cond (has_id id e) (Some (next_leader e (stored_of updates id))) (stored_of updates id)
        ≡ cond (has_id id e && is_taken elements e) (Some e) (element_of elements id)
    pushed id =
        let given = λ (b : Bool). cond (b && is_taken elements e) (Some e) (element_of elements id) in
        elim (cases_Bool (has_id id e)) [
          | inl t ↦ cond-true (has_id id e) (Some (next_leader e (stored_of updates id))) (stored_of updates id) t
              ∙ ap (λ o. Some (next_leader e o)) (sym (h.each id))
              ∙ sym (ap given t
              ∙ subst (λ i. cond (option_map_or (beats e) (element_of elements i) true) (Some e)
              (element_of elements id) ≡ Some (next_leader e (element_of elements id))) (same_id id e t)
              (next e (element_of elements id)))
          | inr f ↦ cond-false (has_id id e) (Some (next_leader e (stored_of updates id))) (stored_of updates id) f
              ∙ sym (h.each id) ∙ sym (ap given f)
        ]

-- an element of a store is the stored element of its id
pub AreStored-stored : (updates elements : List ElementValue) (e : ElementValue) → AreStored updates elements
    → Contains elements e → stored_of updates e.id ≡ Some e
AreStored-stored updates elements e h c = sym (h.each e.id) ∙ member None None elements e h.ordered c

-- so it is one of the best updates of its id
pub AreStored-best : (updates elements : List ElementValue) (e : ElementValue) → AreStored updates elements
    → Contains elements e → Contains (best_updates updates e.id) e
AreStored-best updates elements e h c = stored-best updates e.id e (AreStored-stored updates elements e h c)

-- a store has an element of an id exactly if an update has it
pub AreStored-ids : (updates elements : List ElementValue) (id : List ℕ) → AreStored updates elements
    → is_some (element_of elements id) ≡ list_any (has_id id) updates
AreStored-ids updates elements id h = ap is_some (h.each id) ∙ is_some-stored updates id

-- all best updates of an id are the same
pub bests-same : (updates : List ElementValue) (id : List ℕ) (e other : ElementValue) → AreElements updates
    → Contains (best_updates updates id) e → Contains (best_updates updates id) other → e ≡ other
bests-same updates id e other all c d =
    best-same updates id e other all (IsBestOf-best updates id e c) (IsBestOf-best updates id other d)

-- what is stored is the best update of each id
pub AreBest-stored : (updates elements : List ElementValue) → AreStored updates elements → AreBest updates elements
AreBest-stored updates elements h = record {
  ordered = h.ordered;
  each_id = λ id. AreStored-ids updates elements id h;
  best = λ e c. AreStored-best updates elements e h c;
}

-- and the best update of each id is what is stored
pub AreStored-from_best : (updates chosen : List ElementValue) → AreElements updates → AreBest updates chosen
    → AreStored updates chosen
AreStored-from_best updates chosen all h =
    record { ordered = h.ordered; each = λ id. same id (element_of chosen id) (stored_of updates id) refl refl }
  where
    agree : (id : List ℕ) → is_some (element_of chosen id) ≡ is_some (stored_of updates id)
    agree id = h.each_id id ∙ sym (is_some-stored updates id)

    same : (id : List ℕ) (o o' : Option ElementValue) → element_of chosen id ≡ o → stored_of updates id ≡ o' → o ≡ o'
    same id None None k l = refl
    same id None (Some f) k l = absurd (false≢true (sym (ap is_some k) ∙ agree id ∙ ap is_some l))
    same id (Some e) None k l = absurd (false≢true (sym (ap is_some l) ∙ sym (agree id) ∙ ap is_some k))
    same id (Some e) (Some f) k l =
        let found = find-Some (has_id id) chosen e k in
        let among = subst (λ i. Contains (best_updates updates i) e) (sym (same_id id e found.1)) (h.best e found.0) in
        ap Some (bests-same updates id e f all among (stored-best updates id f l))

-- a best update is one in each list of the same updates
same-best : (updates others : List ElementValue) (id : List ℕ) (e : ElementValue) → HaveSameUpdates updates others
    → IsBestOf others id e → IsBestOf updates id e
same-best updates others id e same best = record {
  taken = same.in_updates e best.taken;
  named = best.named;
  unbeaten = λ other c of. best.unbeaten other (same.in_others other c) of;
}

same-stored : (updates others : List ElementValue) (id : List ℕ) (o o' : Option ElementValue)
    → HaveSameUpdates updates others → AreElements updates → stored_of updates id ≡ o → stored_of others id ≡ o'
    → o ≡ o'
same-stored updates others id None None same all h k = refl
same-stored updates others id (Some e) None same all h k =
    let best =
    IsBestOf-stored updates id e h in absurd (stored-None others id e k (same.in_others e best.taken) best.named)
same-stored updates others id None (Some e) same all h k =
    let best =
    IsBestOf-stored others id e k in absurd (stored-None updates id e h (same.in_updates e best.taken) best.named)
same-stored updates others id (Some e) (Some f) same all h k =
    ap Some (best-same updates id e f all (IsBestOf-stored updates id e h)
    (same-best updates others id f same (IsBestOf-stored others id f k)))

-- two lists of the same updates have one store
pub stores-converge : (updates others elements news : List ElementValue) → HaveSameUpdates updates others
    → AreElements updates → AreStored updates elements → AreStored others news → elements ≡ news
stores-converge updates others elements news same all h k =
    same_elements elements news h.ordered k.ordered (λ id.
    h.each id ∙ same-stored updates others id (stored_of updates id) (stored_of others id) same all refl refl
    ∙ sym (k.each id))

-- where the ids of some elements rise they are the store of every list of the same elements
pub AreStored-reordered : (updates elements : List ElementValue) → HaveSameUpdates updates elements
    → are_rising (ids_of elements) ≡ true → AreStored updates elements
AreStored-reordered updates elements same h = record { ordered = h; each = λ id. own id (stored_of updates id) refl }
  where
    own : (id : List ℕ) (o : Option ElementValue) → stored_of updates id ≡ o
        → element_of elements id ≡ stored_of updates id
    own id None k =
        find-None (has_id id) elements
        (λ e c. false_from_ne_true (has_id id e) (stored-None updates id e k (same.in_updates e c))) ∙ sym k
    own id (Some e) k =
        let best = IsBestOf-stored updates id e k in
        ap (element_of elements) (same_id id e best.named)
        ∙ member None None elements e h (same.in_others e best.taken) ∙ sym k

-- so they are their own store
pub AreStored-itself : (elements : List ElementValue) → are_rising (ids_of elements) ≡ true
    → AreStored elements elements
AreStored-itself elements h =
    AreStored-reordered elements elements (record { in_others = λ e c. c; in_updates = λ e c. c }) h

-- the store of two stores' elements is the store of their updates
pub AreStored-append : (updates others elements news all : List ElementValue) → AreStored updates elements
    → AreStored others news → AreStored (elements ++ news) all → AreStored (updates ++ others) all
AreStored-append updates others elements news all h k m = record { ordered = m.ordered; each = each }
  where
    own : (updates elements : List ElementValue) (id : List ℕ) → AreStored updates elements
        → stored_of elements id ≡ stored_of updates id
    own updates elements id h = sym ((AreStored-itself elements h.ordered).each id) ∙ h.each id

    each : (id : List ℕ) → element_of all id ≡ stored_of (updates ++ others) id
    each id =
        m.each id ∙ stored-append elements news id
        ∙ ap₂ joined_leader (own updates elements id h) (own others news id k)
        ∙ sym (stored-append updates others id)

-- where no two updates of one id differ each update is stored
pub AreStored-all : (updates elements : List ElementValue) (e : ElementValue) → AreStored updates elements
    → ((e other : ElementValue) → Contains updates e → Contains updates other → e.id ≡ other.id → e ≡ other)
    → Contains updates e → Contains elements e
AreStored-all updates elements e h one c = stored (stored_of updates e.id) refl
  where
    stored : (o : Option ElementValue) → stored_of updates e.id ≡ o → Contains elements e
    stored None k = absurd (stored-None updates e.id e k c (of_itself e))
    stored (Some x) k =
        let best = IsBestOf-stored updates e.id x k in
        let same = one e x c best.taken (same_id e.id x best.named) in
        subst (Contains elements) (sym same) (find-Some (has_id e.id) elements x (h.each e.id ∙ k)).0

-- what is stored was among the updates
pub stored-given : (updates elements : List ElementValue) (e : ElementValue) → AreStored updates elements
    → Contains elements e → Contains updates e
stored-given updates elements e h c = (IsBestOf-stored updates e.id e (AreStored-stored updates elements e h c)).taken

pub elements-stored : (updates elements : List ElementValue) → AreElements updates → AreStored updates elements
    → AreElements elements
elements-stored updates elements all h =
    All-weaker (Contains elements) (λ e. IsElement e × HasValidTexts e)
    (λ e c. All-contains (λ e. IsElement e × HasValidTexts e) updates e all (stored-given updates elements e h c))
    elements (All-contains_itself elements)

-- a store of elements that takes one is a store of elements
pub elements-taken : (old new : List ElementValue) (e : ElementValue) → AreElements old → IsElement e → HasValidTexts e
    → HasTaken old e new → AreElements new
elements-taken old new e all is w t =
    All-weaker (Contains new) (λ x. IsElement x × HasValidTexts x)
    (λ x c. go x (has_id x.id e && is_taken old e) refl (sym (member None None new x t.ordered c) ∙ t.each x.id)) new
    (All-contains_itself new)
  where
    go : (x : ElementValue) (b : Bool) → (has_id x.id e && is_taken old e) ≡ b
        → Some x ≡ cond (has_id x.id e && is_taken old e) (Some e) (element_of old x.id) → IsElement x × HasValidTexts x
    go x true k h =
        let same : x ≡ e =
        same_Some x e (h ∙ cond-true (has_id x.id e && is_taken old e) (Some e) (element_of old x.id) k) in
        subst (λ y. IsElement y × HasValidTexts y) (sym same) (is, w)
    go x false k h =
        let kept = sym (h ∙ cond-false (has_id x.id e && is_taken old e) (Some e) (element_of old x.id) k) in
        All-contains (λ y. IsElement y × HasValidTexts y) old x all (find-Some (has_id x.id) old x kept).0

-- what one list has two have
any-append : (p : ElementValue → Bool) (updates more : List ElementValue) → list_any p updates ≡ true
    → list_any p (updates ++ more) ≡ true
any-append p [] more h = cc
any-append p (e ∷ updates) more h = elim (cases_Bool (p e)) [
  | inl t ↦ ap (λ b. b || list_any p (updates ++ more)) t
  | inr f ↦ ap (λ b. b || list_any p (updates ++ more)) f
      ∙ any-append p updates more (sym (ap (λ b. b || list_any p updates) f) ∙ h)
]

-- ids stay stored
pub ids-stay : (updates more elements news : List ElementValue) (id : List ℕ) → AreStored updates elements
    → AreStored (updates ++ more) news
    → is_some (element_of elements id) ≡ true → is_some (element_of news id) ≡ true
ids-stay updates more elements news id h k some =
    AreStored-ids (updates ++ more) news id k
    ∙ any-append (has_id id) updates more (sym (AreStored-ids updates elements id h) ∙ some)

-- lists with the same stored elements take the same further updates
takings-same : (updates others more : List ElementValue) → ((id : List ℕ) → stored_of updates id ≡ stored_of others id)
    → takings updates more ≡ takings others more
takings-same updates others [] same = refl
takings-same updates others (e ∷ more) same =
    let later = takings-same (updates ++ e ∷ []) (others ++ e ∷ []) more
    (λ id. stored-push updates e id ∙ ap (λ o. cond (has_id id e) (Some (next_leader e o)) o) (same id)
    ∙ sym (stored-push others e id)) in
    ap₂ (λ o rest. cond (is_newer e o) (record { before = o; taken = e } ∷ rest) rest) (same e.id) later

pub takings-stored : (updates elements more : List ElementValue) → AreStored updates elements
    → takings elements more ≡ takings updates more
takings-stored updates elements more h =
    takings-same elements updates more (λ id. sym ((AreStored-itself elements h.ordered).each id) ∙ h.each id)
