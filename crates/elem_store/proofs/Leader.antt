-- The stored element of an id is the best of the updates of that id, taken one after another.
use Rattle.std.proofs.Common.{◌≡◌, ℕ, Bool, true, false, cond, not, ◌&&◌, List, [], ◌∷◌, ◌++◌, get_or, Option, Some, None, find, filter, refl, sym, ap, ap₂, ◌∙◌, subst, inl, inr, append_assoc}
use Rattle.std.specs.Cmp.{IsStrictWeakOrder}
use Rattle.std.specs.List.{list_any, best_of}
use Rattle.std.proofs.lemmas.Bool.{cases_Bool, and_left, both_ways, cond-true, cond-false, not_from_true, not_from_false, true_from_ne_false}
use Rattle.std.proofs.lemmas.List.{append-nil, get_or_default}
use Rattle.std.proofs.lemmas.List.Elements.{filter-append}
use Rattle.std.proofs.lemmas.List.Folds.{list_any_none, list_any_at}
use Rattle.std.proofs.lemmas.List.MinMax.{IsFirstBest-from_best_of}
use Rattle.std.proofs.lemmas.List.Recursion.{found_at}
use Rattle.std.proofs.lemmas.List.Sums.{fold-append}
use Rattle.elem.specs.ElementValue.{ElementValue}
use Rattle.elem.specs.Order.{beats, has_id}
use Rattle.elem.proofs.CallerLemmas.{beats-asym, beats-below}
use Rattle.elem_store.specs.Updates.{is_unbeaten, is_best, stored_of}
use Rattle.elem_store.proofs.Ids.{same_id}
use Rattle.elem_store.proofs.Lists.{find-filter, list_any-filter}

beats-IsStrictWeakOrder : IsStrictWeakOrder beats
beats-IsStrictWeakOrder = record { one_way = beats-asym; chain = λ a b c h k. beats-below c b a k h }

-- no element of the list beats it
abbrev pub leads : List ElementValue → ElementValue → Bool
leads updates e = not (list_any (λ other. beats other e) updates)

-- the first that leads, taking one after another
abbrev pub leader : List ElementValue → Option ElementValue
leader [] = None
leader (e ∷ updates) = Some (best_of beats e updates)

pub find-leads : (updates : List ElementValue) → find (leads updates) updates ≡ leader updates
find-leads [] = refl
find-leads (e ∷ rest) =
    let updates = e ∷ rest in
    let best = IsFirstBest-from_best_of beats-IsStrictWeakOrder e rest in
    let b = best.0 in
    let facts = best.1 in
    let none_beats = list_any_none (λ other. beats other (get_or updates b e)) updates
    (λ k d l. subst (λ x. beats (get_or updates k d) x ≡ false) (get_or_default updates b d e facts.0)
    (facts.1 k d l)) in
    found_at (find (leads updates)) (leads updates) Some None refl (λ _ _. refl) updates b e facts.0
    (λ k l. not_from_true (list_any (λ other. beats other (get_or updates k e)) updates)
    (list_any_at (λ other. beats other (get_or updates k e)) updates b e facts.0 (facts.2 k e l)))
    (not_from_false (list_any (λ other. beats other (get_or updates b e)) updates) none_beats)
    ∙ ap Some best.2

-- the better one of the last update and the one that leads, if there is one
abbrev pub next_leader : ElementValue → Option ElementValue → ElementValue
next_leader e None = e
next_leader e (Some old) = cond (beats e old) e old

leader-push : (updates : List ElementValue) (e : ElementValue)
    → leader (updates ++ e ∷ []) ≡ Some (next_leader e (leader updates))
leader-push [] e = refl
leader-push (first ∷ updates) e = ap Some (fold-append (λ b x. cond (beats x b) x b) first updates (e ∷ []))

-- the leader of two lists joined end to end: the one of the second if it beats the one of the first
abbrev pub joined_leader : Option ElementValue → Option ElementValue → Option ElementValue
joined_leader o None = o
joined_leader o (Some e) = Some (next_leader e o)

next_leader_assoc : (o : Option ElementValue) (e f : ElementValue)
    → next_leader f (Some (next_leader e o)) ≡ next_leader (next_leader f (Some e)) o
next_leader_assoc None e f = refl
next_leader_assoc (Some d) e f = choose (beats e d) (beats f e) refl refl
  where
    choose : (b c : Bool) → beats e d ≡ b → beats f e ≡ c
        → next_leader f (Some (cond b e d)) ≡ next_leader (cond c f e) (Some d)
    choose true true h k =
        let later : beats f d ≡ true = true_from_ne_false (beats f d) (λ n.
        both_ways (beats e d) (beats-IsStrictWeakOrder.chain e f d (beats-IsStrictWeakOrder.one_way f e k) n) h) in
        cond-true (beats f e) f e k ∙ sym (cond-true (beats f d) f d later)
    choose true false h k = cond-false (beats f e) f e k ∙ sym (cond-true (beats e d) e d h)
    choose false true h k = refl
    choose false false h k =
        cond-false (beats f d) f d (beats-IsStrictWeakOrder.chain f e d k h) ∙ sym (cond-false (beats e d) e d h)

joined_leader_assoc : (o p : Option ElementValue) (e : ElementValue)
    → joined_leader (Some (next_leader e o)) p ≡ joined_leader o (joined_leader (Some e) p)
joined_leader_assoc o None e = refl
joined_leader_assoc o (Some f) e = ap Some (next_leader_assoc o e f)

leader-append : (updates others : List ElementValue) → leader (updates ++ others)
    ≡ joined_leader (leader updates) (leader others)
leader-append updates [] = ap leader (append-nil updates)
leader-append updates (e ∷ others) =
    ap leader (sym (append_assoc updates (e ∷ []) others)) ∙ leader-append (updates ++ e ∷ []) others
    ∙ ap (λ o. joined_leader o (leader others)) (leader-push updates e)
    ∙ joined_leader_assoc (leader updates) (leader others) e
    ∙ ap (joined_leader (leader updates)) (sym (leader-append (e ∷ []) others))

pub is_best-leads : (updates : List ElementValue) (id : List ℕ) (e : ElementValue)
    → is_best updates id e ≡ (has_id id e && leads (filter (has_id id) updates) e)
is_best-leads updates id e =
    elim (cases_Bool (has_id id e)) [
      | inl t ↦ ap (λ i. has_id id e && not (list_any (λ other. has_id i other && beats other e) updates))
          (sym (same_id id e t))
          ∙ ap (λ b. has_id id e && not b) (list_any-filter (has_id id) (λ other. beats other e) updates)
      | inr f ↦ and_left (has_id id e) (is_unbeaten updates e) f
          ∙ sym (and_left (has_id id e) (leads (filter (has_id id) updates) e) f)
    ]

pub stored-leader : (updates : List ElementValue) (id : List ℕ)
    → stored_of updates id ≡ leader (filter (has_id id) updates)
unfolding stored_of
stored-leader updates id =
    let mine = filter (has_id id) updates in
    (λ i. find (λ e. is_best-leads updates id e i) updates) ∙ find-filter (has_id id) (leads mine) updates
    ∙ find-leads mine

-- the stored element of two lists joined end to end
pub stored-append : (updates others : List ElementValue) (id : List ℕ)
    → stored_of (updates ++ others) id ≡ joined_leader (stored_of updates id) (stored_of others id)
stored-append updates others id =
    stored-leader (updates ++ others) id ∙ ap leader (filter-append (has_id id) updates others)
    ∙ leader-append (filter (has_id id) updates) (filter (has_id id) others)
    ∙ ap₂ joined_leader (sym (stored-leader updates id)) (sym (stored-leader others id))

-- what a further update changes: the stored element of its own id alone
pub stored-push : (updates : List ElementValue) (e : ElementValue) (id : List ℕ)
    → stored_of (updates ++ e ∷ []) id ≡ cond (has_id id e) (Some (next_leader e (stored_of updates id)))
    (stored_of updates id)
stored-push updates e id =
    stored-leader (updates ++ e ∷ []) id ∙ ap leader (filter-append (has_id id) updates (e ∷ []))
    ∙ (elim (has_id id e) as (λ b. leader (filter (has_id id) updates ++ cond b (e ∷ []) [])
    ≡ cond b (Some (next_leader e (stored_of updates id))) (stored_of updates id)) [
      | true ↦ leader-push (filter (has_id id) updates) e
          ∙ ap (λ o. Some (next_leader e o)) (sym (stored-leader updates id))
      | false ↦ ap leader (append-nil (filter (has_id id) updates)) ∙ sym (stored-leader updates id)
    ])
