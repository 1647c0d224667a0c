-- Elements in the order of their ids, among which others are put one after another.
use Rattle.std.proofs.Common.{◌≡◌, ℕ, Bool, true, false, cond, List, [], ◌∷◌, ◌++◌, get_or, Option, Some, None, IsSome, All, if◌then◌else◌, bytes_eq, refl, sym, ap, ◌∙◌, inl, inr}
use Rattle.std.specs.Option.{option_or}
use Rattle.std.proofs.lemmas.Bool.{cases_Bool, cond-true, cond-false, and_parts, false≢true}
use Rattle.std.proofs.lemmas.List.Elements.{All-head, All-tail, Contains-get_or}
use Rattle.frac_keys.specs.Keys.{bytes_less}
use Rattle.frac_keys.specs.Rising.{rise_between, are_rising}
use Rattle.elem.specs.ElementValue.{ElementValue}
use Rattle.elem.specs.Order.{has_id}
use Rattle.elem_store.specs.Updates.{element_of, ids_of, is_newer, is_taken}
use Rattle.elem_store.proofs.CallerLemmas.{same_id, of_other, above, less-other, none_above, same_elements}
use Rattle.undo_model.specs.Carrying.{with_put, with_all_put, taken_all}
use Rattle.undo_model.proofs.CallerLemmas.{put-rising}
use Rattle.snapshot.specs.inner.Carried.{HasPut}

-- ---- one more

-- it is the element of its id, and the others stay, whether the ids rise or not
pub put-each : (x : ElementValue) (xs : List ElementValue) (id : List ℕ)
    → element_of (with_put x xs) id ≡ cond (has_id id x) (Some x) (element_of xs id)
put-each x [] id = refl
put-each x (y ∷ ys) id =
    elim (bytes_less y.id x.id) as (λ b. bytes_less y.id x.id ≡ b
    → element_of (if b then y ∷ with_put x ys else (if bytes_eq x.id y.id then x ∷ ys else x ∷ y ∷ ys)) id
    ≡ cond (has_id id x) (Some x) (element_of (y ∷ ys) id)) [
      | true ↦ λ less.
          ap (λ o. cond (has_id id y) (Some y) o) (put-each x ys id)
          ∙ swapped (has_id id y) (has_id id x)
          (λ t. of_other id x (λ same. less-other y.id x.id less (sym (same_id id y t) ∙ same)))
      | false ↦ λ more.
          elim (bytes_eq x.id y.id) as (λ b. bytes_eq x.id y.id ≡ b → element_of (if b then x ∷ ys else x ∷ y ∷ ys) id
          ≡ cond (has_id id x) (Some x) (element_of (y ∷ ys) id)) [
            | true ↦ λ same. again (has_id id x) (has_id id y) (ap (bytes_eq id) (same_id x.id y same))
            | false ↦ λ other. refl
          ] refl
    ] refl
  where
    swapped : (b c : Bool) → (b ≡ true → c ≡ false) → cond b (Some y) (cond c (Some x) (element_of ys id))
        ≡ cond c (Some x) (cond b (Some y) (element_of ys id))
    swapped true true h = absurd (false≢true (sym (h refl)))
    swapped true false h = refl
    swapped false c h = refl

    again : (b c : Bool) → b ≡ c → cond b (Some x) (element_of ys id)
        ≡ cond b (Some x) (cond c (Some y) (element_of ys id))
    again true c e = refl
    again false true e = absurd (false≢true e)
    again false false e = refl

-- what an edit makes of the elements is that
pub put-is : (before after : List ElementValue) (e : ElementValue) → are_rising (ids_of before) ≡ true
    → HasPut before e after → after ≡ with_put e before
put-is before after e rising put =
    same_elements after (with_put e before) put.ordered (put-rising e before rising) (λ id. put.each id
    ∙ sym (put-each e before id))

pub HasPut-put : (before : List ElementValue) (e : ElementValue) → are_rising (ids_of before) ≡ true
    → HasPut before e (with_put e before)
HasPut-put before e rising = record { ordered = put-rising e before rising; each = put-each e before }

-- one that is there already
pub put-there : (x : ElementValue) (xs : List ElementValue) → are_rising (ids_of xs) ≡ true
    → element_of xs x.id ≡ Some x → with_put x xs ≡ xs
put-there x xs h there =
    same_elements (with_put x xs) xs (put-rising x xs h) h (λ id. put-each x xs id ∙ (elim (cases_Bool (has_id id x)) [
      | inl t ↦ cond-true (has_id id x) (Some x) (element_of xs id) t ∙ sym there
          ∙ ap (element_of xs) (sym (same_id id x t))
      | inr f ↦ cond-false (has_id id x) (Some x) (element_of xs id) f
    ]))

-- ---- several
pub all-rise : (news xs : List ElementValue) → are_rising (ids_of xs) ≡ true
    → are_rising (ids_of (with_all_put news xs)) ≡ true
all-rise [] xs h = h
all-rise (x ∷ news) xs h = all-rise news (with_put x xs) (put-rising x xs h)

pub all-append : (news more xs : List ElementValue) → with_all_put (news ++ more) xs
    ≡ with_all_put more (with_all_put news xs)
all-append [] more xs = refl
all-append (x ∷ news) more xs = all-append news more (with_put x xs)

tail-rises : (x : ElementValue) (xs : List ElementValue) → rise_between (Some x.id) None (ids_of xs) ≡ true
    → are_rising (ids_of xs) ≡ true
tail-rises x [] h = refl
tail-rises x (y ∷ ys) h = (and_parts (bytes_less x.id y.id) (rise_between (Some y.id) None (ids_of ys)) h).1

-- what they answer of an id: one of them, or what was there
pub all-each : (news xs : List ElementValue) (id : List ℕ) → are_rising (ids_of news) ≡ true
    → element_of (with_all_put news xs) id ≡ option_or (element_of news id) (element_of xs id)
all-each [] xs id h = refl
all-each (x ∷ news) xs id h =
    all-each news (with_put x xs) id (tail-rises x news h) ∙ ap (option_or (element_of news id)) (put-each x xs id)
    ∙ (elim (cases_Bool (has_id id x)) [
      | inl t ↦
          let none : element_of news id ≡ None = ap (element_of news) (same_id id x t) ∙ none_above x.id None news h in
          ap (λ o. option_or o (cond (has_id id x) (Some x) (element_of xs id))) none
          ∙ cond-true (has_id id x) (Some x) (element_of xs id) t
          ∙ sym (ap (λ o. option_or o (element_of xs id)) (cond-true (has_id id x) (Some x) (element_of news id) t))
      | inr f ↦
          ap (option_or (element_of news id)) (cond-false (has_id id x) (Some x) (element_of xs id) f)
          ∙ sym (ap (λ o. option_or o (element_of xs id)) (cond-false (has_id id x) (Some x) (element_of news id) f))
    ])

-- one more below others
over : (b : Bool) (x : ElementValue) (o p : Option ElementValue)
    → option_or (cond b (Some x) o) p ≡ cond b (Some x) (option_or o p)
over true x o p = refl
over false x o p = refl

pub put-below : (x : ElementValue) (ys zs : List ElementValue) → are_rising (ids_of ys) ≡ true
    → are_rising (ids_of zs) ≡ true → with_all_put (with_put x ys) zs ≡ with_put x (with_all_put ys zs)
put-below x ys zs h k =
    same_elements (with_all_put (with_put x ys) zs) (with_put x (with_all_put ys zs)) (all-rise (with_put x ys) zs k)
    (put-rising x (with_all_put ys zs) (all-rise ys zs k))
    (λ id. all-each (with_put x ys) zs id (put-rising x ys h)
    ∙ ap (λ o. option_or o (element_of zs id)) (put-each x ys id)
    ∙ over (has_id id x) x (element_of ys id) (element_of zs id)
    ∙ sym (put-each x (with_all_put ys zs) id ∙ ap (cond (has_id id x) (Some x)) (all-each ys zs id h)))

pub all-below : (news ys zs : List ElementValue) → are_rising (ids_of ys) ≡ true → are_rising (ids_of zs) ≡ true
    → with_all_put (with_all_put news ys) zs ≡ with_all_put news (with_all_put ys zs)
all-below [] ys zs h k = refl
all-below (x ∷ news) ys zs h k =
    all-below news (with_put x ys) zs (put-rising x ys h) k ∙ ap (with_all_put news) (put-below x ys zs h k)

-- elements over some that have no other ids
covered : (o p : Option ElementValue) → (IsSome p → IsSome o) → option_or o p ≡ o
covered (Some e) p h = refl
covered None None h = refl
covered None (Some x) h = absurd (false≢true (h refl))

pub all-cover : (news xs : List ElementValue) → are_rising (ids_of news) ≡ true → are_rising (ids_of xs) ≡ true
    → ((id : List ℕ) → IsSome (element_of xs id) → IsSome (element_of news id)) → with_all_put news xs ≡ news
all-cover news xs h k known =
    same_elements (with_all_put news xs) news (all-rise news xs k) h (λ id. all-each news xs id h
    ∙ covered (element_of news id) (element_of xs id) (known id))

-- ---- updates that are all taken
pub taken_all-put : (changed stored : List ElementValue) → are_rising (ids_of changed) ≡ true
    → All (λ e. is_taken stored e ≡ true) changed → taken_all changed stored ≡ with_all_put changed stored
taken_all-put [] stored h all = refl
taken_all-put (e ∷ more) stored h all =
    ap (taken_all more) (cond-true (is_taken stored e) (with_put e stored) stored
    (All-head (λ (x : ElementValue). is_taken stored x ≡ true) e more all))
    ∙ taken_all-put more (with_put e stored) (tail-rises e more h) (λ k d l.
    let f = get_or more k d in
    let less = above e.id None more f h (Contains-get_or more k d l) in
    ap (is_newer f) (put-each e stored f.id
    ∙ cond-false (has_id f.id e) (Some e) (element_of stored f.id)
    (of_other f.id e (λ same. less-other e.id f.id less (sym same))))
    ∙ All-tail (λ (x : ElementValue). is_taken stored x ≡ true) e more all k d l)
