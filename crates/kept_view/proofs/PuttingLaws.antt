-- Elements that are put at places of others of their ids and indices.
use Rattle.std.proofs.Common.{◌≡◌, ℕ, zero, suc, ◌+◌, ◌<◌, Bool, true, false, cond, List, [], ◌∷◌, ◌++◌, length, map, filter, set, take, get_or, append-nil, Option, Some, None, IfSome, IsSomeAnd, All, Contains, slice_get, bytes_eq, refl, sym, ap, ap₂, ◌∙◌, subst, inl, inr, arith}
use Rattle.std.specs.List.{AllByRecursion, IsDistinct}
use Rattle.std.specs.Option.{option_or}
use Rattle.std.proofs.ByRecursion.{All-weaker}
use Rattle.std.proofs.lemmas.Bool.{cases_Bool}
use Rattle.std.proofs.lemmas.Option.{get_or_from_slice_get}
use Rattle.elem.specs.ElementValue.{ElementValue}
use Rattle.elem.specs.Order.{has_id, HaveDistinctIds}
use Rattle.elem_store.specs.Updates.{element_of, ids_of}
use Rattle.elem_store.proofs.CallerLemmas.{same_id, Contains-head}
use Rattle.std.proofs.lemmas.List.{take_more}
use Rattle.std.proofs.lemmas.List.Elements.{All-append, All-cons, All-contains, All-nil, Contains-append_right, filter-append}
use Rattle.index_repair.specs.Keyed.{index_of}
use Rattle.view.specs.Shown.{without_index}
use Rattle.kept_view.specs.declared.places.Put.{Put}
use Rattle.kept_view.proofs.ByIds.{none_apart}
use Rattle.kept_view.specs.inner.Putting.{puts_of, IsWithin, IsInPlace, all_put}

-- what is said of what is put, if anything is, says what follows from it
pub IfSome-weaker : {A : Type 0} (P Q : A → Type 0) → ((a : A) → P a → Q a) → (o : Option A) → IfSome o P → IfSome o Q
IfSome-weaker P Q h None is = tt
IfSome-weaker P Q h (Some a) is = h a is

-- an element of the place's id and index leaves the ids and the indices as they are
ids-set : (es : List ElementValue) (i : ℕ) (e : ElementValue)
    → IsSomeAnd (slice_get es i) (λ x. (x.id ≡ e.id) × (x.index ≡ e.index)) → ids_of (set es i e) ≡ ids_of es
ids-set [] i e is = absurd is
ids-set (x ∷ es) zero e is = ap (λ id. id ∷ ids_of es) (sym is.0)
ids-set (x ∷ es) (suc i) e is = ap (λ ids. x.id ∷ ids) (ids-set es i e is)

indices-set : (es : List ElementValue) (i : ℕ) (e : ElementValue)
    → IsSomeAnd (slice_get es i) (λ x. (x.id ≡ e.id) × (x.index ≡ e.index))
    → map index_of (set es i e) ≡ map index_of es
indices-set [] i e is = absurd is
indices-set (x ∷ es) zero e is = ap (λ index. index ∷ map index_of es) (sym is.1)
indices-set (x ∷ es) (suc i) e is = ap (λ indices. x.index ∷ indices) (indices-set es i e is)

within-place : (es : List ElementValue) (i : ℕ) (e : ElementValue)
    → IsSomeAnd (slice_get es i) (λ x. (x.id ≡ e.id) × (x.index ≡ e.index)) → i < length es
within-place [] i e is = absurd is
within-place (x ∷ es) zero e is = omega arith
within-place (x ∷ es) (suc i) e is = let l = within-place es i e is in omega arith

pub IsWithin-place : (es : List ElementValue) (put : Put) → IsInPlace es put → IsWithin es put
IsWithin-place es put is = within-place es put.at put.e is

-- a place in a list is one in another with the same ids and indices
place-same : (es fs : List ElementValue) (i : ℕ) (e : ElementValue) → ids_of es ≡ ids_of fs
    → map index_of es ≡ map index_of fs
    → IsSomeAnd (slice_get es i) (λ x. (x.id ≡ e.id) × (x.index ≡ e.index))
    → IsSomeAnd (slice_get fs i) (λ x. (x.id ≡ e.id) × (x.index ≡ e.index))
place-same [] fs i e ids indices is = absurd is
place-same (x ∷ es) [] i e ids indices is = cc
place-same (x ∷ es) (y ∷ fs) zero e ids indices is =
    let id : x.id ≡ y.id = cc in
    let index : x.index ≡ y.index = cc in
    (sym id ∙ is.0, sym index ∙ is.1)
place-same (x ∷ es) (y ∷ fs) (suc i) e ids indices is = place-same es fs i e (cc) (cc) is

module _ (put : Put) (es : List ElementValue) (here : IsInPlace es put) where
  pub next : (puts : List Put) → AllByRecursion (IsInPlace es) puts
      → AllByRecursion (IsInPlace (set es put.at put.e)) puts
  next puts all =
      All-weaker (IsInPlace es) (IsInPlace (set es put.at put.e))
      (λ (p : Put) is. place-same es (set es put.at put.e) p.at p.e (sym (ids-set es put.at put.e here))
      (sym (indices-set es put.at put.e here)) is) puts all

pub ids-all_put : (puts : List Put) (es : List ElementValue) → AllByRecursion (IsInPlace es) puts
    → ids_of (all_put puts es) ≡ ids_of es
ids-all_put [] es all = refl
ids-all_put (put ∷ puts) es all =
    ids-all_put puts (set es put.at put.e) (next put es all.0 puts all.1) ∙ ids-set es put.at put.e all.0

pub indices-all_put : (puts : List Put) (es : List ElementValue) → AllByRecursion (IsInPlace es) puts
    → map index_of (all_put puts es) ≡ map index_of es
indices-all_put [] es all = refl
indices-all_put (put ∷ puts) es all =
    indices-all_put puts (set es put.at put.e) (next put es all.0 puts all.1) ∙ indices-set es put.at put.e all.0

-- the element of an id after one was put
element-set : (es : List ElementValue) (i : ℕ) (e : ElementValue) (id : List ℕ) → HaveDistinctIds es
    → IsSomeAnd (slice_get es i) (λ x. (x.id ≡ e.id) × (x.index ≡ e.index))
    → element_of (set es i e) id ≡ cond (has_id id e) (Some e) (element_of es id)
unfolding IsDistinct
element-set [] i e id apart is = absurd is
element-set (x ∷ es) zero e id apart is =
    elim (cases_Bool (has_id id e)) [
      | inl own ↦ rw own refl
      | inr other ↦
          let also : has_id id x ≡ false = ap (bytes_eq id) is.0 ∙ other in
          rw (other, also) refl
    ]
element-set (x ∷ es) (suc i) e id apart is =
    elim (cases_Bool (has_id id x)) [
      | inl first ↦
          let named : id ≡ x.id = same_id id x first in
          let other : has_id id e ≡ false = ap (λ n. bytes_eq n e.id) named ∙ later x.id es i e apart.0 is in
          rw (first, other) refl
      | inr off ↦ rw off (element-set es i e id apart.1 is)
    ]
  where
    later : (n : List ℕ) (fs : List ElementValue) (k : ℕ) (f : ElementValue)
        → AllByRecursion (λ other. bytes_eq n other ≡ false) (ids_of fs)
        → IsSomeAnd (slice_get fs k) (λ y. (y.id ≡ f.id) × (y.index ≡ f.index)) → bytes_eq n f.id ≡ false
    later n [] k f all at' = absurd at'
    later n (y ∷ fs) zero f all at' = ap (bytes_eq n) (sym at'.0) ∙ all.0
    later n (y ∷ fs) (suc k) f all at' = later n fs k f all.1 at'

pub element-all_put : (puts : List Put) (es : List ElementValue) (id : List ℕ) → HaveDistinctIds es
    → AllByRecursion (IsInPlace es) puts → HaveDistinctIds (puts_of puts)
    → element_of (all_put puts es) id ≡ option_or (element_of (puts_of puts) id) (element_of es id)
unfolding IsDistinct
element-all_put [] es id apart all distinct = refl
element-all_put (put ∷ puts) es id apart all distinct =
    let after = set es put.at put.e in
    element-all_put puts after id (subst (IsDistinct bytes_eq) (sym (ids-set es put.at put.e all.0)) apart)
    (next put es all.0 puts all.1) distinct.1
    ∙ ap (option_or (element_of (puts_of puts) id)) (element-set es put.at put.e id apart all.0)
    ∙ elim (cases_Bool (has_id id put.e)) [
      | inl own ↦
          let none : element_of (puts_of puts) id ≡ None =
          ap (element_of (puts_of puts)) (same_id id put.e own) ∙ none_apart put.e.id (puts_of puts) distinct.0 in
          rw (own, none) refl
      | inr other ↦ rw other refl
    ]

-- one more is put
pub all_put-push : (puts : List Put) (put : Put) (es : List ElementValue)
    → all_put (puts ++ put ∷ []) es ≡ set (all_put puts es) put.at put.e
all_put-push [] put es = refl
all_put-push (first ∷ puts) put es = all_put-push puts put (set es first.at first.e)

pub length-all_put : (puts : List Put) (es : List ElementValue) → length (all_put puts es) ≡ length es
length-all_put [] es = refl
length-all_put (put ∷ puts) es = length-all_put puts (set es put.at put.e) ∙ length-set' es put.at put.e where
  length-set' : (xs : List ElementValue) (i : ℕ) (x : ElementValue) → length (set xs i x) ≡ length xs
  length-set' [] i x = refl
  length-set' (y ∷ xs) zero x = refl
  length-set' (y ∷ xs) (suc i) x = ap suc (length-set' xs i x)

-- one of the puts is within
pub put-within : (es : List ElementValue) (puts done : List Put) (put : Put) (rest : List Put) → All (IsWithin es) puts
    → puts ≡ done ++ put ∷ rest → put.at < length es
put-within es puts done put rest all parts =
    All-contains (IsWithin es) puts put all
    (subst (λ ps. Contains ps put) (sym parts)
    (Contains-append_right done (put ∷ rest) put (Contains-head put rest)))

-- ---- one put more each time
pub puts-push : (puts : List Put) (put : Put) (news : List ElementValue) (i : ℕ) (e : ElementValue) → i < length news
    → e ≡ get_or news i e → puts_of puts ≡ take i news → put.e ≡ e
    → puts_of (puts ++ put ∷ []) ≡ take (i + 1) news
puts-push puts put news i e within there so_far same =
    by puts ∙ ap₂ (λ es (f : ElementValue). es ++ f ∷ []) so_far (same ∙ there) ∙ sym (take_more news i e within)
  where
    by : (ps : List Put) → puts_of (ps ++ put ∷ []) ≡ puts_of ps ++ put.e ∷ []
    by [] = refl
    by (p ∷ ps) = ap (λ es. p.e ∷ es) (by ps)

pub placed-push : (P : Put → Type 0) (puts : List Put) (put : Put) → All P puts → P put → All P (puts ++ put ∷ [])
placed-push P puts put all is = All-append P puts (put ∷ []) all (All-cons P put [] is (All-nil P))

-- an element that is put with the index of the place at which its id is
pub in-place : (es : List ElementValue) (i : ℕ) (x : ElementValue) (id : List ℕ) (copy : ElementValue)
    → IsSomeAnd (slice_get es i) (λ y. y.id ≡ id) → x ≡ get_or es i x → copy.id ≡ id → copy.index ≡ x.index
    → IsSomeAnd (slice_get es i) (λ y. (y.id ≡ copy.id) × (y.index ≡ copy.index))
in-place es i x id copy found there named index = by (slice_get es i) refl found where
  by : (o : Option ElementValue) → slice_get es i ≡ o → IsSomeAnd o (λ y. y.id ≡ id)
      → IsSomeAnd o (λ y. (y.id ≡ copy.id) × (y.index ≡ copy.index))
  by None is h = absurd h
  by (Some y) is h =
      let at' : y ≡ x = sym (get_or_from_slice_get es i y x is) ∙ sym there in
      (h ∙ sym named, ap (λ (f : ElementValue). f.index) at' ∙ sym index)

module _ (q : ElementValue → Bool) (puts : List Put) (done : List ElementValue) (e : ElementValue)
    (so_far : map without_index (puts_of puts) ≡ map without_index (filter q done)) where
  kept : filter q (done ++ e ∷ []) ≡ filter q done ++ cond (q e) (e ∷ []) []
  kept = filter-append q done (e ∷ [])

  push-of : (ps : List Put) (put : Put) → map without_index (puts_of (ps ++ put ∷ [])) ≡ map without_index (puts_of ps)
      ++ without_index put.e ∷ []
  push-of [] put = refl
  push-of (p ∷ ps) put = ap (λ es. without_index p.e ∷ es) (push-of ps put)

  map-push : (xs : List ElementValue) → map without_index (xs ++ e ∷ []) ≡ map without_index xs ++ without_index e ∷ []
  map-push [] = refl
  map-push (x ∷ xs) = ap (λ es. without_index x ∷ es) (map-push xs)

  pub drawn-push : (put : Put) → q e ≡ true → without_index put.e ≡ without_index e
      → map without_index (puts_of (puts ++ put ∷ [])) ≡ map without_index (filter q (done ++ e ∷ []))
  drawn-push put is same =
      push-of puts put ∙ ap₂ (λ es (f : ElementValue). es ++ f ∷ []) so_far same ∙ sym (map-push (filter q done))
      ∙ sym (ap (map without_index) (kept ∙ ap (λ b. filter q done ++ cond b (e ∷ []) []) is))

  pub drawn-skip : q e ≡ false → map without_index (puts_of puts) ≡ map without_index (filter q (done ++ e ∷ []))
  drawn-skip not = so_far ∙ sym (ap (map without_index) (kept ∙ ap (λ b. filter q done ++ cond b (e ∷ []) []) not
      ∙ append-nil (filter q done)))
