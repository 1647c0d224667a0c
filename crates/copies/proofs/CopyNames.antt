-- Copies name each other as the originals do.
use Rattle.std.proofs.Common.{◌≡◌, ◌↔◌, ℕ, Bool, true, false, cond, List, [], ◌∷◌, ◌++◌, Option, Some, None, Contains, filter, map, refl, sym, ap, ◌∙◌, subst, bytes_eq}
use Rattle.std.proofs.lemmas.Bool.{cond-true}
use Rattle.std.proofs.lemmas.List.{append_cancel_left}
use Rattle.std.proofs.lemmas.Option.{same_Some}
use Rattle.std.specs.List.{IsDistinct}
use Rattle.json_text.proofs.CallerLemmas.{Contains-map, Contains-to_map}
use Rattle.elem.specs.declared.kind.Role.{Role}
use Rattle.elem.specs.declared.parts.BoundRef.{BoundRef}
use Rattle.elem.specs.declared.parts.Binding.{Binding}
use Rattle.elem.specs.ElementValue.{ElementValue}
use Rattle.elem.specs.Order.{HaveDistinctIds}
use Rattle.elem_store.proofs.CallerLemmas.{Contains-filter, filter-Contains}
use Rattle.copies.specs.Copies.{copied_end, copied_entries, copied_entry, copied_name, copies_of, copy_among, is_among}
use Rattle.copies.specs.Naming.{Way, ByStart, ByEnd, ByContainer, ByFrame, ByListing, IsBoundTo, Names, copy_of}
use Rattle.copies.proofs.Lists.{among-is, is-among, distinct-under}

-- ---- each way, where the ids that are copied are told by a test
module _ (among : List ℕ → Bool) (prefix : List ℕ) where
  -- a name
  name-to : (name : Option (List ℕ)) (new : List ℕ) → copied_name among prefix name ≡ Some new → (id : List ℕ)
      × (among id ≡ true) × (name ≡ Some id) × (new ≡ prefix ++ id)
  name-to None new e = absurd cc
  name-to (Some id) new e = go (among id) refl e
    where
      go : (b : Bool) → among id ≡ b → cond b (Some (prefix ++ id)) None ≡ Some new → (old : List ℕ)
          × (among old ≡ true) × (Some id ≡ Some old) × (new ≡ prefix ++ old)
      go true t f = (id, t, refl, sym (same_Some (prefix ++ id) new f))
      go false t f = absurd cc

  name-from : (name : Option (List ℕ)) (id : List ℕ) → among id ≡ true → name ≡ Some id
      → copied_name among prefix name ≡ Some (prefix ++ id)
  name-from name id t e = ap (copied_name among prefix) e ∙ cond-true (among id) (Some (prefix ++ id)) None t

  name-as : (name : Option (List ℕ)) (id : List ℕ) → among id ≡ true
      → (copied_name among prefix name ≡ Some (prefix ++ id)) ↔ (name ≡ Some id)
  name-as name id t = (
    λ e. let r = name-to name (prefix ++ id) e in r.2 ∙ ap Some (sym (append_cancel_left prefix id r.0 r.3)),
    name-from name id t,
  )

  -- a binding
  end-to : (binding : Option Binding) (new : List ℕ) → IsBoundTo (copied_end among prefix binding) new → (id : List ℕ)
      × (among id ≡ true) × IsBoundTo binding id × (new ≡ prefix ++ id)
  end-to None new is = absurd is
  end-to (Some b) new is = go (among b.target) refl is
    where
      go : (test : Bool) → among b.target ≡ test
          → IsBoundTo (cond test (Some (record b { target = prefix ++ b.target })) None) new
          → (id : List ℕ) × (among id ≡ true) × (b.target ≡ id) × (new ≡ prefix ++ id)
      go true t e = (b.target, t, refl, sym e)
      go false t e = absurd e

  end-from : (binding : Option Binding) (id : List ℕ) → among id ≡ true → IsBoundTo binding id
      → IsBoundTo (copied_end among prefix binding) (prefix ++ id)
  end-from None id t is = absurd is
  end-from (Some b) id t is =
      subst (λ (o : Option Binding). IsBoundTo o (prefix ++ id))
      (sym (cond-true (among b.target) (Some (record b { target = prefix ++ b.target })) None (ap among is ∙ t)))
      (ap (λ x. prefix ++ x) is)

  end-as : (binding : Option Binding) (id : List ℕ) → among id ≡ true
      → IsBoundTo (copied_end among prefix binding) (prefix ++ id) ↔ IsBoundTo binding id
  end-as binding id t = (
    λ is. let r =
        end-to binding (prefix ++ id) is in subst (IsBoundTo binding) (sym (append_cancel_left prefix id r.0 r.3)) r.2,
    end-from binding id t,
  )

  -- an entry
  abbrev entry_of : Role → List ℕ → BoundRef
  entry_of role id = record { id = id; role = role }

  entry-to : (entries : List BoundRef) (role : Role) (new : List ℕ)
      → Contains (copied_entries among prefix entries) (entry_of role new)
      → (id : List ℕ) × (among id ≡ true) × Contains entries (entry_of role id) × (new ≡ prefix ++ id)
  entry-to entries role new c =
      let m = Contains-map (copied_entry prefix) (filter (λ (entry : BoundRef). among entry.id) entries)
      (entry_of role new) c in
      let k = filter-Contains (λ (entry : BoundRef). among entry.id) entries m.0 m.1 in
      let named : prefix ++ m.0.id ≡ new = ap (λ (entry : BoundRef). entry.id) m.2 in
      let roled : m.0.role ≡ role = ap (λ (entry : BoundRef). entry.role) m.2 in
      (m.0.id, k.1, subst (Contains entries) (λ i. record { id = m.0.id; role = roled i }) k.0, sym named)

  entry-from : (entries : List BoundRef) (role : Role) (id : List ℕ) → among id ≡ true
      → Contains entries (entry_of role id)
      → Contains (copied_entries among prefix entries) (entry_of role (prefix ++ id))
  entry-from entries role id t c =
      Contains-to_map (copied_entry prefix) (filter (λ (entry : BoundRef). among entry.id) entries) (entry_of role id)
      (Contains-filter (λ (entry : BoundRef). among entry.id) entries (entry_of role id) c t)

  entry-as : (entries : List BoundRef) (role : Role) (id : List ℕ) → among id ≡ true
      → Contains (copied_entries among prefix entries) (entry_of role (prefix ++ id))
      ↔ Contains entries (entry_of role id)
  entry-as entries role id t = (
    λ c. let r = entry-to entries role (prefix ++ id) c in
        subst (λ x. Contains entries (entry_of role x)) (sym (append_cancel_left prefix id r.0 r.3)) r.2,
    entry-from entries role id t,
  )

  names-as : (way : Way) (e : ElementValue) (id : List ℕ) → among id ≡ true
      → Names way (copy_among among prefix e) (prefix ++ id) ↔ Names way e id
  unfolding copy_among
  names-as ByStart e id t = end-as e.start_binding id t
  names-as ByEnd e id t = end-as e.end_binding id t
  names-as ByContainer e id t = name-as e.container id t
  names-as ByFrame e id t = name-as e.frame id t
  names-as (ByListing role) e id t = entry-as e.bound role id t

  names-to : (way : Way) (e : ElementValue) (new : List ℕ) → Names way (copy_among among prefix e) new → (id : List ℕ)
      × (among id ≡ true) × (new ≡ prefix ++ id)
  unfolding copy_among
  names-to ByStart e new is = let r = end-to e.start_binding new is in (r.0, r.1, r.3)
  names-to ByEnd e new is = let r = end-to e.end_binding new is in (r.0, r.1, r.3)
  names-to ByContainer e new is = let r = name-to e.container new is in (r.0, r.1, r.3)
  names-to ByFrame e new is = let r = name-to e.frame new is in (r.0, r.1, r.3)
  names-to (ByListing role) e new is = let r = entry-to e.bound role new is in (r.0, r.1, r.3)

  pub copy-id : (e : ElementValue) → (copy_among among prefix e).id ≡ prefix ++ e.id
  unfolding copy_among
  copy-id e = refl

  groups-as : (e : ElementValue) (group : List ℕ) → Contains (copy_among among prefix e).groups (prefix ++ group)
      ↔ Contains e.groups group
  unfolding copy_among
  groups-as e group = (
    λ c. let m = Contains-map (λ x. prefix ++ x) e.groups (prefix ++ group) c in
        subst (Contains e.groups) (append_cancel_left prefix m.0 group m.2) m.1,
    Contains-to_map (λ x. prefix ++ x) e.groups group,
  )

  groups-to : (e : ElementValue) (name : List ℕ) → Contains (copy_among among prefix e).groups name → (group : List ℕ)
      × (name ≡ prefix ++ group) × Contains e.groups group
  unfolding copy_among
  groups-to e name c = let m = Contains-map (λ x. prefix ++ x) e.groups name c in (m.0, sym m.2, m.1)

  ids-under : (list : List ElementValue) → map (λ (e : ElementValue). e.id) (map (copy_among among prefix) list)
      ≡ map (λ x. prefix ++ x) (map (λ (e : ElementValue). e.id) list)
  ids-under [] = refl
  ids-under (e ∷ list) = ap (λ x. x ∷ map (λ (f : ElementValue). f.id) (map (copy_among among prefix) list)) (copy-id e)
      ∙ ap (λ xs. (prefix ++ e.id) ∷ xs) (ids-under list)

-- ---- the copies of a list
pub copies-name : (list : List ElementValue) (prefix : List ℕ) (way : Way) (e other : ElementValue)
    → Contains list other
    → Names way (copy_of list prefix e) (copy_of list prefix other).id ↔ Names way e other.id
copies-name list prefix way e other c =
    subst (λ id. Names way (copy_of list prefix e) id ↔ Names way e other.id)
    (sym (copy-id (is_among list) prefix other))
    (names-as (is_among list) prefix way e other.id (is-among list other c))

-- the original of a copy
pub original : (list : List ElementValue) (prefix : List ℕ) (copy : ElementValue)
    → Contains (copies_of list prefix) copy → (e : ElementValue) × Contains list e × (copy_of list prefix e ≡ copy)
unfolding copies_of
original list prefix copy c = Contains-map (copy_among (is_among list) prefix) list copy c

pub copied : (list : List ElementValue) (prefix : List ℕ) (e : ElementValue) → Contains list e
    → Contains (copies_of list prefix) (copy_of list prefix e)
unfolding copies_of
copied list prefix e c = Contains-to_map (copy_among (is_among list) prefix) list e c

pub copy-named : (list : List ElementValue) (prefix : List ℕ) (e : ElementValue)
    → (copy_of list prefix e).id ≡ prefix ++ e.id
copy-named list prefix e = copy-id (is_among list) prefix e

pub names-alone : (list : List ElementValue) (prefix : List ℕ) (way : Way) (copy : ElementValue) (id : List ℕ)
    → Contains (copies_of list prefix) copy → Names way copy id
    → (other : ElementValue) × Contains (copies_of list prefix) other × (other.id ≡ id)
names-alone list prefix way copy id c names =
    let o = original list prefix copy c in
    let r = names-to (is_among list) prefix way o.0 id (subst (λ (x : ElementValue). Names way x id) (sym o.2) names) in
    let there = among-is list r.0 r.1 in (
      copy_of list prefix there.0,
      copied list prefix there.0 there.1,
      copy-id (is_among list) prefix there.0
          ∙ (ap (λ x. prefix ++ x) there.2 ∙ sym r.2),
    )

pub groups-members : (list : List ElementValue) (prefix group : List ℕ) (e : ElementValue)
    → Contains (copy_of list prefix e).groups (prefix ++ group) ↔ Contains e.groups group
groups-members list prefix group e = groups-as (is_among list) prefix e group

pub groups-alone : (list : List ElementValue) (prefix name : List ℕ) (copy : ElementValue)
    → Contains (copies_of list prefix) copy → Contains copy.groups name
    → (group : List ℕ) × (name ≡ prefix ++ group) × (e : ElementValue) × Contains list e × Contains e.groups group
groups-alone list prefix name copy c g =
    let o = original list prefix copy c in
    let r =
    groups-to (is_among list) prefix o.0 name (subst (λ (x : ElementValue). Contains x.groups name) (sym o.2) g) in
    (r.0, r.1, o.0, o.1, r.2)

pub copies-distinct : (list : List ElementValue) (prefix : List ℕ) → HaveDistinctIds list
    → HaveDistinctIds (copies_of list prefix)
unfolding copies_of
copies-distinct list prefix d =
    subst (IsDistinct bytes_eq) (sym (ids-under (is_among list) prefix list))
    (distinct-under prefix (map (λ (e : ElementValue). e.id) list) d)
