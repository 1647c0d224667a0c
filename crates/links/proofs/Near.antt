-- What settling makes of one element rests on the elements at most three steps of links from it: these are all at which
-- it looks.
use Rattle.std.proofs.Common.{◌≡◌, ℕ, suc, Bool, zero, true, false, subst, inl, inr, ◌&&◌, ◌||◌, List, find, filter, Contains, All, IsTrue, bytes_eq, sym, refl, ◌∙◌}
use Rattle.std.specs.List.{list_any}
use Rattle.std.proofs.lemmas.Bool.{and_parts, and_from, or_cases, or_left, or_right}
use Rattle.std.proofs.lemmas.List.Elements.{All-contains}
use Rattle.std.proofs.lemmas.Slice.Eq.{bytes_eq-Decides}
use Rattle.elem.specs.ElementValue.{ElementValue}
use Rattle.elem.specs.Order.{has_id, HaveDistinctIds}
use Rattle.links.specs.Looks.{HasItsContainer, HasAllSeen}
use Rattle.links.specs.Names.{is_id}
use Rattle.links.specs.Settled.{settled_links}
use Rattle.links.specs.Steps.{links_to, is_one_step, is_within, near}
use Rattle.links.proofs.Among.{Contains-among}
use Rattle.links.proofs.LookLaws.{container-named, seen-alone}
use Rattle.links.proofs.Members.{bytes_eq-refl, list_any-from, list_any-found, one_of_id, same_bools}

-- ---- who is one step apart
turned : (a b : List ℕ) → bytes_eq a b ≡ true → bytes_eq b a ≡ true
turned a b h = (bytes_eq-Decides b a).1 (sym ((bytes_eq-Decides a b).0 h))

step-to : (e other : ElementValue) → links_to other.id e ≡ true → is_one_step e other ≡ true
step-to e other h = or_left _ _ h

step-from : (e other : ElementValue) → links_to e.id other ≡ true → is_one_step e other ≡ true
step-from e other h = or_right (links_to other.id e) _ h

-- ---- steps
module _ (list : List ElementValue) (id : List ℕ) where
  pub within-more : (n : ℕ) (e : ElementValue) → is_within n list id e ≡ true → is_within (suc n) list id e ≡ true
  unfolding is_within
  within-more n e h = or_left _ _ h

  pub within-step : (n : ℕ) (e other : ElementValue) → Contains list e → is_within n list id e ≡ true
      → is_one_step e other ≡ true → is_within (suc n) list id other ≡ true
  unfolding is_within
  within-step n e other there h step =
      or_right (is_within n list id other) _
      (list_any-from (λ x. is_within n list id x && is_one_step x other) list e there
      (and_from (is_within n list id e) (is_one_step e other) h step))

  pub within-own : (e : ElementValue) → has_id id e ≡ true → is_within 0 list id e ≡ true
  unfolding is_within
  within-own e h = h

pub near-all : (list : List ElementValue) (among : ElementValue → Bool) (id : List ℕ)
    → All (λ e. IsTrue (among e)) (near list id) → (e : ElementValue) → Contains list e → is_within 3 list id e ≡ true
    → among e ≡ true
near-all list among id all e there h =
    All-contains (λ e. IsTrue (among e)) (near list id) e all
    (Contains-among (is_within 3 list id) among list e there h)

-- ---- an element of an id and what is near it
module _ (list : List ElementValue) (among : ElementValue → Bool) (id : List ℕ)
    (has_near : (e : ElementValue) → Contains list e → is_within 3 list id e ≡ true → among e ≡ true) where
  at-one : (e : ElementValue) → has_id id e ≡ true → is_within 1 list id e ≡ true
  at-one e own = within-more list id 0 e (within-own list id e own)

  -- the container of a text that is one step away, with its texts
  its-near : (e : ElementValue) → Contains list e → is_within 1 list id e ≡ true → HasItsContainer among list e
  its-near e there one n names = record {
    own = λ c at' own. has_near c at' (within-more list id 2 c (second c at' own));
    texts = λ c t at' own there' h. has_near t there' (within-step list id 2 c t at' (second c at' own)
        (step-from c t (subst (λ m. links_to m t ≡ true) (named c own) (container-named n t h))));
  }
    where
      named : (c : ElementValue) → has_id n c ≡ true → n ≡ c.id
      named c own = (bytes_eq-Decides n c.id).0 own

      second : (c : ElementValue) → Contains list c → has_id n c ≡ true → is_within 2 list id c ≡ true
      second c at' own = within-step list id 1 e c there one
          (step-to e c (subst (λ m. links_to m e ≡ true) (named c own) (container-named n e names)))

  pub near-seen : HasAllSeen among list id
  near-seen = record {
    own = λ e there own. has_near e there (within-more list id 2 e (within-more list id 1 e (at-one e own)));
    namers = λ e other there own at' links. has_near other at' (within-more list id 2 other
        (within-more list id 1 other (within-step list id 0 e other there (within-own list id e own)
        (step-from e other (subst (λ m. links_to m other ≡ true) ((bytes_eq-Decides id e.id).0 own) links)))));
    container = λ e there own. its-near e there (at-one e own);
    targets = λ e t there own at' ends.
        let one = within-step list id 0 e t there (within-own list id e own)
        (step-to e t (or_right (is_id t.id e.container) _ ends)) in
        (has_near t at' (within-more list id 2 t (within-more list id 1 t one)), its-near t at' one);
  }

pub links-alone : (list : List ElementValue) (among : ElementValue → Bool) (id : List ℕ) → HaveDistinctIds list
    → ((e : ElementValue) → Contains list e → is_within 3 list id e ≡ true → among e ≡ true)
    → find (has_id id) (settled_links (filter among list)) ≡ find (has_id id) (settled_links list)
links-alone list among id distinct has_near =
    seen-alone list among id distinct (near-seen list among id has_near)

-- ---- steps lead back
step-turned : (e other : ElementValue) → is_one_step e other ≡ true → is_one_step other e ≡ true
step-turned e other h = or_turned (links_to other.id e) (links_to e.id other) ∙ h where
  or_turned : (a b : Bool) → (b || a) ≡ (a || b)
  or_turned true true = refl
  or_turned true false = refl
  or_turned false true = refl
  or_turned false false = refl

module _ (list : List ElementValue) (distinct : HaveDistinctIds list) where
  within-first : (n : ℕ) (e c other : ElementValue) → Contains list e → Contains list c → Contains list other
      → is_one_step e c ≡ true
      → is_within n list c.id other ≡ true → is_within (suc n) list e.id other ≡ true
  unfolding is_within
  within-first zero e c other there at' among' step h =
      let same : c ≡ other = one_of_id list c other distinct at' among' ((bytes_eq-Decides c.id other.id).0 h) in
      subst (λ x. is_within 1 list e.id x ≡ true) same
      (within-step list e.id 0 e c there (within-own list e.id e (bytes_eq-refl e.id)) step)
  within-first (suc n) e c other there at' among' step h =
      elim (or_cases (is_within n list c.id other) (list_any (λ x. is_within n list c.id x && is_one_step x other) list)
      h) [
        | inl sooner ↦ within-more list e.id (suc n) other (within-first n e c other there at' among' step sooner)
        | inr later ↦
            let found = list_any-found (λ x. is_within n list c.id x && is_one_step x other) list later in
            let parts = and_parts (is_within n list c.id found.0) (is_one_step found.0 other) found.2 in
            within-step list e.id (suc n) found.0 other found.1
            (within-first n e c found.0 there at' found.1 step parts.0) parts.1
      ]

  pub within-turned : (n : ℕ) (e other : ElementValue) → Contains list e → Contains list other
      → is_within n list e.id other ≡ true → is_within n list other.id e ≡ true
  unfolding is_within
  within-turned zero e other there at' h = turned e.id other.id h
  within-turned (suc n) e other there at' h =
      elim (or_cases (is_within n list e.id other) (list_any (λ x. is_within n list e.id x && is_one_step x other) list)
      h) [
        | inl sooner ↦ within-more list other.id n e (within-turned n e other there at' sooner)
        | inr later ↦
            let found = list_any-found (λ x. is_within n list e.id x && is_one_step x other) list later in
            let parts = and_parts (is_within n list e.id found.0) (is_one_step found.0 other) found.2 in
            within-first n other found.0 e at' found.1 there (step-turned found.0 other parts.1)
            (within-turned n e found.0 there found.1 parts.0)
      ]

pub within-both : (list : List ElementValue) (n : ℕ) (e other : ElementValue) → HaveDistinctIds list → Contains list e
    → Contains list other → is_within n list e.id other ≡ is_within n list other.id e
within-both list n e other distinct there at' =
    same_bools _ _ (within-turned list distinct n e other there at') (within-turned list distinct n other e at' there)
