-- What a snapshot has is stored, and of the stored kind; so is what is captured since.
use Rattle.std.proofs.Common.{◌≡◌, ℕ, Bool, true, false, cond, List, [], ◌∷◌, Option, Some, None, is_some, IsSome, Contains, if◌then◌else◌, bytes_eq, refl, sym, ap, ◌∙◌, subst, inl, inr, arith}
use Rattle.std.specs.Option.{option_map}
use Rattle.std.proofs.lemmas.Bool.{cases_Bool, cond-true, cond-false, false≢true}
use Rattle.std.proofs.lemmas.Option.{none-some, same_Some}
use Rattle.json_text.proofs.CallerLemmas.{bytes_eq-true, Contains-map}
use Rattle.frac_keys.specs.Rising.{are_rising}
use Rattle.elem.specs.declared.kind.Kind.{Kind}
use Rattle.elem.specs.ElementValue.{ElementValue}
use Rattle.elem.specs.Texts.{kind_name}
use Rattle.elem.specs.Order.{has_id}
use Rattle.elem_store.specs.Updates.{element_of, ids_of, is_taken, takings, Taking}
use Rattle.elem_store.proofs.CallerLemmas.{same_id, of_itself, Contains-cases, filter-Contains}
use Rattle.delta.specs.Delta.{Delta}
use Rattle.delta.specs.Pairs.{Pair, pair_with, IsPartOf, EntryStandsFor}
use Rattle.undo_model.specs.Carrying.{with_put, carried, carried_all, carried_over, taken, taken_all}
use Rattle.undo_model.specs.Differing.{same_kind, is_changed, pending}
use Rattle.undo_model.specs.Undoing.{undone, undone_in}
use Rattle.undo_model.proofs.CallerLemmas.{put-rising, same_kind-same}
use Rattle.snapshot.specs.Carried.{AreOfStoredKinds}
use Rattle.snapshot.specs.inner.Carried.{carried_to, with_made}
use Rattle.snapshot.specs.Pending.{pairs_since}
use Rattle.snapshot.proofs.CapturedLaws.{found-id, made-id, none-made}
use Rattle.snapshot.proofs.PutLaws.{put-each}
use Rattle.snapshot.proofs.PlanLaws.{carried_over-to, takings-more}

-- ---- kinds

kind-trans : (a b c : Kind) → same_kind a b ≡ true → same_kind b c ≡ true → same_kind a c ≡ true
kind-trans a b c h k = ap (λ name. bytes_eq name (kind_name c)) (bytes_eq-true (kind_name a) (kind_name b) h) ∙ k

undone-kind : (pair : Pair) (now : ElementValue) → (undone pair now).kind ≡ now.kind
unfolding undone
undone-kind pair now = elim (same_kind pair.after.kind now.kind) as (λ b. (if b then undone_in pair now else now).kind
    ≡ now.kind) [ true ↦ refl | false ↦ refl ]

-- what a carried change makes is of the new kind
made-kind : (captured old : Option ElementValue) (new e : ElementValue)
    → ((h o : ElementValue) → captured ≡ Some h → old ≡ Some o → same_kind h.kind o.kind ≡ true)
    → Some e ≡ carried_to captured old new → same_kind e.kind new.kind ≡ true
made-kind captured None new e kinds h =
    ap (λ (x : ElementValue). same_kind x.kind new.kind) (same_Some e new h) ∙ same_kind-same new.kind
made-kind captured (Some old) new e kinds h =
    made (same_kind old.kind new.kind) captured refl (λ x is. kinds x old is refl) h
  where
    made : (b : Bool) (captured : Option ElementValue) → same_kind old.kind new.kind ≡ b
        → ((x : ElementValue) → captured ≡ Some x → same_kind x.kind old.kind ≡ true)
        → Some e ≡ cond b (option_map (undone (record { before = new; after = old })) captured) (Some new)
        → same_kind e.kind new.kind ≡ true
    made false captured k kinds h =
        ap (λ (x : ElementValue). same_kind x.kind new.kind) (same_Some e new h) ∙ same_kind-same new.kind
    made true None k kinds h = absurd (none-some e (sym h))
    made true (Some x) k kinds h =
        ap (λ kind. same_kind kind new.kind)
        (ap (λ (x : ElementValue). x.kind) (same_Some e (undone (record { before = new; after = old }) x) h)
        ∙ undone-kind (record { before = new; after = old }) x)
        ∙ kind-trans x.kind old.kind new.kind (kinds x refl) k

-- ---- a stored update is carried
module _ (snapshot stored : List ElementValue) (e : ElementValue) (kinds : AreOfStoredKinds snapshot stored)
    (is : is_taken stored e ≡ true) where
  now-stored : (id : List ℕ) → element_of (taken e stored) id ≡ cond (has_id id e) (Some e) (element_of stored id)
  now-stored id =
      ap (λ es. element_of es id) (cond-true (is_taken stored e) (with_put e stored) stored is) ∙ put-each e stored id

  kind-of : (h o : ElementValue) → element_of snapshot e.id ≡ Some h → element_of stored e.id ≡ Some o
      → same_kind h.kind o.kind ≡ true
  kind-of h o captured old =
      let own = kinds e.id h captured in
      ap (λ (x : ElementValue). same_kind h.kind x.kind) (same_Some o own.0 (sym old ∙ own.1)) ∙ own.2

  kept : (id : List ℕ) (x : ElementValue) (made : Option ElementValue)
      → made ≡ carried_to (element_of snapshot e.id) (element_of stored e.id) e
      → element_of (with_made made snapshot) id ≡ Some x
      → (own : ElementValue) × (element_of (taken e stored) id ≡ Some own) × (same_kind x.kind own.kind ≡ true)
  kept id x (Some y) to has =
      let same : has_id id y ≡ has_id id e =
      ap (bytes_eq id) (made-id (element_of snapshot e.id) (element_of stored e.id) e y
      (found-id snapshot e.id (element_of snapshot e.id) refl) to) in
      elim (cases_Bool (has_id id e)) [
        | inl t ↦
            let own : x ≡ y = same_Some x y (sym has ∙ put-each y snapshot id
            ∙ cond-true (has_id id y) (Some y) (element_of snapshot id) (same ∙ t)) in (
              e,
              now-stored id ∙ cond-true (has_id id e) (Some e) (element_of stored id) t,
              ap (λ (z : ElementValue). same_kind z.kind e.kind) own
                  ∙ made-kind (element_of snapshot e.id) (element_of stored e.id) e y kind-of to,
            )
        | inr f ↦
            let own = kinds id x (sym (put-each y snapshot id
            ∙ cond-false (has_id id y) (Some y) (element_of snapshot id) (same ∙ f)) ∙ has) in
            (own.0, now-stored id ∙ cond-false (has_id id e) (Some e) (element_of stored id) f ∙ own.1, own.2)
      ]
  kept id x None to has =
      elim (cases_Bool (has_id id e)) [
        | inl t ↦ absurd (none-some x (sym (none-made (element_of snapshot e.id) (element_of stored e.id) e to)
            ∙ ap (element_of snapshot) (sym (same_id id e t)) ∙ has))
        | inr f ↦
            let own = kinds id x has in
            (own.0, now-stored id ∙ cond-false (has_id id e) (Some e) (element_of stored id) f ∙ own.1, own.2)
      ]

  pub kinds-carried : AreOfStoredKinds (carried_over (element_of stored e.id) e snapshot) (taken e stored)
  kinds-carried id x has =
      kept id x (carried_to (element_of snapshot e.id) (element_of stored e.id) e) refl
      (ap (λ es. element_of es id) (sym (carried_over-to (element_of stored e.id) e snapshot)) ∙ has)

-- and so is each of a list that becomes stored
pub kinds-carried_all : (list snapshot stored : List ElementValue) → are_rising (ids_of stored) ≡ true
    → AreOfStoredKinds snapshot stored → AreOfStoredKinds (carried_all (takings stored list) snapshot)
    (taken_all list stored)
kinds-carried_all [] snapshot stored rise kinds = kinds
kinds-carried_all (e ∷ more) snapshot stored rise kinds =
    let taking : Taking = record { before = element_of stored e.id; taken = e } in
    subst (λ ts. AreOfStoredKinds (carried_all ts snapshot) (taken_all more (taken e stored)))
    (sym (takings-more stored e more rise))
    (elim (cases_Bool (is_taken stored e)) [
      | inl t ↦
          let now : taken e stored ≡ with_put e stored = cond-true (is_taken stored e) (with_put e stored) stored t in
          let later = kinds-carried_all more (carried taking snapshot) (with_put e stored) (put-rising e stored rise)
          (subst (AreOfStoredKinds (carried taking snapshot)) now (kinds-carried snapshot stored e kinds t)) in
          subst (λ ts. AreOfStoredKinds (carried_all ts snapshot) (taken_all more (taken e stored)))
          (sym (cond-true (is_taken stored e) (taking ∷ takings (with_put e stored) more) (takings stored more) t))
          (subst (λ es. AreOfStoredKinds (carried_all (takings (with_put e stored) more) (carried taking snapshot))
          (taken_all more es)) (sym now) later)
      | inr f ↦
          let now : taken e stored ≡ stored = cond-false (is_taken stored e) (with_put e stored) stored f in
          subst (λ ts. AreOfStoredKinds (carried_all ts snapshot) (taken_all more (taken e stored)))
          (sym (cond-false (is_taken stored e) (taking ∷ takings (with_put e stored) more) (takings stored more) f))
          (subst (λ es. AreOfStoredKinds (carried_all (takings stored more) snapshot) (taken_all more es)) (sym now)
          (kinds-carried_all more snapshot stored rise kinds))
    ])

-- stored elements are of their own kinds
pub kinds-stored : (stored : List ElementValue) → AreOfStoredKinds stored stored
kinds-stored stored id e has = (e, has, same_kind-same e.kind)

-- an id of a snapshot is stored
pub kinds-known : (snapshot stored : List ElementValue) (id : List ℕ) → AreOfStoredKinds snapshot stored
    → IsSome (element_of snapshot id) → IsSome (element_of stored id)
kinds-known snapshot stored id kinds some = known (element_of snapshot id) refl some
  where
    known : (o : Option ElementValue) → element_of snapshot id ≡ o → IsSome o → IsSome (element_of stored id)
    known None has some = absurd (false≢true some)
    known (Some e) has some = ap is_some (kinds id e has).1

-- ---- what is captured
has-own : (xs : List ElementValue) (x : ElementValue) → Contains xs x → is_some (element_of xs x.id) ≡ true
has-own [] x c = absurd (omega (arith, c.1))
has-own (y ∷ ys) x c = elim (cases_Bool (has_id x.id y)) [
  | inl t ↦ ap is_some (cond-true (has_id x.id y) (Some y) (element_of ys x.id) t)
  | inr f ↦ ap is_some (cond-false (has_id x.id y) (Some y) (element_of ys x.id) f) ∙ (elim (Contains-cases y ys x c) [
    | inl same ↦ absurd (false≢true (sym f ∙ subst (λ z. has_id x.id z ≡ true) (sym same) (of_itself x)))
    | inr later ↦ has-own ys x later
  ])
]

own-stored : (snapshot stored : List ElementValue) (part : Delta) (pair : Pair)
    → Contains (pairs_since snapshot stored) pair → IsPartOf part pair → IsSome (element_of stored part.id)
own-stored snapshot stored part pair c is =
    let of = Contains-map (λ (e : ElementValue). pair_with (element_of snapshot e.id) e) stored pair c in
    ap (λ id. is_some (element_of stored id)) (is.stands.id ∙ ap (λ (p : Pair). p.after.id) (sym of.2))
    ∙ has-own stored of.0 of.1

pub since-stored : (parts : List Delta) (snapshot stored : List ElementValue) (part : Delta)
    → EntryStandsFor parts (pairs_since snapshot stored) → Contains parts part → IsSome (element_of stored part.id)
since-stored parts snapshot stored part stands c =
    let own = stands.each_part part c in
    own-stored snapshot stored part own.0 own.1 own.2

pub pending-stored : (parts : List Delta) (snapshot stored : List ElementValue) (part : Delta)
    → EntryStandsFor parts (pending snapshot stored) → Contains parts part → IsSome (element_of stored part.id)
pending-stored parts snapshot stored part stands c =
    let own = stands.each_part part c in
    own-stored snapshot stored part own.0 (filter-Contains is_changed (pairs_since snapshot stored) own.0 own.1).0 own.2
