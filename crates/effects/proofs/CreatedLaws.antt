-- The new elements of a command: they stand among the changed ones in the order of the ids, and their ids weren't
-- stored.
use Rattle.std.proofs.Common.{◌≡◌, ℕ, Bool, true, false, ◌⊎◌, List, [], ◌∷◌, ◌++◌, Option, Some, None, is_some, Contains, find, bytes_eq, inl, inr, refl, sym, ap, ◌∙◌, subst, arith}
use Rattle.std.specs.Cmp.Lexicographic.{nat_list_eq_equiv}
use Rattle.std.specs.List.{AllByRecursion, IsDistinct}
use Rattle.std.specs.Option.{option_map}
use Rattle.std.proofs.lemmas.Bool.{cases_Bool, and_parts, and_from}
use Rattle.std.proofs.lemmas.Option.{none-some}
use Rattle.std.proofs.lemmas.Map.Views.{Contains-from_any}
use Rattle.json_text.proofs.CallerLemmas.{bytes_eq-true, Contains-map, Contains-to_map, none-is}
use Rattle.frac_keys.specs.Keys.{bytes_less}
use Rattle.frac_keys.specs.Rising.{ends_rise, rise_between, are_rising}
use Rattle.frac_keys.proofs.CallerLemmas.{bytes_less-turned}
use Rattle.elem.specs.ElementValue.{ElementValue}
use Rattle.elem.specs.Order.{has_id, HaveDistinctIds}
use Rattle.elem_store.specs.Updates.{element_of, ids_of, is_among}
use Rattle.elem_store.proofs.CallerLemmas.{Contains-head, Contains-cons, Contains-cases, filter-Contains, find-None, is_some-find, list_any-false}
use Rattle.index_repair.specs.Keyed.{keyed, with_index}
use Rattle.view.specs.Shown.{is_live, with_element}
use Rattle.copies.specs.Copies as copying
use Rattle.copies.specs.Copies.{copies_of}
use Rattle.copies.proofs.CallerLemmas.{copy-id, original}
use Rattle.board_commands.specs.declared.command.Command.{Command}
use Rattle.board_commands.specs.declared.command.Command.TheVariants as commands
use Rattle.board_commands.specs.declared.command.Spot.{Spot}
use Rattle.effects.specs.declared.refusal.Refusal.{Refusal}
use Rattle.effects.specs.declared.refusal.Refusal.TheVariants.{Exists}
use Rattle.effects.specs.Changed.{created, created_at, with_created, with_new}
use Rattle.effects.specs.Copying.{as_new, copies_at, shown_among}
use Rattle.effects.specs.Refusals.{existing, first_stored, refusal_if}

pub some-or-none : {X : Type 0} (o : Option X) → (o ≡ None) ⊎ ((x : X) × (o ≡ Some x))
some-or-none None = inl refl
some-or-none (Some x) = inr (x, refl)

-- ---- the elements of an id
-- an id without an element is the id of none
pub absent : (id : List ℕ) (elements : List ElementValue) (e : ElementValue) → element_of elements id ≡ None
    → Contains elements e → has_id id e ≡ false
absent id elements e none c =
    list_any-false (has_id id) elements e (sym (is_some-find (has_id id) elements) ∙ ap is_some none) c

-- ---- one more at the place of its id
abbrev put : ElementValue → List ElementValue → List ElementValue
put e elements = with_element (λ (other new : ElementValue). bytes_less other.id new.id) e elements

put-cases : (x : ElementValue) (es : List ElementValue) (e : ElementValue) → Contains (put x es) e → (x ≡ e)
    ⊎ Contains es e
put-cases x [] e c = Contains-cases x [] e c
put-cases x (f ∷ fs) e c =
    elim (cases_Bool (bytes_less f.id x.id)) [
      | inl less ↦ elim (Contains-cases f (put x fs) e (rw less at c)) [
        | inl same ↦ inr (subst (Contains (f ∷ fs)) same (Contains-head f fs))
        | inr later ↦ elim (put-cases x fs e later) [
          | inl same ↦ inl same
          | inr there ↦ inr (Contains-cons f fs e there)
        ]
      ]
      | inr more ↦ Contains-cases x (f ∷ fs) e (rw more at c)
    ]

put-there : (x : ElementValue) (es : List ElementValue) → Contains (put x es) x
put-there x [] = Contains-head x []
put-there x (f ∷ fs) = elim (cases_Bool (bytes_less f.id x.id)) [
  | inl less ↦ rw less (Contains-cons f (put x fs) x (put-there x fs))
  | inr more ↦ rw more (Contains-head x (f ∷ fs))
]

put-kept : (x : ElementValue) (es : List ElementValue) (e : ElementValue) → Contains es e → Contains (put x es) e
put-kept x [] e c = absurd (omega (arith, c.1))
put-kept x (f ∷ fs) e c = elim (cases_Bool (bytes_less f.id x.id)) [
  | inl less ↦ rw less (elim (Contains-cases f fs e c) [
    | inl same ↦ subst (Contains (f ∷ put x fs)) same (Contains-head f (put x fs))
    | inr later ↦ Contains-cons f (put x fs) e (put-kept x fs e later)
  ])
  | inr more ↦ rw more (Contains-cons x (f ∷ fs) e c)
]

pub absent-parts : (id : List ℕ) (f : ElementValue) (fs : List ElementValue) → element_of (f ∷ fs) id ≡ None
    → (bytes_eq id f.id ≡ false) × (element_of fs id ≡ None)
absent-parts id f fs h = elim (cases_Bool (bytes_eq id f.id)) [
  | inl own ↦ absurd (none-some f (sym (rw own at h)))
  | inr other ↦ (other, rw other at h)
]

put-rises : (a : Option (List ℕ)) (x : ElementValue) (es : List ElementValue) → ends_rise a (Some x.id) ≡ true
    → element_of es x.id ≡ None → rise_between a None (ids_of es) ≡ true
    → rise_between a None (ids_of (put x es)) ≡ true
put-rises a x [] first none h = and_from (ends_rise a (Some x.id)) true first refl
put-rises a x (f ∷ fs) first none h =
    let parts = and_parts (ends_rise a (Some f.id)) (rise_between (Some f.id) None (ids_of fs)) h in
    let others = absent-parts x.id f fs none in
    elim (cases_Bool (bytes_less f.id x.id)) [
      | inl less ↦ rw less (and_from (ends_rise a (Some f.id)) (rise_between (Some f.id) None (ids_of (put x fs)))
          parts.0 (put-rises (Some f.id) x fs less others.1 parts.1))
      | inr more ↦ rw more
          (and_from (ends_rise a (Some x.id)) (rise_between (Some x.id) None (ids_of (f ∷ fs))) first
          (and_from (bytes_less x.id f.id) (rise_between (Some f.id) None (ids_of fs))
          (bytes_less-turned x.id f.id others.0 more) parts.1))
    ]

-- one whose id is there is left out
new-cases : (x : ElementValue) (es : List ElementValue) (e : ElementValue) → Contains (with_new x es) e → (x ≡ e)
    ⊎ Contains es e
new-cases x es e c = elim (cases_Bool (is_some (element_of es x.id))) [
  | inl there ↦ inr (rw there at c)
  | inr none ↦ put-cases x es e (rw none at c)
]

new-there : (x : ElementValue) (es : List ElementValue) → element_of es x.id ≡ None → Contains (with_new x es) x
new-there x es none = rw none (put-there x es)

new-kept : (x : ElementValue) (es : List ElementValue) (e : ElementValue) → Contains es e
    → Contains (with_new x es) e
new-kept x es e c = elim (cases_Bool (is_some (element_of es x.id))) [
  | inl there ↦ rw there c
  | inr none ↦ rw none (put-kept x es e c)
]

new-rises : (x : ElementValue) (es : List ElementValue) → are_rising (ids_of es) ≡ true
    → are_rising (ids_of (with_new x es)) ≡ true
new-rises x es h = elim (cases_Bool (is_some (element_of es x.id))) [
  | inl there ↦ rw there h
  | inr none ↦ rw none (put-rises None x es refl (none-is (element_of es x.id) none) h)
]

-- ---- several at the places of their ids
pub created-cases : (new es : List ElementValue) (e : ElementValue) → Contains (with_created new es) e
    → Contains new e
    ⊎ Contains es e
created-cases [] es e c = inr c
created-cases (x ∷ new) es e c = elim (created-cases new (with_new x es) e c) [
  | inl later ↦ inl (Contains-cons x new e later)
  | inr here ↦ elim (new-cases x es e here) [
    | inl same ↦ inl (subst (Contains (x ∷ new)) same (Contains-head x new))
    | inr old ↦ inr old
  ]
]

pub created-kept : (new es : List ElementValue) (e : ElementValue) → Contains es e → Contains (with_created new es) e
created-kept [] es e c = c
created-kept (x ∷ new) es e c = created-kept new (with_new x es) e (new-kept x es e c)

pub created-rises : (new es : List ElementValue) → are_rising (ids_of es) ≡ true
    → are_rising (ids_of (with_created new es)) ≡ true
created-rises [] es h = h
created-rises (x ∷ new) es h = created-rises new (with_new x es) (new-rises x es h)

-- the id of none of these is that of one of those
abbrev pub AreApart : List ElementValue → List ElementValue → Type 0
AreApart new es = (d : ElementValue) → Contains new d → element_of es d.id ≡ None

other-id : (x : ElementValue) (new : List ElementValue) (d : ElementValue)
    → AllByRecursion (λ id. bytes_eq x.id id ≡ false) (ids_of new) → Contains new d → bytes_eq x.id d.id ≡ false
other-id x [] d all c = absurd (omega (arith, c.1))
other-id x (y ∷ new) d all c = elim (Contains-cases y new d c) [
  | inl same ↦ subst (λ (z : ElementValue). bytes_eq x.id z.id ≡ false) same all.0
  | inr later ↦ other-id x new d all.1 later
]

apart-later : (x : ElementValue) (new es : List ElementValue)
    → AllByRecursion (λ id. bytes_eq x.id id ≡ false) (ids_of new) → AreApart (x ∷ new) es
    → AreApart new (with_new x es)
apart-later x new es all apart d c =
    find-None (has_id d.id) (with_new x es) (λ e f. elim (new-cases x es e f) [
      | inl same ↦ subst (λ (z : ElementValue). has_id d.id z ≡ false) same (nat_list_eq_equiv.symm d.id x.id
          ∙ other-id x new d all c)
      | inr old ↦ absent d.id es e (apart d (Contains-cons x new d c)) old
    ])

pub created-there : (new es : List ElementValue) (e : ElementValue) → HaveDistinctIds new → AreApart new es
    → Contains new e → Contains (with_created new es) e
unfolding IsDistinct
created-there [] es e distinct apart c = absurd (omega (arith, c.1))
created-there (x ∷ new) es e distinct apart c = elim (Contains-cases x new e c) [
  | inl same ↦ created-kept new (with_new x es) e
      (subst (Contains (with_new x es)) same (new-there x es (apart x (Contains-head x new))))
  | inr later ↦ created-there new (with_new x es) e distinct.1 (apart-later x new es distinct.0 apart) later
]

pub distinct-one : (e : ElementValue) → HaveDistinctIds (e ∷ [])
unfolding IsDistinct
distinct-one e = (tt, tt)

-- ---- copies
keyed-from : (es : List ElementValue) (keys : List (List ℕ)) (e : ElementValue) → Contains (keyed es keys) e
    → (c : ElementValue) × (key : List ℕ) × Contains es c × (e ≡ with_index c key)
keyed-from [] keys e c = absurd (omega (arith, c.1))
keyed-from (x ∷ es) [] e c = absurd (omega (arith, c.1))
keyed-from (x ∷ es) (key ∷ keys) e c = elim (Contains-cases (with_index x key) (keyed es keys) e c) [
  | inl same ↦ (x, key, Contains-head x es, sym same)
  | inr later ↦ let from = keyed-from es keys e later in (from.0, from.1, Contains-cons x es from.0 from.2, from.3)
]

-- what a copy was made of, and what it is
pub record IsCopyAt (list : List ElementValue) (prefix : List ℕ) (time nonce : ℕ) (e : ElementValue) : Type 0 where
  pub old : ElementValue
  pub among : Contains list old
  pub id : e.id ≡ prefix ++ old.id
  pub live : is_live e ≡ true
  pub version : e.version ≡ 1
  pub nonce_is : e.nonce ≡ nonce

pub copy-from : (shown list : List ElementValue) (prefix : List ℕ) (spot : Spot) (time nonce : ℕ) (e : ElementValue)
    → Contains (copies_at shown list prefix spot time nonce) e → IsCopyAt list prefix time nonce e
copy-from shown list prefix spot time nonce e c =
    let new = Contains-map (as_new time nonce) _ e c in
    let placed = keyed-from (copies_of list prefix) _ new.0 new.1 in
    let from = original list prefix placed.0 placed.2 in
    record {
      old = from.0;
      among = from.1;
      id = ap (λ (d : ElementValue). d.id) (sym new.2) ∙ ap (λ (d : ElementValue). d.id) placed.3
          ∙ ap (λ (d : ElementValue). d.id) (sym from.2) ∙ copy-id (copying.is_among list) prefix from.0;
      live = ap is_live (sym new.2);
      version = ap (λ (d : ElementValue). d.version) (sym new.2);
      nonce_is = ap (λ (d : ElementValue). d.nonce) (sym new.2);
    }

-- ---- no new element's id was stored
pub refusal_if-none : (b : Bool) (refusal : Refusal) → refusal_if b refusal ≡ None → b ≡ false
refusal_if-none true refusal h = absurd (none-some refusal (sym h))
refusal_if-none false refusal h = refl

pub unmapped : {X Y : Type 0} (f : X → Y) (o : Option X) → option_map f o ≡ None → o ≡ None
unmapped f None h = refl
unmapped f (Some x) h = absurd (none-some (f x) (sym h))

module _ (stored shown : List ElementValue) (time nonce : ℕ) where
  free-under : (prefix : List ℕ) (ids : List (List ℕ)) (id : List ℕ) → first_stored stored prefix ids ≡ None
      → Contains ids id → element_of stored (prefix ++ id) ≡ None
  free-under prefix ids id free c =
      let test = (λ (id : List ℕ). is_some (element_of stored (prefix ++ id))) in
      none-is (element_of stored (prefix ++ id))
      (list_any-false test ids id (sym (is_some-find test ids)
      ∙ ap is_some (unmapped (λ (id : List ℕ). Exists (prefix ++ id)) (find test ids) free)) c)

  copied-unknown : (list : List ElementValue) (prefix : List ℕ) (ids : List (List ℕ)) (e : ElementValue)
      → first_stored stored prefix ids ≡ None → (copy : IsCopyAt list prefix time nonce e) → Contains ids copy.old.id
      → element_of stored e.id ≡ None
  copied-unknown list prefix ids e free copy c =
      ap (element_of stored) copy.id ∙ free-under prefix ids copy.old.id free c

  pub created-unknown : (command : Command) (e : ElementValue) → existing stored command ≡ None
      → Contains (created shown command time nonce) e → element_of stored e.id ≡ None
  created-unknown (commands.Create element spot) e free c =
      elim (Contains-cases (created_at shown element spot time nonce) [] e c) [
        | inl is ↦ ap (λ (d : ElementValue). element_of stored d.id) (sym is)
            ∙ none-is (element_of stored element.id)
            (refusal_if-none (is_some (element_of stored element.id)) (Exists element.id)
            free)
        | inr none ↦ absurd (omega (arith, none.1))
      ]
  created-unknown (commands.Duplicate ids prefix spot) e free c =
      let copy = copy-from shown (shown_among ids shown) prefix spot time nonce e c in
      copied-unknown (shown_among ids shown) prefix ids e free copy
      (Contains-from_any bytes_eq-true copy.old.id ids (filter-Contains (λ (d : ElementValue). is_among ids d.id) shown
      copy.old
      copy.among).1)
  created-unknown (commands.Paste elements prefix spot) e free c =
      let copy = copy-from shown elements prefix spot time nonce e c in
      copied-unknown elements prefix (ids_of elements) e free copy
      (Contains-to_map (λ (d : ElementValue). d.id) elements copy.old copy.among)
  created-unknown command e free c = absurd (omega (arith, c.1))

  pub created-fresh : (command : Command) (e : ElementValue) → Contains (created shown command time nonce) e
      → (is_live e ≡ true) × (e.version ≡ 1)
  created-fresh (commands.Create element spot) e c =
      elim (Contains-cases (created_at shown element spot time nonce) [] e c) [
        | inl is ↦ (ap is_live (sym is), ap (λ (d : ElementValue). d.version) (sym is))
        | inr none ↦ absurd (omega (arith, none.1))
      ]
  created-fresh (commands.Duplicate ids prefix spot) e c =
      let copy = copy-from shown (shown_among ids shown) prefix spot time nonce e c in (copy.live, copy.version)
  created-fresh (commands.Paste elements prefix spot) e c =
      let copy = copy-from shown elements prefix spot time nonce e c in (copy.live, copy.version)
  created-fresh command e c = absurd (omega (arith, c.1))

  -- and its nonce is that of the change
  pub created-nonce : (command : Command) (e : ElementValue) → Contains (created shown command time nonce) e
      → e.nonce ≡ nonce
  created-nonce (commands.Create element spot) e c =
      elim (Contains-cases (created_at shown element spot time nonce) [] e c) [
        | inl is ↦ ap (λ (d : ElementValue). d.nonce) (sym is)
        | inr none ↦ absurd (omega (arith, none.1))
      ]
  created-nonce (commands.Duplicate ids prefix spot) e c =
      (copy-from shown (shown_among ids shown) prefix spot time nonce e c).nonce_is
  created-nonce (commands.Paste elements prefix spot) e c =
      (copy-from shown elements prefix spot time nonce e c).nonce_is
  created-nonce command e c = absurd (omega (arith, c.1))
