-- Steps that grow by a part, and the least id that stops one.
use Rattle.std.proofs.Common.{◌≡◌, ℕ, zero, suc, ◌+◌, ◌<◌, length, take, drop, get_or, take-append-drop, append_assoc, append-nil, map, reverse, Bool, true, false, ◌&&◌, if◌then◌else◌, List, [], ◌∷◌, ◌++◌, Some, None, IsSome, Contains, refl, sym, ap, ◌∙◌, subst, subst₂, inl, inr, arith}
use Rattle.std.proofs.lemmas.Bool.{cases_Bool}
use Rattle.std.proofs.lemmas.List.{map-append, take_more}
use Rattle.std.proofs.lemmas.List.Elements.{Contains-append_left, Contains-append_right, Contains-append_cases, Contains-push, Contains-push_cases}
use Rattle.std.proofs.lemmas.Option.{same_Some}
use Rattle.board_base.specs.declared.stop.Stop.{Stop}
use Rattle.board_base.specs.declared.stop.Stop.TheVariants.{Fault, Memory}
use Rattle.frac_keys.specs.Keys.{bytes_less}
use Rattle.frac_keys.specs.Rising.{are_rising}
use Rattle.json_text.proofs.CallerLemmas.{Contains-map}
use Rattle.elem.specs.ElementValue.{ElementValue}
use Rattle.elem.specs.Order.{unstamped, has_id}
use Rattle.elem.specs.Stamp.{stamped}
use Rattle.elem_store.specs.Updates.{HasTaken, element_of, is_taken}
use Rattle.elem_store.proofs.CallerLemmas.{same_id, find-Some, Contains-cons, less-other, less-less}
use Rattle.delta.specs.Applied.{KeepsStamp}
use Rattle.delta.specs.Delta.{Delta}
use Rattle.delta.specs.Facts.{part_ids}
use Rattle.delta.specs.Pairs.{Pair, EntryStandsFor, pair_with, pairs_from}
use Rattle.delta.specs.Parts.{PartStandsFor, inverse, inverses}
use Rattle.delta.specs.declared.stamping.VersionFull.{VersionFull}
use Rattle.delta.proofs.CallerLemmas.{entry-more, entry-none, applied-apart, rising-push, rising-front, earlier_less, later_greater}
use Rattle.history.proofs.PlanLaws.{reverse-cons}
use Rattle.history.specs.Stacks.{OnFull, HasStepped, HasStoredIds, HaveStoredIds, with_entry, redo_left}
use Rattle.history.specs.Steps.{IsNow, IsFull, IsFullId, IsLeastFull, PartHasGiven, IsGivenByPart, IsStep}
use Rattle.history.specs.inner.Steps.{ComesOf}

pub reverse-Contains : {X : Type 0} (xs : List X) (x : X) → Contains (reverse xs) x → Contains xs x
reverse-Contains [] x c = absurd (omega (arith, c.1))
reverse-Contains (y ∷ ys) x c =
    elim (Contains-push_cases (reverse ys) y x (subst (λ zs. Contains zs x) (reverse-cons y ys) c)) [
      | inl earlier ↦ Contains-cons y ys x (reverse-Contains ys x earlier)
      | inr same ↦ (0, omega arith, same)
    ]

-- with no part nothing changes
pub step-none : (store : List ElementValue) (time nonce : ℕ) → IsStep [] store time nonce [] []
step-none store time nonce = record {
  gives = record {
    ordered = refl;
    each = λ e c. absurd (omega (arith, c.1));
    all = λ q c. absurd (omega (arith, c.1));
  };
  undoes = entry-none;
  none_full = λ id full. absurd (omega (arith, full.2.among.1));
}

-- the id of an element that comes of a part
pub came-id : (store : List ElementValue) (time nonce : ℕ) (part : Delta) (now reverted e : ElementValue)
    → element_of store part.id ≡ Some now → KeepsStamp now reverted → e ≡ stamped time nonce reverted → part.id ≡ e.id
came-id store time nonce part now reverted e stored kept is =
    same_id part.id now (find-Some (has_id part.id) store now stored).1 ∙ sym kept.id
    ∙ sym (ap (λ (d : ElementValue). d.id) is)

module _ (store : List ElementValue) (time nonce : ℕ) (parts : List Delta) (given : List ElementValue)
    (made : List Delta) (part : Delta) (now : ElementValue) (step : IsStep parts store time nonce given made)
    (rising : are_rising (part_ids (parts ++ part ∷ [])) ≡ true) (stored : element_of store part.id ≡ Some now) where
  longer : (q : Delta) (x : ElementValue) → IsNow parts store q x → IsNow (parts ++ part ∷ []) store q x
  longer q x is = record { among = Contains-append_left parts (part ∷ []) q is.among; stored = is.stored }

  own : IsNow (parts ++ part ∷ []) store part now
  own = record { among = Contains-push parts part; stored = stored }

  -- no id is full where that of the last part isn't
  none-more : ¬ (IsFull part now) → (id : List ℕ) → ¬ (IsFullId (parts ++ part ∷ []) store id)
  none-more not id full = elim (Contains-push_cases parts part full.0 full.2.among) [
    | inl earlier ↦ step.none_full id (
      full.0,
      full.1,
      record { among = earlier; stored = full.2.stored },
      full.3,
      full.4,
    )
    | inr same ↦
        not (subst₂ IsFull (sym same) (same_Some full.1 now (sym full.2.stored
        ∙ ap (λ (q : Delta). element_of store q.id) (sym same) ∙ stored)) full.3)
  ]

  -- what is given of a part is so in a longer step
  given-longer : (e : ElementValue) → IsGivenByPart parts store time nonce e
      → IsGivenByPart (parts ++ part ∷ []) store time nonce e
  given-longer e old = record {
    part = old.part;
    now = old.now;
    reverted = old.reverted;
    at = longer old.part old.now old.at;
    reverts = old.reverts;
    differs = old.differs;
    is = old.is;
  }

  -- what a longer step says of each part
  abbrev Comes : List ElementValue → Delta → Type 0
  Comes es q = PartHasGiven (parts ++ part ∷ []) store time nonce es q

  comes-longer : (more : List ElementValue) (q : Delta) → PartHasGiven parts store time nonce given q
      → Comes (given ++ more) q
  comes-longer more q old = record {
    now = old.now;
    reverted = old.reverted;
    at = longer q old.now old.at;
    reverts = old.reverts;
    comes = elim old.comes [
      | inl same ↦ inl same
      | inr among ↦ inr (Contains-append_left given more (stamped time nonce old.reverted) among)
    ];
  }

  -- the last part leaves its element as it is
  pub step-same : ComesOf part now time nonce None → IsStep (parts ++ part ∷ []) store time nonce given made
  step-same came = record {
    gives = record {
      ordered = step.gives.ordered;
      each = λ e c. given-longer e (step.gives.each e c);
      all = λ q c. elim (Contains-push_cases parts part q c) [
        | inl earlier ↦ subst (λ es. Comes es q) (append-nil given) (comes-longer [] q (step.gives.all q earlier))
        | inr same ↦ subst (Comes given) same (record {
          now = now;
          reverted = came.reverted;
          at = own;
          reverts =
              came.reverts;
          comes = inl came.same;
        })
      ];
    };
    undoes = step.undoes;
    none_full = none-more (λ full. applied-apart (inverse part) now came.reverted full.0 came.reverts.is_element
        full.1.is_element came.reverts.applied full.1.applied (λ same. full.2 (came.same ∙ same)));
  }

  -- the last part changes its element
  module _ (e : ElementValue) (p : Delta) (came : ComesOf part now time nonce (Some e))
      (difference : PartStandsFor p now e) where
    given-less : (g : ElementValue) → Contains given g → bytes_less g.id e.id ≡ true
    given-less g c =
        let old = step.gives.each g c in
        subst₂ (λ a b. bytes_less a b ≡ true)
        (came-id store time nonce old.part old.now old.reverted g old.at.stored old.reverts.kept old.is)
        (came-id store time nonce part now came.reverted e stored came.reverts.kept came.is)
        (earlier_less (λ (q : Delta). q.id) parts part [] old.part rising old.at.among)

    made-more : EntryStandsFor (made ++ p ∷ []) (pairs_from (element_of store) (given ++ e ∷ []))
    made-more =
        let pairs = pairs_from (element_of store) given in
        let pair = λ (x : ElementValue). pair_with (element_of store x.id) x in
        let held : element_of store e.id ≡ Some now =
        ap (element_of store) (sym (came-id store time nonce part now came.reverted e stored came.reverts.kept
        came.is)) ∙ stored in
        let less : (other : Pair) → Contains pairs other → bytes_less other.after.id e.id ≡ true = λ other c.
        let g = Contains-map pair given other c in
        subst (λ (o : Pair). bytes_less o.after.id e.id ≡ true) g.2 (given-less g.0 g.1) in
        subst (EntryStandsFor (made ++ p ∷ [])) (ap (λ o. pairs ++ pair_with o e ∷ []) (sym held)
        ∙ sym (map-append pair given (e ∷ [])))
        (entry-more made pairs (pair_with (Some now) e) step.undoes p less
        (record {
          id = sym (same_id part.id now (find-Some (has_id part.id) store now stored).1)
              ∙ came-id store time nonce part now came.reverted e stored came.reverts.kept came.is;
          kind = sym (ap (λ (d : ElementValue). d.kind) came.is ∙ came.reverts.kept.kind);
          differ = λ same. came.differs (same ∙ ap unstamped came.is);
        })
        difference)

    pub step-more : IsStep (parts ++ part ∷ []) store time nonce (given ++ e ∷ []) (made ++ p ∷ [])
    step-more = record {
      gives = record {
        ordered = rising-push (λ (d : ElementValue). d.id) given e given-less step.gives.ordered;
        each = λ g c. elim (Contains-push_cases given e g c) [
          | inl earlier ↦ given-longer g (step.gives.each g earlier)
          | inr same ↦ record {
            part = part;
            now = now;
            reverted = came.reverted;
            at = own;
            reverts = came.reverts;
            differs = came.differs;
            is = sym same ∙ came.is;
          }
        ];
        all = λ q c. elim (Contains-push_cases parts part q c) [
          | inl earlier ↦ comes-longer (e ∷ []) q (step.gives.all q earlier)
          | inr same ↦ subst (Comes (given ++ e ∷ [])) same (record {
            now = now;
            reverted = came.reverted;
            at = own;
            reverts = came.reverts;
            comes = inr (subst (Contains (given ++ e ∷ [])) came.is (Contains-push given e));
          })
        ];
      };
      undoes = made-more;
      none_full = none-more (λ full. came.room full.3);
    }

-- where the parts before one stop nothing and it does, its id is the least
pub least-full : (store : List ElementValue) (before after : List Delta) (part : Delta) (now : ElementValue)
    → are_rising (part_ids (before ++ part ∷ after)) ≡ true → ((id : List ℕ) → ¬ (IsFullId before store id))
    → element_of store part.id ≡ Some now → IsFull part now → IsLeastFull (before ++ part ∷ after) store part.id
least-full store before after part now rising none stored full = record {
  full = (
    part,
    now,
    record {
      among = Contains-append_right before (part ∷ after) part (0, omega arith, refl);
      stored =
          stored;
    },
    full,
    refl,
  );
  least = λ other is. elim (cases_Bool (bytes_less other part.id)) [
    | inl less ↦ absurd (refuted other is less)
    | inr not ↦ not
  ];
}
  where
    behind : (q : Delta) → Contains (part ∷ after) q → bytes_less q.id part.id ≡ true → ⊥
    behind q (zero, l, same) less = less-other q.id part.id less (ap (λ (d : Delta). d.id) (sym same))
    behind q (suc k, l, same) less = less-less q.id part.id less
        (later_greater (λ (d : Delta). d.id) before part after q rising (k, omega arith, same))

    refuted : (other : List ℕ) → IsFullId (before ++ part ∷ after) store other → bytes_less other part.id ≡ true → ⊥
    refuted other is less = elim (Contains-append_cases before (part ∷ after) is.0 is.2.among) [
      | inl earlier ↦ none other (is.0, is.1, record { among = earlier; stored = is.2.stored }, is.3, is.4)
      | inr later ↦ behind is.0 later (subst (λ id. bytes_less id part.id ≡ true) (sym is.4) less)
    ]

-- the next part of an entry
pub next-part : (items : List Delta) (i : ℕ) (part : Delta) → i < length items → part ≡ get_or items i part
    → are_rising (part_ids items) ≡ true
    → (take (i + 1) items ≡ take i items ++ part ∷ []) × (are_rising (part_ids (take i items ++ part ∷ [])) ≡ true)
    × (items ≡ take i items ++ part ∷ drop (i + 1) items)
next-part items i part within here rising =
    let more : take (i + 1) items ≡ take i items ++ part ∷ [] =
    take_more items i part within ∙ ap (λ x. take i items ++ x ∷ []) (sym here) in
    let whole : take (i + 1) items ++ drop (i + 1) items ≡ items = take-append-drop (i + 1) items in
    let front : are_rising (part_ids (take (i + 1) items)) ≡ true =
    rising-front (λ (d : Delta). d.id) (take (i + 1) items) (drop (i + 1) items)
    (subst (λ xs. are_rising (part_ids xs) ≡ true) (sym whole) rising) in (
      more,
      subst (λ xs. are_rising (part_ids xs) ≡ true) more front,
      sym whole ∙ ap (λ xs. xs ++ drop (i + 1) items) more
          ∙ append_assoc (take i items) (part ∷ []) (drop (i + 1) items),
    )

-- a fact about the id of a fault that follows from another one
pub OnFull-weaker : (stop : Stop VersionFull) (P Q : List ℕ → Type 0) → ((id : List ℕ) → P id → Q id) → OnFull stop P
    → OnFull stop Q
OnFull-weaker (Fault full) P Q f h = f full.0 h
OnFull-weaker Memory P Q f h = tt

-- the ids of an entry's inverse are stored as its own
inverses-stored : (store : List ElementValue) (parts : List Delta) → HasStoredIds store parts
    → HasStoredIds store (inverses parts)
inverses-stored store parts stored part among =
    let of = Contains-map inverse parts part among in
    subst (λ (p : Delta). IsSome (element_of store p.id)) of.2 (stored of.0 of.1)

-- a step keeps that the ids are stored
pub ids-stored : (store given : List ElementValue) (time nonce : ℕ) (from to below grown : List (List Delta))
    → HasStepped store time nonce given from to below grown → HaveStoredIds store from → HaveStoredIds store to
    → HaveStoredIds store below × HaveStoredIds store grown
ids-stored store given time nonce from to below grown stepped before others = (
  λ parts among. within parts (Contains-append_left below (stepped.parts ∷ stepped.above) parts among),
  λ parts among. elim (Contains-append_cases to (map inverses (reverse stepped.above) ++ stepped.made ∷ []) parts
      (subst (λ stack. Contains stack parts) stepped.pushed among)) [
        | inl earlier ↦ others parts earlier
        | inr later ↦ elim (Contains-push_cases (map inverses (reverse stepped.above)) stepped.made parts later) [
          | inl moved ↦
              let of = Contains-map inverses (reverse stepped.above) parts moved in
              subst (HasStoredIds store) of.2
              (inverses-stored store of.0 (within of.0 (Contains-append_right below (stepped.parts ∷ stepped.above) of.0
              (Contains-cons stepped.parts stepped.above of.0 (reverse-Contains stepped.above of.0 of.1)))))
          | inr same ↦ subst (HasStoredIds store) same made
        ]
      ],
)
  where
    within : (parts : List Delta) → Contains (below ++ stepped.parts ∷ stepped.above) parts → HasStoredIds store parts
    within parts among = before parts (subst (λ stack. Contains stack parts) (sym stepped.topmost.split) among)

    made : HasStoredIds store stepped.made
    made p c =
        let of = stepped.step.undoes.each_part p c in
        let g = Contains-map (λ (x : ElementValue). pair_with (element_of store x.id) x) given of.0 of.1 in
        let own = stepped.step.gives.each g.0 g.1 in
        let id : own.part.id ≡ p.id =
        came-id store time nonce own.part own.now own.reverted g.0 own.at.stored own.reverts.kept own.is
        ∙ ap (λ (o : Pair). o.after.id) g.2 ∙ sym of.2.stands.id in
        subst (λ i. IsSome (element_of store i)) id (subst IsSome (sym own.at.stored) refl)

-- storing an element keeps that the ids are stored
pub ids-taken : (old new : List ElementValue) (e : ElementValue) (stack : List (List Delta)) → HasTaken old e new
    → HaveStoredIds old stack → HaveStoredIds new stack
ids-taken old new e stack taken stored parts inside part among =
    subst IsSome (sym (taken.each part.id)) (either (has_id part.id e && is_taken old e))
  where
    either : (b : Bool) → IsSome (if b then Some e else element_of old part.id)
    either true = refl
    either false = stored parts inside part among

-- ---- an entry that is noted
pub noted-ids : (stored : List ElementValue) (entry : List Delta) (stack : List (List Delta))
    → HasStoredIds stored entry → HaveStoredIds stored stack → HaveStoredIds stored (with_entry entry stack)
noted-ids stored [] stack own ids parts c = ids parts c
noted-ids stored (part ∷ more) stack own ids parts c =
    elim (Contains-push_cases stack (part ∷ more) parts c) [
      | inl earlier ↦ ids parts earlier
      | inr same ↦ subst (HasStoredIds stored) same own
    ]

pub left-ids : (stored : List ElementValue) (entry : List Delta) (stack : List (List Delta))
    → HaveStoredIds stored stack → HaveStoredIds stored (redo_left entry stack)
left-ids stored [] stack ids parts c = ids parts c
left-ids stored (part ∷ more) stack ids parts c = absurd (omega (arith, c.1))
