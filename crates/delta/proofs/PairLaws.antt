-- Entries that grow by a part.
use Rattle.std.proofs.Common.{◌≡◌, ℕ, true, List, [], ◌∷◌, ◌++◌, map, Some, None, Contains, codes, refl, sym, ap, ap₂, ◌∙◌, subst, inl, inr, arith}
use Rattle.std.proofs.lemmas.List.Elements.{Contains-append_left, Contains-push, Contains-push_cases}
use Rattle.frac_keys.specs.Keys.{bytes_less}
use Rattle.delta.specs.Delta.{Delta}
use Rattle.frac_keys.specs.Rising.{are_rising}
use Rattle.json_text.proofs.CallerLemmas.{Contains-map, Contains-to_map}
use Rattle.elem.specs.ElementValue.{ElementValue}
use Rattle.elem.specs.Order.{unstamped}
use Rattle.delta.specs.declared.header.Header.{Header}
use Rattle.delta.specs.declared.header.Header.TheVariants as headers
use Rattle.delta.specs.Headers.{header_named, scalar_text, scalar_at, scalar_of}
use Rattle.delta.specs.Parts.{PartStandsFor, inverse, inverses, scalar_change, groups_change, bound_change}
use Rattle.delta.proofs.ChangeLaws.{AreParts-inverse, names-inverted}
use Rattle.delta.proofs.PartLaws.{part-once, turned, change-inverted, scalar-turned, groups-turned, bound-turned}
use Rattle.delta.proofs.Placing.{same_members}
use Rattle.delta.specs.Pairs.{Pair, IsChanged, IsUnchanged, IsPartOf, EntryStandsFor, IsSamePair, HasSamePairs, exchanged}
use Rattle.delta.proofs.RisingIds.{rising-push}

module _ (parts : List Delta) (pairs : List Pair) (pair : Pair) (stands : EntryStandsFor parts pairs) where
  -- a changed pair behind those of lesser ids has a part behind the parts
  pub entry-more : (part : Delta) → ((other : Pair) → Contains pairs other
      → bytes_less other.after.id pair.after.id ≡ true) → IsChanged pair → PartStandsFor part pair.before pair.after
      → EntryStandsFor (parts ++ part ∷ []) (pairs ++ pair ∷ [])
  entry-more part less changed difference = record {
    ordered =
        let below : (p : Delta) → Contains parts p → bytes_less p.id part.id ≡ true = λ p c.
        let own = stands.each_part p c in
        subst (λ k. bytes_less k part.id ≡ true) (sym own.2.stands.id)
        (subst (λ k. bytes_less own.0.after.id k ≡ true) (sym difference.id) (less own.0 own.1)) in
        rising-push (λ (p : Delta). p.id) parts part below stands.ordered;
    each_part = λ p c. elim (Contains-push_cases parts part p c) [
      | inl earlier ↦ let own =
          stands.each_part p earlier in (own.0, Contains-append_left pairs (pair ∷ []) own.0 own.1, own.2)
      | inr same ↦ (
        pair,
        Contains-push pairs pair,
        record { changed = changed; stands = subst (λ q. PartStandsFor q pair.before pair.after) same difference },
      )
    ];
    each_pair = λ q c. elim (Contains-push_cases pairs pair q c) [
      | inl earlier ↦ elim (stands.each_pair q earlier) [
        | inl same ↦ inl same
        | inr own ↦ inr (own.0, Contains-append_left parts (part ∷ []) own.0 own.1, own.2)
      ]
      | inr same ↦ inr (
        part,
        Contains-push parts part,
        subst (IsPartOf part) same (record { changed = changed; stands = difference }),
      )
    ];
  }

  -- a pair that isn't changed has none
  pub entry-same : IsUnchanged pair → EntryStandsFor parts (pairs ++ pair ∷ [])
  entry-same unchanged = record {
    ordered = stands.ordered;
    each_part =
        λ p c. let own = stands.each_part p c in (own.0, Contains-append_left pairs (pair ∷ []) own.0 own.1, own.2);
    each_pair = λ q c. elim (Contains-push_cases pairs pair q c) [
      | inl earlier ↦ stands.each_pair q earlier
      | inr same ↦ inl (subst IsUnchanged same unchanged)
    ];
  }

-- with no pair there is no part
pub entry-none : EntryStandsFor [] []
entry-none = record {
  ordered = refl;
  each_part = λ p c. absurd (omega (arith, c.1));
  each_pair = λ q c. absurd (omega (arith, c.1));
}

-- ---- an entry is one alone
module _ (ps qs : List Delta) (pairs : List Pair) (first : EntryStandsFor ps pairs) (second : EntryStandsFor qs pairs)
  where
    in-other : (p : Delta) → Contains ps p → Contains qs p
    in-other p c =
        let own = first.each_part p c in
        elim (second.each_pair own.0 own.1) [
          | inl same ↦ absurd (own.2.changed.differ (same own.2.changed.kind))
          | inr of ↦ subst (Contains qs) (part-once of.0 p own.0.before own.0.after of.2.stands own.2.stands) of.1
        ]

pub entry-once : (ps qs : List Delta) (pairs : List Pair) → EntryStandsFor ps pairs → EntryStandsFor qs pairs → ps ≡ qs
entry-once ps qs pairs first second =
    same_members (λ (p : Delta). p.id) ps qs first.ordered second.ordered (in-other ps qs pairs first second)
    (in-other qs ps pairs second first)

-- ---- stamps play no part
scalar-unstamped : (e : ElementValue) (name : List ℕ) → scalar_of (unstamped e) name ≡ scalar_of e name
scalar-unstamped e name =
    elim (header_named e.kind name) as (λ o. scalar_at (unstamped e) name o ≡ scalar_at e name o) [
      | None ↦ refl
      | Some h ↦ ap Some (text h)
    ]
  where
    text : (h : Header) → scalar_text (unstamped e) h ≡ scalar_text e h
    text headers.Deleted = refl
    text headers.Index = refl
    text headers.Frame = refl
    text headers.Container = refl
    text headers.StartBinding = refl
    text headers.EndBinding = refl
    text headers.File = refl

pub scalars-same-but-stamp : (a b : ElementValue) → unstamped a ≡ unstamped b → (name : List ℕ)
    → scalar_of a name ≡ scalar_of b name
scalars-same-but-stamp a b same name =
    sym (scalar-unstamped a name) ∙ ap (λ (e : ElementValue). scalar_of e name) same ∙ scalar-unstamped b name

module _ (pair other : Pair) (same : IsSamePair pair other) where
  ids : pair.after.id ≡ other.after.id
  ids = ap (λ (e : ElementValue). e.id) same.after

  kinds : pair.after.kind ≡ other.after.kind
  kinds = ap (λ (e : ElementValue). e.kind) same.after

  old_kinds : pair.before.kind ≡ other.before.kind
  old_kinds = ap (λ (e : ElementValue). e.kind) same.before

  pub same-changed : IsChanged pair → IsChanged other
  same-changed changed = record {
    id = sym (ap (λ (e : ElementValue). e.id) same.before) ∙ changed.id ∙ ids;
    kind = sym old_kinds ∙ changed.kind ∙ kinds;
    differ = λ e. changed.differ (same.before ∙ e ∙ sym same.after);
  }

  pub same-unchanged : IsUnchanged pair → IsUnchanged other
  same-unchanged unchanged kind = sym same.before ∙ unchanged (old_kinds ∙ kind ∙ sym kinds) ∙ same.after

  pub same-part : (part : Delta) → IsPartOf part pair → IsPartOf part other
  same-part part is =
      let before = scalars-same-but-stamp pair.before other.before same.before in
      let after = scalars-same-but-stamp pair.after other.after same.after in
      record {
        changed = same-changed is.changed;
        stands = record {
          id = is.stands.id ∙ ids;
          kind = is.stands.kind ∙ kinds;
          rise = is.stands.rise;
          scalars = λ name scalar. is.stands.scalars name scalar ∙ ap₂ (scalar_change name) (before name) (after name);
          groups = is.stands.groups ∙ ap₂ groups_change (ap (λ (e : ElementValue). e.groups) same.before)
              (ap (λ (e : ElementValue). e.groups) same.after);
          bound = is.stands.bound ∙ ap₂ bound_change (ap (λ (e : ElementValue). e.bound) same.before)
              (ap (λ (e : ElementValue). e.bound) same.after);
        };
      }

same-turned : (pair other : Pair) → IsSamePair pair other → IsSamePair other pair
same-turned pair other same = record { before = sym same.before; after = sym same.after }

pub entry-unstamped : (parts : List Delta) (pairs others : List Pair) → EntryStandsFor parts pairs
    → HasSamePairs pairs others → HasSamePairs others pairs → EntryStandsFor parts others
entry-unstamped parts pairs others stands there back = record {
  ordered = stands.ordered;
  each_part = λ part c.
      let own = stands.each_part part c in
      elim (there own.0 own.1) [
        | inl same ↦ absurd (own.2.changed.differ (same own.2.changed.kind))
        | inr of ↦ (of.0, of.1, same-part own.0 of.0 of.2 part own.2)
      ];
  each_pair = λ other c. elim (back other c) [
    | inl same ↦ inl same
    | inr of ↦
        let turned = same-turned other of.0 of.2 in
        elim (stands.each_pair of.0 of.1) [
          | inl same ↦ inl (same-unchanged of.0 other turned same)
          | inr own ↦ inr (own.0, own.1, same-part of.0 other turned own.0 own.2)
        ]
  ];
}

-- ---- the other way round
exchanged-changed : (pair : Pair) → IsChanged pair → IsChanged (exchanged pair)
exchanged-changed pair changed =
    record { id = sym changed.id; kind = sym changed.kind; differ = λ e. changed.differ (sym e) }

exchanged-part : (part : Delta) (pair : Pair) → IsPartOf part pair → IsPartOf (inverse part) (exchanged pair)
exchanged-part part pair is = record {
  changed = exchanged-changed pair is.changed;
  stands = record {
    id = is.stands.id ∙ sym is.changed.id;
    kind = is.stands.kind ∙ sym is.changed.kind;
    rise = ap are_rising (names-inverted part.changes) ∙ is.stands.rise;
    scalars = λ name scalar. change-inverted part.changes name ∙ ap turned (is.stands.scalars name scalar)
        ∙ scalar-turned name (scalar_of pair.before name) (scalar_of pair.after name);
    groups = change-inverted part.changes (codes "groupIds") ∙ ap turned is.stands.groups
        ∙ groups-turned pair.before.groups pair.after.groups;
    bound = change-inverted part.changes (codes "boundElements") ∙ ap turned is.stands.bound
        ∙ bound-turned pair.before.bound pair.after.bound;
  };
}

pub entry-exchanged : (parts : List Delta) (pairs : List Pair) → EntryStandsFor parts pairs
    → EntryStandsFor (inverses parts) (map exchanged pairs)
entry-exchanged parts pairs stands = record {
  ordered = AreParts-inverse parts stands.ordered;
  each_part = λ part c.
      let of = Contains-map inverse parts part c in
      let own = stands.each_part of.0 of.1 in (
        exchanged own.0,
        Contains-to_map exchanged pairs own.0 own.1,
        subst (λ p. IsPartOf p (exchanged own.0)) of.2 (exchanged-part of.0 own.0 own.2),
      );
  each_pair = λ pair c.
      let of = Contains-map exchanged pairs pair c in
      elim (stands.each_pair of.0 of.1) [
        | inl same ↦ inl (subst IsUnchanged of.2 (λ kind. sym (same (sym kind))))
        | inr own ↦ inr (
          inverse own.0,
          Contains-to_map inverse parts own.0 own.1,
          subst (IsPartOf (inverse own.0)) of.2 (exchanged-part own.0 of.0 own.2),
        )
      ];
}
