-- Changes of an element, one after another.
use Rattle.std.proofs.Common.{◌≡◌, ℕ, zero, suc, ◌<◌, ◌≤◌, Bool, true, false, cond, List, [], ◌∷◌, ◌++◌, length, take, drop, set, get_or, map, Option, Some, None, Result, Ok, Err, OnOk, IfSome, codes, bytes_eq, if◌then◌else◌, refl, sym, ap, ◌∙◌, subst, arith}
use Rattle.std.specs.List.{AllByRecursion, list_any}
use Rattle.std.specs.Option.{option_or}
use Rattle.std.proofs.lemmas.List.Folds.{find-append}
use Rattle.std.proofs.lemmas.Option.{none-some}
use Rattle.json_text.specs.Members.{pairs}
use Rattle.json_text.specs.Value.{IsCompact}
use Rattle.json_text.specs.declared.text.Member.{Member}
use Rattle.json_text.proofs.CallerLemmas.{bytes_eq-true, bytes_eq-apart}
use Rattle.frac_keys.specs.Rising.{are_rising}
use Rattle.elem.specs.ElementValue.{ElementValue}
use Rattle.elem.specs.Facts.{IsElement, is_header, names}
use Rattle.elem.proofs.CallerLemmas.{IsRising, each-list_any, list_any-each}
use Rattle.delta.specs.declared.change.Change.{Change}
use Rattle.delta.specs.declared.change.Change.TheVariants.{Scalar, Groups, Bound}
use Rattle.delta.specs.declared.header.Header.{Header}
use Rattle.delta.specs.Applied.{Changes, scalar_after, groups_after, bound_after}
use Rattle.delta.specs.Delta.{Delta}
use Rattle.delta.specs.Facts.{IsPart, IsChange, AreParts, name_of, change_names, part_ids}
use Rattle.delta.specs.Headers.{header_named, value_named, scalar_at, scalar_of}
use Rattle.delta.specs.inner.Kept.{IsScalarSet}
use Rattle.delta.specs.Parts.{change_of, inverted, inverse}
use Rattle.delta.specs.Rest.{made, with_value}
use Rattle.delta.proofs.HeaderLaws.{header_kept}
use Rattle.delta.proofs.RestLaws.{risen, rises, rising-with_value, each-with_value, named-with_value}

pub OnOk-weaker : {T E : Type 0} (r : Result T E) (P Q : Type 0) → (P → Q) → OnOk r P → OnOk r Q
OnOk-weaker (Ok x) P Q f h = f h
OnOk-weaker (Err e) P Q f h = h

-- ---- an element of which a further member was set
pub IsScalarSet-member : (e : ElementValue) (name : List ℕ) (value : Option (List ℕ)) (rest : List Member)
    → header_named e.kind name ≡ None → IsRising (pairs e.rest) → rest ≡ with_value name value e.rest
    → IsScalarSet e (record e { rest = rest }) name value
IsScalarSet-member e name value rest other rise is = record {
  stamp = record { id = refl; kind = refl; version = refl; nonce = refl; updated = refl };
  groups = refl;
  bound = refl;
  scalars = λ n. each n (header_named e.kind n) refl;
}
  where
    some-none : (h : Header) → Some h ≡ None → ⊥
    some-none h e = cc

    each : (n : List ℕ) (o : Option Header) → header_named e.kind n ≡ o
        → scalar_at (record e { rest = rest }) n o ≡ (if bytes_eq n name then value else scalar_at e n o)
    each n None here = ap (value_named n) is ∙ named-with_value n name value e.rest rise
    each n (Some h) here =
        ap Some (header_kept e rest h)
        ∙ sym (ap (λ b. if b then value else scalar_at e n (Some h))
        (bytes_eq-apart n name (λ same. some-none h (sym here ∙ ap (header_named e.kind) same ∙ other))))

pub IsElement-rest : (e : ElementValue) (name : List ℕ) (value : Option (List ℕ)) (rest : List Member) → IsElement e
    → is_header e.kind name ≡ false → IfSome value (IsCompact 119) → rest ≡ with_value name value e.rest
    → IsElement (record e { rest = rest })
IsElement-rest e name value rest old free compact is = record {
  named = old.named;
  version = old.version;
  nonce = old.nonce;
  updated = old.updated;
  kind = old.kind;
  container = old.container;
  start_binding = old.start_binding;
  end_binding = old.end_binding;
  file = old.file;
  rise = ap (λ ms. are_rising (names ms)) is ∙ rises _ (rising-with_value name value e.rest (risen e.rest old.rise));
  free =
      let P : Member → Type 0 = λ m. is_header e.kind m.name ≡ false in
      ap (λ ms. list_any (is_header e.kind) (names ms)) is
      ∙ list_any-each (is_header e.kind) (with_value name value e.rest)
      (each-with_value P name value e.rest (new P (λ v. free) value)
      (each-list_any (is_header e.kind) e.rest old.free));
  nest =
      let P : Member → Type 0 = λ m. IsCompact 119 m.value in
      subst (AllByRecursion P) (sym is) (each-with_value P name value e.rest (valued value compact) old.nest);
}
  where
    new : (P : Member → Type 0) → ((v : List ℕ) → P (record { name = name; value = v })) → (value : Option (List ℕ))
        → AllByRecursion P (made name value)
    new P h None = tt
    new P h (Some v) = (h v, tt)

    valued : (value : Option (List ℕ)) → IfSome value (IsCompact 119)
        → AllByRecursion (λ (m : Member). IsCompact 119 m.value) (made name value)
    valued None h = tt
    valued (Some v) h = (h, tt)

-- ---- one change
pub Changes-none : (e : ElementValue) → Changes [] e e
Changes-none e = record {
  stamp = record { id = refl; kind = refl; version = refl; nonce = refl; updated = refl };
  scalars = λ n. refl;
  groups = refl;
  bound = refl;
}

pub Changes-scalar : (old new : ElementValue) (name : List ℕ) (before after : Option (List ℕ))
    → IsScalarSet old new name after → Changes (Scalar name before after ∷ []) old new
Changes-scalar old new name before after set = record {
  stamp = set.stamp;
  scalars = λ n. set.scalars n ∙ chosen (bytes_eq n name) (scalar_of old n);
  groups = set.groups ∙ same_groups (bytes_eq (codes "groupIds") name);
  bound = set.bound ∙ same_bound (bytes_eq (codes "boundElements") name);
}
  where
    chosen : (b : Bool) (now : Option (List ℕ)) → (if b then after else now)
        ≡ scalar_after (cond b (Some (Scalar name before after)) None) now
    chosen true now = refl
    chosen false now = refl

    same_groups : (b : Bool) → old.groups ≡ groups_after (cond b (Some (Scalar name before after)) None) old.groups
    same_groups true = refl
    same_groups false = refl

    same_bound : (b : Bool) → old.bound ≡ bound_after (cond b (Some (Scalar name before after)) None) old.bound
    same_bound true = refl
    same_bound false = refl

-- ---- one change more
pub Changes-more : (cs : List Change) (c : Change) (a b d : ElementValue) → Changes cs a b → Changes (c ∷ []) b d
    → change_of cs (name_of c) ≡ None → Changes (cs ++ c ∷ []) a d
Changes-more cs c a b d first next none = record {
  stamp = record {
    id = next.stamp.id ∙ first.stamp.id;
    kind = next.stamp.kind ∙ first.stamp.kind;
    version = next.stamp.version ∙ first.stamp.version;
    nonce = next.stamp.nonce ∙ first.stamp.nonce;
    updated = next.stamp.updated ∙ first.stamp.updated;
  };
  scalars = λ n. next.scalars n ∙ ap (scalar_after (change_of (c ∷ []) n)) (first.scalars n)
      ∙ joins scalar_after (λ x. refl) n (scalar_of a n);
  groups = next.groups ∙ ap (groups_after (change_of (c ∷ []) (codes "groupIds"))) first.groups
      ∙ joins groups_after (λ x. refl) (codes "groupIds") a.groups;
  bound = next.bound ∙ ap (bound_after (change_of (c ∷ []) (codes "boundElements"))) first.bound
      ∙ joins bound_after (λ x. refl) (codes "boundElements") a.bound;
}
  where
    chosen : {X : Type 0} (after : Option Change → X → X) → ((x : X) → after None x ≡ x)
        → (x : X) (o : Option Change) (b : Bool) → (b ≡ true → o ≡ None)
        → after (cond b (Some c) None) (after o x) ≡ after (option_or o (cond b (Some c) None)) x
    chosen after nothing x None true h = ap (after (Some c)) (nothing x)
    chosen after nothing x None false h = nothing (after None x)
    chosen after nothing x (Some d) true h = absurd (none-some d (sym (h refl)))
    chosen after nothing x (Some d) false h = nothing (after (Some d) x)

    joins : {X : Type 0} (after : Option Change → X → X) → ((x : X) → after None x ≡ x) → (n : List ℕ) (x : X)
        → after (change_of (c ∷ []) n) (after (change_of cs n) x) ≡ after (change_of (cs ++ c ∷ []) n) x
    joins after nothing n x =
        chosen after nothing x (change_of cs n) (bytes_eq n (name_of c))
        (λ t. ap (change_of cs) (bytes_eq-true n (name_of c) t) ∙ none)
        ∙ sym (ap (λ o. after o x) (find-append (λ change. bytes_eq n (name_of change)) cs (c ∷ [])))

pub each-change : (P : Change → Type 0) (cs : List Change) (i : ℕ) (c : Change) → AllByRecursion P cs → i < length cs
    → c ≡ get_or cs i c → P c
each-change P [] i c h l here = absurd (omega arith)
each-change P (d ∷ ds) zero c h l here = subst P (sym here) h.0
each-change P (d ∷ ds) (suc i) c h l here = each-change P ds i c h.1 (omega arith) here

-- ---- the inverse of a part
-- a part without changes is one
pub IsPart-none : (part : Delta) → part.changes ≡ [] → IsPart part
IsPart-none part none = record {
  rise = ap (λ cs. are_rising (change_names cs)) none;
  each = subst (AllByRecursion (IsChange part.kind)) (sym none) tt;
}

-- the first items in the form that they get
abbrev pub partly : {X : Type 0} → (X → X) → ℕ → List X → List X
partly f i xs = map f (take i xs) ++ drop i xs

module _ {X : Type 0} (f : X → X) where
  pub partly-more : (xs : List X) (i : ℕ) (d new : X) → i < length xs → new ≡ f (get_or (partly f i xs) i d)
      → set (partly f i xs) i new ≡ partly f (suc i) xs
  partly-more [] i d new l is = absurd (omega arith)
  partly-more (x ∷ xs) zero d new l is = ap (λ y. y ∷ xs) is
  partly-more (x ∷ xs) (suc i) d new l is = ap (λ ys. f x ∷ ys) (partly-more xs i d new (omega arith) is)

  pub partly-all : (xs : List X) (i : ℕ) → length xs ≤ i → partly f i xs ≡ map f xs
  partly-all [] zero l = refl
  partly-all [] (suc i) l = refl
  partly-all (x ∷ xs) zero l = absurd (omega arith)
  partly-all (x ∷ xs) (suc i) l = ap (λ ys. f x ∷ ys) (partly-all xs i (omega arith))

pub name-inverted : (c : Change) → name_of (inverted c) ≡ name_of c
name-inverted (Scalar name before after) = refl
name-inverted (Groups before after) = refl
name-inverted (Bound before after) = refl

pub names-inverted : (cs : List Change) → change_names (map inverted cs) ≡ change_names cs
names-inverted [] = refl
names-inverted (c ∷ cs) = λ i. name-inverted c i ∷ names-inverted cs i

ids-inverted : (parts : List Delta) → part_ids (map inverse parts) ≡ part_ids parts
ids-inverted [] = refl
ids-inverted (part ∷ parts) = ap (λ ids. part.id ∷ ids) (ids-inverted parts)

-- the ids of inverted parts rise as those of the parts
pub AreParts-inverse : (parts : List Delta) → AreParts parts → AreParts (map inverse parts)
AreParts-inverse parts rising = ap are_rising (ids-inverted parts) ∙ rising

pub IsPart-inverse : (part : Delta) → IsPart part → IsPart (inverse part)
IsPart-inverse part is = record {
  rise = ap are_rising (names-inverted part.changes) ∙ is.rise;
  each = all part.changes is.each;
}
  where
    one : (c : Change) → IsChange part.kind c → IsChange part.kind (inverted c)
    one (Scalar name before after) h = (h.0, h.2, h.1)
    one (Groups before after) h = tt
    one (Bound before after) h = tt

    all : (cs : List Change) → AllByRecursion (IsChange part.kind) cs
        → AllByRecursion (IsChange part.kind) (map inverted cs)
    all [] h = tt
    all (c ∷ cs) h = (one c h.0, all cs h.1)
