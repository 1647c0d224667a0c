-- A member that gets a value.
use Rattle.std.proofs.Common.{◌≡◌, ℕ, suc, ◌+◌, ◌≤◌, Bool, true, false, List, [], ◌∷◌, Some, slice_get, slice_set, insert, bytes_eq, codes, inl, inr, refl, ap, arith}
use Rattle.std.specs.List.{AllByRecursion, prefix_len, list_any}
use Rattle.std.specs.Option.{option_map_or}
use Rattle.std.proofs.lemmas.Bool.{cases_Bool, false≢true, or_parts}
use Rattle.json_text.specs.Value.{IsCompact}
use Rattle.json_text.specs.declared.text.Member.{Member}
use Rattle.frac_keys.specs.Keys.{bytes_less}
use Rattle.elem.specs.Facts.{is_header, header_names, own_names}
use Rattle.elem.specs.declared.kind.Kind.{Kind}
use Rattle.elem.specs.declared.kind.Kind.TheVariants as kinds
use Rattle.delta.specs.Rest.{with_value}
use Rattle.effects.specs.Settings.{is_protected, protected_names}

abbrev pub below : List ℕ → List Member → ℕ
below name ms = prefix_len (λ (m : Member). bytes_less m.name name) ms

abbrev pub has_name : List ℕ → List Member → ℕ → Bool
has_name name ms i = option_map_or (λ (m : Member). bytes_eq name m.name) (slice_get ms i) false

one_more : (n : ℕ) → 1 + n ≡ suc n
one_more n = omega arith

-- the member of a name has its place behind those of lesser names
pub with_value-set : (name value : List ℕ) (ms : List Member) → has_name name ms (below name ms) ≡ true
    → slice_set ms (below name ms) (record { name = name; value = value }) ≡ with_value name (Some value) ms
with_value-set name value [] h = absurd (false≢true h)
with_value-set name value (m ∷ ms) h = elim (cases_Bool (bytes_less m.name name)) [
  | inl e ↦ rw (e, one_more) (ap (λ others. m ∷ others) (with_value-set name value ms (rw (e, one_more) at h)))
  | inr e ↦ rw (e, rw e at h) refl
]

pub with_value-insert : (name value : List ℕ) (ms : List Member) → has_name name ms (below name ms) ≡ false
    → insert ms (below name ms) (record { name = name; value = value }) ≡ with_value name (Some value) ms
with_value-insert name value [] h = refl
with_value-insert name value (m ∷ ms) h = elim (cases_Bool (bytes_less m.name name)) [
  | inl e ↦ rw (e, one_more) (ap (λ others. m ∷ others) (with_value-insert name value ms (rw (e, one_more) at h)))
  | inr e ↦ rw (e, rw e at h) refl
]

-- what nests less deep is within a greater limit
pub nests-more : (limit more : ℕ) (text : List ℕ) → limit ≤ more → IsCompact limit text → IsCompact more text
nests-more limit more text le is = record {
  tree = is.tree;
  good = is.good;
  shallow = omega (arith, is.shallow);
  spells = is.spells;
  means = is.means;
}

-- ---- a name that isn't protected is none of a header
none-of : {X : Type 0} (p : X → Bool) (xs : List X) → list_any p xs ≡ false → AllByRecursion (λ x. p x ≡ false) xs
none-of p [] h = tt
none-of p (x ∷ xs) h = let parts = or_parts (p x) (list_any p xs) h in (parts.0, none-of p xs parts.1)

none-all : {X : Type 0} (p : X → Bool) (xs : List X) → AllByRecursion (λ x. p x ≡ false) xs → list_any p xs ≡ false
none-all p [] h = refl
none-all p (x ∷ xs) h = rw (h.0, none-all p xs h.1) refl

abbrev Apart : List ℕ → Type 0
Apart name =
    AllByRecursion (λ x. bytes_eq name x ≡ false) (codes "containerId" ∷ codes "startBinding" ∷ codes "endBinding"
    ∷ codes "fileId" ∷ [])

pub free-header : (kind : Kind) (name : List ℕ) → is_protected name ≡ false → is_header kind name ≡ false
free-header kind name h =
    let f = none-of (bytes_eq name) protected_names h in
    let common : list_any (bytes_eq name) header_names ≡ false =
    none-all (bytes_eq name) header_names (
      f.0,
      (
        f.1.0,
        (
          f.1.1.0,
          (
            f.1.1.1.0,
            (
              f.1.1.1.1.0,
              (
                f.1.1.1.1.1.1.0,
                (
                  f.1.1.1.1.1.0,
                  (f.1.1.1.1.1.1.1.0, (f.1.1.1.1.1.1.1.1.0, (f.1.1.1.1.1.1.1.1.1.0, tt))),
                ),
              ),
            ),
          ),
        ),
      ),
    )
    in
    rw common (own kind (f.1.1.1.1.1.1.1.1.1.1.1))
  where
    own : (kind : Kind) → Apart name → list_any (bytes_eq name) (own_names kind) ≡ false
    own kinds.Text r = none-all (bytes_eq name) (own_names kinds.Text) (r.0, tt)
    own kinds.Arrow r = none-all (bytes_eq name) (own_names kinds.Arrow) (r.1.0, (r.1.1.0, tt))
    own kinds.Image r = none-all (bytes_eq name) (own_names kinds.Image) (r.1.1.1.0, tt)
    own kinds.Rectangle r = refl
    own kinds.Diamond r = refl
    own kinds.Ellipse r = refl
    own kinds.Line r = refl
    own kinds.Freedraw r = refl
    own kinds.Frame r = refl
    own kinds.Magicframe r = refl
    own kinds.Iframe r = refl
    own kinds.Embeddable r = refl
    own (kinds.Other other) r = refl
