-- What a walk over a list tells of each item.
use Rattle.std.proofs.Common.{◌≡◌, ℕ, ◌+◌, ◌<◌, List, [], ◌∷◌, length, take, get_or, refl, sym, subst, codes}
use Rattle.std.specs.List.{AllByRecursion}
use Rattle.std.proofs.lemmas.List.{take_more}
use Rattle.elem.proofs.Distinct.{AllByRecursion-append}
use Rattle.std.specs.Str.{IsUtf8}
use Rattle.json_text.specs.declared.text.Member.{Member}
use Rattle.json_text.proofs.CallerLemmas.{ascii-utf8}
use Rattle.elem.specs.Facts.{names}
use Rattle.elem.specs.declared.kind.Kind.{Kind}
use Rattle.elem.specs.declared.kind.Kind.TheVariants as kinds
use Rattle.elem.specs.Texts.{kind_name}

-- one more item
pub each-nth : {X : Type 0} (P : X → Type 0) (xs : List X) (i : ℕ) (d : X) → i < length xs
    → AllByRecursion P (take i xs) → P (get_or xs i d) → AllByRecursion P (take (i + 1) xs)
each-nth P xs i d within all own =
    subst (AllByRecursion P) (sym (take_more xs i d within))
    (AllByRecursion-append P (take i xs) (get_or xs i d ∷ []) all (own, tt))

pub each-more : {X : Type 0} (P : X → Type 0) (xs : List X) (i : ℕ) (x : X) → x ≡ get_or xs i x → i < length xs
    → AllByRecursion P (take i xs) → P x → AllByRecursion P (take (i + 1) xs)
each-more P xs i x here within all own = each-nth P xs i x within all (subst P here own)

-- members and their names
pub names-each : (P : List ℕ → Type 0) (members : List Member)
    → AllByRecursion (λ (member : Member). P member.name) members → AllByRecursion P (names members)
names-each P [] all = tt
names-each P (member ∷ members) all = (all.0, names-each P members all.1)

-- a kind that isn't another one has a name of the program
pub known-name : (kind : Kind) → ((name : List ℕ) → kind ≡ kinds.Other name → IsUtf8 name) → IsUtf8 (kind_name kind)
known-name kinds.Rectangle h = ascii-utf8 (codes "rectangle") refl
known-name kinds.Diamond h = ascii-utf8 (codes "diamond") refl
known-name kinds.Ellipse h = ascii-utf8 (codes "ellipse") refl
known-name kinds.Arrow h = ascii-utf8 (codes "arrow") refl
known-name kinds.Line h = ascii-utf8 (codes "line") refl
known-name kinds.Freedraw h = ascii-utf8 (codes "freedraw") refl
known-name kinds.Text h = ascii-utf8 (codes "text") refl
known-name kinds.Image h = ascii-utf8 (codes "image") refl
known-name kinds.Frame h = ascii-utf8 (codes "frame") refl
known-name kinds.Magicframe h = ascii-utf8 (codes "magicframe") refl
known-name kinds.Iframe h = ascii-utf8 (codes "iframe") refl
known-name kinds.Embeddable h = ascii-utf8 (codes "embeddable") refl
known-name (kinds.Other name) h = h name refl
