-- Lists that are gone through one by one.
use Rattle.std.proofs.Common.{◌≡◌, ℕ, ◌+◌, ◌<◌, List, [], ◌∷◌, ◌++◌, length, take, get_or, refl, sym, ap, ◌∙◌, append_assoc, append-nil}
use Rattle.std.specs.List.{flat_map}
use Rattle.std.proofs.lemmas.Grind.{flat_map-append}
use Rattle.json_text.specs.Compact.{Member as Pair}
use Rattle.json_text.specs.Members.{pair_of, pairs}
use Rattle.json_text.specs.declared.text.Member.{Member}
use Rattle.json_text.proofs.CallerLemmas.{taken-next}

-- what is made of the elements so far and of one more
pub flat-more : {X A : Type 0} (f : X → List A) (xs : List X) (i : ℕ) (x : X) → i < length xs → x ≡ get_or xs i x
    → flat_map f (take (i + 1) xs) ≡ flat_map f (take i xs) ++ f x
flat-more f xs i x within at =
    ap (flat_map f) (taken-next xs i x within at)
    ∙ (flat_map-append f (take i xs) (x ∷ []) ∙ ap (λ r. flat_map f (take i xs) ++ r) (append-nil (f x)))

-- the same stands behind what was there
pub flat-step : {X A : Type 0} (f : X → List A) (xs : List X) (i : ℕ) (x : X) (first out new : List A) → i < length xs
    → x ≡ get_or xs i x → out ≡ first ++ flat_map f (take i xs) → new ≡ out ++ f x
    → new ≡ first ++ flat_map f (take (i + 1) xs)
flat-step f xs i x first out new within at made pushed =
    pushed
    ∙ (ap (λ o. o ++ f x) made
    ∙ (append_assoc first (flat_map f (take i xs)) (f x)
    ∙ ap (λ r. first ++ r) (sym (flat-more f xs i x within at))))

flat-pairs : {A : Type 0} (f : Pair → List A) (ms : List Member) → flat_map f (pairs ms)
    ≡ flat_map (λ m. f (pair_of m)) ms
flat-pairs f [] = refl
flat-pairs f (m ∷ ms) = ap (λ r. f (pair_of m) ++ r) (flat-pairs f ms)

-- the same of members
pub pairs-step : {A : Type 0} (f : Pair → List A) (ms : List Member) (i : ℕ) (m : Member) (first out new : List A)
    → i < length ms → m ≡ get_or ms i m
    → out ≡ first ++ flat_map f (pairs (take i ms)) → new ≡ out ++ f (pair_of m)
    → new ≡ first ++ flat_map f (pairs (take (i + 1) ms))
pairs-step f ms i m first out new within at made pushed =
    flat-step (λ m. f (pair_of m)) ms i m first out new within at
    (made ∙ ap (λ r. first ++ r) (flat-pairs f (take i ms))) pushed
    ∙ ap (λ r. first ++ r) (sym (flat-pairs f (take (i + 1) ms)))
