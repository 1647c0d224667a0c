-- The places of some of the elements, and the elements at these places.
use Rattle.std.proofs.Common.{◌≡◌, ℕ, suc, ◌<◌, ◌≢◌, List, [], ◌∷◌, length, Option, Some, None, All, slice_get, option_and_then, refl, sym, ap₂, ◌∙◌, arith}
use Rattle.std.specs.List.{cons_option, AllPairs}
use Rattle.std.specs.Prelude.{filter_map}
use Rattle.std.proofs.lemmas.List.Elements.{All-nil, All-cons, All-head, All-tail}
use Rattle.std.proofs.lemmas.List.Kept.{AllPairs-cons}
use Rattle.std.proofs.lemmas.Option.{slice_get_within, get_or_from_slice_get}
use Rattle.elem.specs.ElementValue.{ElementValue}
use Rattle.elem_store.specs.Places.{elements_at, AreInOrder}
use Rattle.elem_store.proofs.Placed.{get-at, place-found, places_differ}

All-cons_option : {Y : Type 0} (Q : Y → Type 0) (o : Option Y) (ys : List Y) → ((y : Y) → o ≡ Some y → Q y) → All Q ys
    → All Q (cons_option o ys)
All-cons_option Q None ys first rest = rest
All-cons_option Q (Some y) ys first rest = All-cons Q y ys (first y refl) rest

AllPairs-cons_option : {Y : Type 0} (S : Y → Y → Type 0) (o : Option Y) (ys : List Y)
    → ((y : Y) → o ≡ Some y → All (S y) ys) → AllPairs S ys → AllPairs S (cons_option o ys)
AllPairs-cons_option S None ys first rest = rest
AllPairs-cons_option S (Some y) ys first rest = AllPairs-cons S y ys (first y refl) rest

filter_map-cons_option : {X Y : Type 0} (h : X → Option Y) (o : Option X) (xs : List X)
    → filter_map h (cons_option o xs) ≡ cons_option (option_and_then h o) (filter_map h xs)
filter_map-cons_option h None xs = refl
filter_map-cons_option h (Some x) xs = refl

-- what holds of what a function gives of each element, and of each two of them
module _ {X Y : Type 0} (h : X → Option Y) where
  All-filter_map : (P : X → Type 0) (Q : Y → Type 0) → ((x : X) (y : Y) → P x → h x ≡ Some y → Q y)
      → (xs : List X) → All P xs → All Q (filter_map h xs)
  All-filter_map P Q step [] each = All-nil Q
  All-filter_map P Q step (x ∷ xs) each =
      All-cons_option Q (h x) (filter_map h xs) (λ y. step x y (All-head P x xs each))
      (All-filter_map P Q step xs (All-tail P x xs each))

  AllPairs-filter_map : (R : X → X → Type 0) (S : Y → Y → Type 0)
      → ((x other : X) (y z : Y) → R x other → h x ≡ Some y → h other ≡ Some z → S y z)
      → (xs : List X) → AllPairs R xs → AllPairs S (filter_map h xs)
  AllPairs-filter_map R S step [] each = λ i j d l m. absurd (omega (arith, m))
  AllPairs-filter_map R S step (x ∷ xs) each =
      AllPairs-cons_option S (h x) (filter_map h xs)
      (λ y is. All-filter_map (R x) (S y) (λ other z r there. step x other y z r is there) xs
      (λ k d l. each 0 (suc k) d (omega arith) (omega (arith, l))))
      (AllPairs-filter_map R S step xs (λ i j d l m. each (suc i) (suc j) d (omega (arith, l)) (omega (arith, m))))

module _ (elements : List ElementValue) (places : List ℕ) (o : AreInOrder elements places) where
  pub places-within : (indices : List ℕ)
      → All (λ place. place < length elements) (filter_map (slice_get places) indices)
  places-within indices =
      All-filter_map (slice_get places) (λ _. Unit {0}) (λ place. place < length elements)
      (λ i place _ here. place-found elements places i place o.within here) indices (λ _ _ _. tt)

  pub places-distinct : (indices : List ℕ) → AllPairs (λ i j. i ≢ j) indices
      → AllPairs (λ a b. a ≢ b) (filter_map (slice_get places) indices)
  places-distinct =
      AllPairs-filter_map (slice_get places) (λ i j. i ≢ j) (λ a b. a ≢ b)
      (λ i j a b ne first second same. places_differ elements places o i j 0 (slice_get_within places i a first)
      (slice_get_within places j b second) (λ is. ne (sym is))
      (get_or_from_slice_get places j b 0 second ∙ sym same ∙ sym (get_or_from_slice_get places i a 0 first)))

  pub moved-at : (indices : List ℕ) → filter_map (slice_get elements) (filter_map (slice_get places) indices)
      ≡ filter_map (slice_get (elements_at elements places)) indices
  moved-at [] = refl
  moved-at (i ∷ indices) =
      filter_map-cons_option (slice_get elements) (slice_get places i) (filter_map (slice_get places) indices)
      ∙ ap₂ cons_option (sym (get-at elements places i o.within)) (moved-at indices)
