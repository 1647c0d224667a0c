-- The first item that passes: among the items so far there is none, and then there is one.
use Rattle.std.proofs.Common.{◌≡◌, ℕ, suc, ◌+◌, ◌<◌, Bool, not, List, [], ◌∷◌, ◌++◌, length, get_or, take, drop, Option, Some, None, find, inl, inr, refl, sym, ap, ◌∙◌}
use Rattle.std.specs.Option.{option_or, option_map}
use Rattle.std.proofs.lemmas.Bool.{cases_Bool}
use Rattle.std.proofs.lemmas.List.{take_more, take-append-drop}
use Rattle.std.proofs.Math.Seq.{drop-cons}
use Rattle.board_base.specs.declared.stop.Stop.{Stop}
use Rattle.board_base.specs.declared.stop.Stop.TheVariants.{Fault, Memory}
use Rattle.effects.specs.declared.refusal.Refusal.{Refusal}
use Rattle.effects.specs.Changed.{OnFault}
use Rattle.effects.specs.declared.refusal.Refusal.TheVariants.{WrongKind}
use Rattle.effects.specs.Refusals.{unless_right}

-- what holds of a fault makes another fact hold of it
pub OnFault-weaker : (P Q : Refusal → Type 0) (stop : Stop Refusal) → ((refusal : Refusal) → P refusal → Q refusal)
    → OnFault stop P → OnFault stop Q
OnFault-weaker P Q (Fault refusal) h p = h refusal p
OnFault-weaker P Q Memory h p = tt

module _ {X Y : Type 0} (p : X → Bool) (f : X → Y) where
  abbrev pub first : List X → Option Y
  first xs = option_map f (find p xs)

  -- the first of two lists is that of the one, or else of the other
  pub first-append : (xs ys : List X) → first (xs ++ ys) ≡ option_or (first xs) (first ys)
  first-append [] ys = refl
  first-append (x ∷ xs) ys = elim (cases_Bool (p x)) [
    | inl e ↦ rw e refl
    | inr e ↦ rw e (first-append xs ys)
  ]

  -- none so far, and none in the next item
  pub first-more : (xs : List X) (i : ℕ) (x : X) → i < length xs → x ≡ get_or xs i x → first (take i xs) ≡ None
      → first (x ∷ []) ≡ None → first (take (i + 1) xs) ≡ None
  first-more xs i x within is none more =
      ap first (take_more xs i x within ∙ ap (λ y. take i xs ++ y ∷ []) (sym is)) ∙ first-append (take i xs) (x ∷ [])
      ∙ rw none more

  -- none so far, and the next item passes
  pub first-found : (xs : List X) (i : ℕ) (x : X) (y : Y) → i < length xs → x ≡ get_or xs i x → first (take i xs) ≡ None
      → first (x ∷ []) ≡ Some y → first xs ≡ Some y
  first-found xs i x y within is none found =
      let split : xs ≡ take i xs ++ ((x ∷ []) ++ drop (suc i) xs) =
      sym (take-append-drop i xs) ∙ ap (λ ys. take i xs ++ ys) (drop-cons xs i x within
      ∙ ap (λ z. z ∷ drop (suc i) xs) (sym is)) in
      ap first split ∙ first-append (take i xs) ((x ∷ []) ++ drop (suc i) xs)
      ∙ ap (λ o. option_or o (first ((x ∷ []) ++ drop (suc i) xs))) none
      ∙ first-append (x ∷ []) (drop (suc i) xs) ∙ ap (λ o. option_or o (first (drop (suc i) xs))) found

-- an id of a wrong kind is the first of itself alone
pub first-one : (test : List ℕ → Bool) (id : List ℕ) → first test WrongKind (id ∷ []) ≡ unless_right (not (test id)) id
first-one test id = elim (cases_Bool (test id)) [
  | inl e ↦ rw e refl
  | inr e ↦ rw e refl
]
