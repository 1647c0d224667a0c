-- What items pick, one after the other.
use Rattle.std.proofs.Common.{◌≡◌, ℕ, zero, suc, ◌<◌, List, [], ◌∷◌, ◌++◌, length, take, get_or, refl, sym, ap, subst, arith}
use Rattle.json_text.proofs.CallerLemmas.{take-next}
use Rattle.elem_read.specs.Faults.{Lacks}
use Rattle.session_text.specs.Forms.{IsPick, ArePicks}
use Rattle.session_text.specs.declared.event.Pick.{Pick}

picks-push : (made : ℕ) (items : List (List ℕ)) (picks : List Pick) (item : List ℕ) (pick : Pick)
    → ArePicks made items picks → IsPick made item pick → ArePicks made (items ++ item ∷ []) (picks ++ pick ∷ [])
picks-push made [] picks item pick are is = (pick, [], ap (λ ps. ps ++ pick ∷ []) are, is, refl)
picks-push made (first ∷ items) picks item pick (p, ps, same, one, more) is =
    (p, ps ++ pick ∷ [], ap (λ qs. qs ++ pick ∷ []) same, one, picks-push made items ps item pick more is)

pub picks-more : (made : ℕ) (items : List (List ℕ)) (i : ℕ) (item : List ℕ) (picks : List Pick) (pick : Pick)
    → i < length items → item ≡ get_or items i item → ArePicks made (take i items) picks → IsPick made item pick
    → ArePicks made (take (suc i) items) (picks ++ pick ∷ [])
picks-more made items i item picks pick within here are is =
    rw (take-next items i item within here) (picks-push made (take i items) picks item pick are is)

-- An item that picks nothing leaves the whole without a meaning.
pub picks-none : (made : ℕ) (items : List (List ℕ)) (i : ℕ) (item : List ℕ) → i < length items
    → item ≡ get_or items i item → Lacks (IsPick made item) → Lacks (ArePicks made items)
picks-none made [] i item within here none picks are = absurd (omega arith)
picks-none made (x ∷ xs) zero item within here none picks (p, ps, same, is, more) =
    none p (subst (λ v. IsPick made v p) (sym here) is)
picks-none made (x ∷ xs) (suc i) item within here none picks (p, ps, same, is, more) =
    picks-none made xs i item (omega arith) here none ps more
