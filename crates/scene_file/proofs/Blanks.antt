-- A value has a byte that isn't white space.
use Rattle.std.proofs.Common.{◌≡◌, ℕ, ◌<◌, ◌≤◌, List, ◌∷◌, ◌++◌, true, ◌&&◌, sym, ap, subst, ◌∙◌, length, drop, arith, length-append, length-drop}
use Rattle.std.proofs.lemmas.Bool.{and_parts, both_ways}
use Rattle.std.proofs.lemmas.List.Folds.{list_all-append}
use Rattle.json_text.specs.Characters.{is_blank, is_space}
use Rattle.json_text.specs.Value.{Stands}
use Rattle.json_text.proofs.CallerLemmas.{Head, begins_value, tree-Head, begins-no-space}

-- white space, then the first byte of a value
stands-parts : (bytes text rest : List ℕ) (s : Stands bytes text rest) → (h : Head begins_value s.value)
    × (bytes ≡ s.blank ++ (h.first ∷ (h.more ++ rest)))
stands-parts bytes text rest s =
    let h : Head begins_value s.value =
    subst (Head begins_value) s.reads.spells (tree-Head s.reads.tree s.reads.good) in
    (h, s.parts ∙ ap (λ v. s.blank ++ (v ++ rest)) h.parts)

pub Stands-no_blank : (bytes text rest : List ℕ) → Stands bytes text rest → is_blank bytes ≡ true → ⊥
Stands-no_blank bytes text rest s blank =
    let (h, parts) = stands-parts bytes text rest s in
    let rear = h.first ∷ (h.more ++ rest) in
    let all : (is_blank s.blank && is_blank rear) ≡ true =
    sym (list_all-append is_space s.blank rear) ∙ ap is_blank (sym parts) ∙ blank in
    both_ways (is_space h.first) (begins-no-space h.first h.begins)
    (and_parts (is_space h.first) (is_blank (h.more ++ rest)) (and_parts (is_blank s.blank) (is_blank rear) all).1).0

pub Stands-behind : (bytes text : List ℕ) (at next : ℕ) → next ≤ length bytes
    → Stands (drop at bytes) text (drop next bytes) → at < next
Stands-behind bytes text at next within s =
    let (h, parts) = stands-parts (drop at bytes) text (drop next bytes) s in
    omega (
      arith,
      ap length parts,
      length-append s.blank (h.first ∷ (h.more ++ drop next bytes)),
      length-append h.more (drop next bytes),
      length-drop at bytes,
      length-drop next bytes,
    )
