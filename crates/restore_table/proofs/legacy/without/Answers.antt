-- What is kept are the members that the test keeps.
use Rattle.std.proofs.Common.{◌≡◌, ℕ, List, [], ◌∷◌, not, filter, bytes_eq, refl, ap, ◌∙◌, rules, cond, true, false}
use Rattle.std.proofs.lemmas.Fn.{filter_same}
use Rattle.json_text.specs.Compact.{has_other_name}
use Rattle.json_text.specs.Members.{pairs, pair_of}
use Rattle.json_text.specs.declared.text.Member.{Member}
use Rattle.restore_table.proofs.legacy.without.Goals as goal

filter-pairs : (name : List ℕ) (ms : List Member) → pairs (filter (λ (m : Member). not (bytes_eq name m.name)) ms)
    ≡ filter (has_other_name name) (pairs ms)
filter-pairs name [] = refl
filter-pairs name (m ∷ ms) =
    elim (not (bytes_eq name m.name)) as
    (λ b. pairs (cond b (m ∷ filter (λ (m : Member). not (bytes_eq name m.name)) ms)
    (filter (λ (m : Member). not (bytes_eq name m.name)) ms))
    ≡ cond b (pair_of m ∷ filter (has_other_name name) (pairs ms)) (filter (has_other_name name) (pairs ms))) [
      | true ↦ ap (λ rest. pair_of m ∷ rest) (filter-pairs name ms)
      | false ↦ filter-pairs name ms
    ]

pub returns : goal.returns
returns c =
    ap pairs (filter_same _ (λ (m : Member). not (bytes_eq c.args.name.now m.name)) _ (λ x b f' k. search rules) _ _
    c.retain.ensures.filtered)
    ∙ filter-pairs c.args.name.now c.args.members.items
