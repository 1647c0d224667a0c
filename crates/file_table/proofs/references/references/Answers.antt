use Rattle.std.proofs.Common.{◌≡◌, ◌+◌, ◌<◌, [], ◌∷◌, ◌++◌, length, take, sym, ap, ◌∙◌, arith}
use Rattle.std.proofs.lemmas.List.{take_more}
use Rattle.file_table.specs.References.{references}
use Rattle.file_table.proofs.Referred.{references-some, references-none}
use Rattle.file_table.proofs.references.references.Goals as goal
use Rattle.file_table.proofs.references.references.Goals.{in-Some+in_ok-push, in_default}

pub loop-e-preserved : goal.loop-e-preserved
loop-e-preserved c =
    let i = c.loop-e.e-index in
    let all = c.args.list.now in
    let e = c.e-item.result in
    let within : i < length all = omega arith in
    let more : take (i + 1) all ≡ take i all ++ e ∷ [] =
    take_more all i e within ∙ ap (λ x. take i all ++ x ∷ []) (sym c.e-item.is) in
    elim c.match-branch-2.branch [
      | in-Some+in_ok-push w ↦
          ap (λ v. v.items) w.ids-is ∙ w.in_ok-push.ensures.items ∙ ap (λ x. x ++ w.in-Some.id ∷ []) c.loop-e.invariant
          ∙ sym (ap references more ∙ references-some (take i all) e w.in-Some.id (sym c.in_ok-id.ensures
          ∙ w.in-Some.is))
      | in_default w ↦
          ap (λ v. v.items) w.ids-is ∙ c.loop-e.invariant
          ∙ sym (ap references more ∙ references-none (take i all) e (sym c.in_ok-id.ensures ∙ w.in_default.is))
    ]
