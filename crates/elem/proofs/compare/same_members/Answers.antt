use Rattle.std.proofs.Common.{◌≡◌, ◌<◌, ◌++◌, [], ◌∷◌, length, take, sym, ap, ◌∙◌, arith}
use Rattle.std.proofs.lemmas.List.{take_more}
use Rattle.json_text.specs.declared.text.Member.{Member}
use Rattle.members.specs.Standing.{nth}
use Rattle.elem.proofs.compare.same_members.Goals as goal

pub loop-at-preserved : goal.loop-at-preserved
loop-at-preserved c =
    let ms = c.args.members.now in
    let os = c.args.others.now in
    let i = c.loop-at.at in
    let none : Member = record { name = []; value = [] } in
    let inside : i < length ms = omega arith in
    let inside_too : i < length os = omega arith in
    let same : nth ms i ≡ nth os i = c.same_at.ensures.0 c.if-not-same_at.false in
    take_more ms i none inside ∙ ap (λ t. t ++ nth ms i ∷ []) c.loop-at.invariant
    ∙ ap (λ m. take i os ++ m ∷ []) same ∙ sym (take_more os i none inside_too)
