use Rattle.std.proofs.Common.{[], ◌∷◌, ◌++◌, Some, sym, ap, ◌∙◌}
use Rattle.std.proofs.lemmas.List.{map-append}
use Rattle.json_text.specs.Members.{pairs, pair_of}
use Rattle.file_table.proofs.Referred.{found-some, found-none}
use Rattle.file_table.proofs.references.found.Goals as goal

pub loop-id-preserved-in-Continue-branch-2 : goal.loop-id-preserved-in-Continue-branch-2
loop-id-preserved-in-Continue-branch-2 c =
    let files = c.args.entries.now.entries in
    let value = c.in_ok-value.value in
    ap pairs c.in_ok-push.ensures.items
    ∙ map-append pair_of c.loop-id.members.items (record { name = c.in-Some.id; value = value } ∷ [])
    ∙ ap (λ x. x ++ (c.in-Some.id, value) ∷ []) c.loop-id.invariant
    ∙ sym (found-some files c.loop-id.yielded c.in-Some.id value (sym c.in-Some-entry_of.ensures
    ∙ ap Some (sym c.in_ok-value.ensures)))

pub loop-id-preserved : goal.loop-id-preserved
loop-id-preserved c =
    c.loop-id.invariant
    ∙ sym (found-none c.args.entries.now.entries c.loop-id.yielded c.in-Some.id (sym c.in_default.ensures))
