use Rattle.std.proofs.Common.{not, filter, nat_cmp, rules, ap, ◌∙◌}
use Rattle.std.specs.BTreeSet.{contains}
use Rattle.std.specs.Cmp.Lexicographic.{slice_cmp}
use Rattle.std.proofs.lemmas.Fn.{filter_same}
use Rattle.elem.specs.declared.parts.BoundRef.{BoundRef}
use Rattle.effects.proofs.deleting.kept_entries.Goals as goal

pub returns : goal.returns
returns c =
    c.from_vec.ensures
    ∙ filter_same _ (λ (entry : BoundRef). not (contains (slice_cmp nat_cmp) c.args.ids.now entry.id)) _
    (λ x b f' k. search rules) _ _ c.retain.ensures.filtered
    ∙ ap (filter (λ (entry : BoundRef). not (contains (slice_cmp nat_cmp) c.args.ids.now entry.id)))
    (c.into_vec-kept.ensures ∙ c.in_ok-try_clone_with.ensures)
