use Rattle.std.proofs.Common.{◌||◌, ap, ◌∙◌}
use Rattle.std.proofs.lemmas.Result.{on_ok_weaker}
use Rattle.elem_store.specs.Updates.{is_among}
use Rattle.kept_view.proofs.reach.add_linked.Goals as goal

pub returns : goal.returns
returns c =
    on_ok_weaker c.add_all.result
    (λ are id.
    are id
    ∙ ap (λ b. b || is_among c.args.ids.now.list.items id)
    (ap (λ ids. is_among ids id) c.as_slice.ensures.value ∙ c.in_ok-linked.ensures.linked id))
    c.add_all.ensures
