use Rattle.std.proofs.Common.{◌≡◌, ◌<◌, List, [], ◌∷◌, ◌++◌, get_or, length, ap, ◌∙◌, arith}
use Rattle.kept_view.specs.declared.places.Put.{Put}
use Rattle.kept_view.specs.inner.Unsettled.{put_id}
use Rattle.kept_view.proofs.UnsettledLaws.{push-part}
use Rattle.kept_view.proofs.unsettled.ids_put.Goals as goal

pub loop-put-preserved : goal.loop-put-preserved
loop-put-preserved c =
    let i = c.loop-put.put-index in
    let puts = c.args.puts.now.items in
    let put = c.put-item.result in
    let within : i < length puts = omega (arith, c.loop-put-test.true, ap length c.deref-put-items.ensures.value) in
    let there : put ≡ get_or puts i put =
    c.put-item.is ∙ ap (λ (xs : List Put). get_or xs i put) c.deref-put-items.ensures.value in
    c.in_ok-push.ensures.items ∙ ap (λ x. c.loop-put.ids.items ++ x ∷ []) (c.in_ok-try_clone.ensures ∙ c.id.ensures)
    ∙ push-part put_id [] c.loop-put.ids.items puts i put within there c.loop-put.invariant
