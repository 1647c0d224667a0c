use Rattle.std.proofs.Common.{ap, ◌∙◌}
use Rattle.std.proofs.lemmas.Result.{IfOk-weaker}
use Rattle.view.specs.Shown.{live_elements, shown}
use Rattle.commands.proofs.serving.room_text.Goals as goal

pub returns : goal.returns
returns c =
    let shows =
    c.in_ok-shown.ensures.exact ∙ ap (λ elements. shown (live_elements elements)) c.store.ensures.elements in
    IfOk-weaker c.ended.result _ _ (λ text made. record {
      written = c.in_ok-elements_text.field-0;
      scene = rw (← shows, ← c.as_slice.ensures) c.in_ok-elements_text.ensures;
      ended = made;
      rise = rw (← shows) c.in_ok-shown.ensures.keys;
      settled = rw (← shows) c.in_ok-shown.ensures.settled;
    }) c.ended.ensures
