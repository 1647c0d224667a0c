use Rattle.std.proofs.lemmas.Result.{IfOk-weaker}
use Rattle.shown_scenes.proofs.text.scene_text.Goals as goal

pub returns-clause-text : goal.returns-clause-text
returns-clause-text c = rw (← c.elements.ensures.exact) c.elements_text.ensures

pub returns-clause-rise : goal.returns-clause-rise
returns-clause-rise c = IfOk-weaker c.elements_text.result _ _
    (λ _ _. rw (← c.elements.ensures.exact) c.elements.ensures.keys) c.elements_text.ensures
