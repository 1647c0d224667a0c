use Rattle.std.proofs.Common.{◌≡◌, [], ◌∷◌, sym, subst, Some, ◌∙◌}
use Rattle.std.proofs.lemmas.Result.{err_from_is_err_and}
use Rattle.input_texts.specs.Texts.{AreRead, HasTexts}
use Rattle.commands.specs.Answers.{IsOneRefusal}
use Rattle.commands.specs.Input.{HasScenes}
use Rattle.commands.specs.inner.Readers.{one_seen}
use Rattle.commands.specs.Ends.{limit}
use Rattle.commands.proofs.Given.{unread}
use Rattle.commands.proofs.Readers.{one-read, one-refused}
use Rattle.commands.proofs.input.one_scene.Goals as goal

pub returns-in_err-found-clause-fault : goal.returns-in_err-found-clause-fault
returns-in_err-found-clause-fault g c =
    let p = err_from_is_err_and c.from_residual.result c.from_residual.ensures.1 in
    rw (p.1, p.2) (unread limit IsOneRefusal _ _ c.in_err-found.ensures.fault)

pub returns-in-Some-clause-fault : goal.returns-in-Some-clause-fault
returns-in-Some-clause-fault g c =
    let read = c.in_ok-found.ensures.read in
    let scene = c.read_input.new.reader in (
      read.0,
      read.1,
      subst (IsOneRefusal read.0) (sym c.refused.ensures)
          (one-refused read.0 scene c.in-Some.stopped (subst (AreRead read.0 (one_seen scene)) c.in-Some.is read.2)),
    )

pub returns-clause-scene : goal.returns-clause-scene
returns-clause-scene g c =
    let read = c.in_ok-found.ensures.read in
    let one : c.read_input.new.reader ≡ Some c.in-Some-read.scene = sym c.reader.view_is ∙ c.in-Some-read.is in (
      read.0,
      read.1,
      subst (λ scene. HasScenes read.0 (scene ∷ [])) (sym c.in-Some-read.scene-is)
          (one-read read.0 c.in-Some-read.scene (subst (λ seen. HasTexts read.0 (one_seen seen)) one
          (subst (AreRead read.0 (one_seen c.read_input.new.reader)) c.in_default.is read.2))),
    )
