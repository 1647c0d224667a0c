use Rattle.std.proofs.Common.{◌≡◌, ◌+◌, sym, ap, subst, Some, ◌∙◌}
use Rattle.std.proofs.lemmas.Result.{err_from_is_err_and}
use Rattle.input_texts.specs.Texts.{AreRead, HasTexts}
use Rattle.session_text.specs.Taken.{texts_in}
use Rattle.commands.specs.Answers.{IsSessionRefusal}
use Rattle.commands.specs.inner.SessionTexts.{session_refusal_of, session_seen}
use Rattle.commands.specs.Ends.{limit}
use Rattle.commands.proofs.Given.{unread}
use Rattle.commands.proofs.SessionTexts.{session-read, session-refused}
use Rattle.commands.proofs.input.session.Goals as goal

pub returns-in_err-found-clause-fault : goal.returns-in_err-found-clause-fault
returns-in_err-found-clause-fault g c =
    let p = err_from_is_err_and c.from_residual.result c.from_residual.ensures.1 in
    rw (p.1, p.2) (unread limit IsSessionRefusal _ _ c.in_err-found.ensures.fault)

pub returns-in-Some-clause-fault : goal.returns-in-Some-clause-fault
returns-in-Some-clause-fault g c =
    let read = c.in_ok-found.ensures.read in
    let state = c.read_input.new.reader.feed in
    let same : session_refusal_of (texts_in state + 1) c.in-Some.stopped ≡ c.session_refused.result =
    ap (λ n. session_refusal_of (n + 1) c.in-Some.stopped) (sym c.texts-number.ensures)
    ∙ sym c.session_refused.ensures in (
      read.0,
      read.1,
      subst (IsSessionRefusal read.0) same
          (session-refused read.0 state c.in-Some.stopped (subst (AreRead read.0 (session_seen state)) c.in-Some.is
          read.2)),
    )

pub returns-clause-session : goal.returns-clause-session
returns-clause-session g c =
    let read = c.in_ok-found.ensures.read in
    let one : c.read_input.new.reader.feed ≡ Some c.in-Some-finish.session =
    sym c.finish.ensures.session ∙ c.in-Some-finish.is in (
      read.0,
      read.1,
      session-read read.0 c.in-Some-finish.session (subst (λ seen. HasTexts read.0 (session_seen seen)) one
          (subst (AreRead read.0 (session_seen c.read_input.new.reader.feed)) c.in_default.is read.2)),
    )
