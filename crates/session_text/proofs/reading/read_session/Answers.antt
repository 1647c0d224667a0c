use Rattle.std.proofs.Common.{◌≡◌, Option, IfSome, inr, sym, subst, ◌∙◌, arith}
use Rattle.session_text.specs.Sessions.{IsSessionOf, IsSessionFault}
use Rattle.session_text.specs.declared.fault.SessionFault.{SessionFault}
use Rattle.session_text.specs.declared.fault.SessionFault.TheVariants.{TooMany}
use Rattle.session_text.specs.declared.session.Session.{Session}
use Rattle.session_text.proofs.Behind.{blank-at, more-at, session-read, too-many}
use Rattle.session_text.proofs.reading.read_session.Goals as goal

pub returns-then-is_full-clause-fault : goal.returns-then-is_full-clause-fault
returns-then-is_full-clause-fault c fault e =
    let many : SessionFault = TooMany in
    let same : many ≡ fault = cc in
    subst (IsSessionFault c.args.bytes.now) same
    (too-many c.args.bytes.now c.texts.feed c.texts.at c.texts.invariant.leads (sym c.is_full.ensures
    ∙ c.if-is_full.true)
    (more-at c.args.bytes.now c.texts.at c.texts.invariant.within
    (omega (arith, c.skip_space.ensures, c.texts-test.true))))

pub next_text-requires-in-texts-clause-more : goal.next_text-requires-in-texts-clause-more
next_text-requires-in-texts-clause-more c =
    inr (more-at c.args.bytes.now c.texts.at c.texts.invariant.within
    (omega (arith, c.skip_space.ensures, c.texts-test.true)))

pub returns-clause-session : goal.returns-clause-session
returns-clause-session c =
    subst (λ (s : Option Session). IfSome s (IsSessionOf c.args.bytes.now)) (sym c.finish.ensures.session
    ∙ c.in-Some.is)
    (session-read c.args.bytes.now c.texts.feed c.texts.at c.texts.invariant.leads
    (blank-at c.args.bytes.now c.texts.at c.texts.invariant.within
    (omega (arith, c.skip_space.ensures, c.texts-test.false))))
