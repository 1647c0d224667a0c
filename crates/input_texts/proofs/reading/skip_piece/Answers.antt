use Rattle.std.proofs.Common.{◌≡◌, ℕ, ◌+◌, List, ◌++◌, drop, Err, sym, ap, subst, ◌∙◌, arith}
use Rattle.std.proofs.lemmas.List.{drop_all}
use Rattle.std.specs.List.{prefix_len}
use Rattle.json_text.specs.Characters.{is_space}
use Rattle.json_text.proofs.CallerLemmas.{run-blank}
use Rattle.json_reader.specs.Feeding.{IsAt}
use Rattle.input_texts.specs.declared.reading.Stopped.TheVariants as stopped
use Rattle.input_texts.specs.Texts.{IsStopped}
use Rattle.input_texts.specs.inner.Texts.{IsLed}
use Rattle.input_texts.proofs.Leads.{extra_there, skipped_on, skipped_fault}
use Rattle.input_texts.proofs.reading.skip_piece.Goals as goal

pub returns-then-at-piece-clause-stopped : goal.returns-then-at-piece-clause-stopped
returns-then-at-piece-clause-stopped g c why is stream reader full l more =
    let first = prefix_len is_space c.args.piece.now in
    let place : c.args.feed.now.used + first ≡ c.used.result + c.skip_space-at.result =
    omega (arith, c.used.ensures, c.skip_space-at.ensures) in
    let same : stopped.Extra (c.used.result + c.skip_space-at.result) ≡ why = cc in
    subst (IsStopped (stream ++ more) (g.R.Reader.seen reader)) (ap stopped.Extra place ∙ same)
    (extra_there stream c.args.piece.now c.args.feed.now (g.R.Reader.seen reader) l full
    (omega (arith, c.skip_space-at.ensures, c.if-at-piece.true)) more)

pub returns-in-Err-Fault-clause-stopped : goal.returns-in-Err-Fault-clause-stopped
returns-in-Err-Fault-clause-stopped g c why is stream reader full l more =
    let space = run-blank c.args.piece.now (omega (arith, c.skip_space-at.ensures, c.if-at-piece.false)) in
    skipped_fault stream c.args.piece.now c.args.feed.now (g.R.Reader.seen reader) full space l
    (c.in-Err-Fault.ensures.first c.in-Err-Fault.fault (ap Err c.in-Err-Fault.field-0-is) stream l.start l.at).0

pub returns-clause-led : goal.returns-clause-led
returns-clause-led g c used is stream reader full l =
    let space = run-blank c.args.piece.now (omega (arith, c.skip_space-at.ensures, c.if-at-piece.false)) in
    let same : c.in-Ok.fed.used ≡ used = cc in
    subst (λ (n : ℕ). IsLed stream (drop n c.args.piece.now) c.feed.new.self (g.R.Reader.seen reader)) same
    (skipped_on stream c.args.piece.now c.args.feed.now (g.R.Reader.seen reader) full space l
    (drop c.in-Ok.fed.used c.args.piece.now) c.feed.new.self c.in-Ok.fed.value
    (λ none. subst (λ (left : List ℕ). IsAt stream l.start left c.feed.new.self)
    (sym (drop_all c.in-Ok.fed.used c.args.piece.now (omega (arith, c.in-Ok.ensures.all_used none))))
    (c.in-Ok.ensures.going none stream l.start l.at))
    c.in-Ok.ensures.kept
    (λ text some. c.in-Ok.ensures.value text some stream l.start l.at))
