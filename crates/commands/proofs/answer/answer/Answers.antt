use Rattle.std.proofs.Common.{sym, ap, Err, subst, Ok, ℕ, List as Items}
use Rattle.std.proofs.lemmas.Result.{err_from_is_err_and}
use Rattle.commands.specs.Answers.{IsAnswer, IsEmptyRefusal}
use Rattle.commands.specs.Ends.{span, limit, limit_of, WasRead}
use Rattle.commands.specs.Pastes.{IsPasteRefusal}
use Rattle.commands.specs.Shelves.{IsInsertRefusal}
use Rattle.commands.specs.declared.words.ProgramCommand.{ProgramCommand}
use Rattle.commands.proofs.Judging.{judged-fault}
use Rattle.commands.proofs.answer.answer.Goals as goal

pub returns-in_err-pasted-in-Paste-clause-fault : goal.returns-in_err-pasted-in-Paste-clause-fault
returns-in_err-pasted-in-Paste-clause-fault g c =
    let input = span (g.S.Source.seen c.args.input.now) (g.S.Source.seen c.whole.new.input) in
    let p = err_from_is_err_and c.from_residual-in_err-pasted-in-Paste.result
    c.from_residual-in_err-pasted-in-Paste.ensures.1 in
    rw (p.1, p.2, c.in-Paste.is) (judged-fault limit (IsPasteRefusal c.in-Paste.prefix) input _
    c.in_ok-bytes-in-Paste.ensures.read c.in_err-pasted-in-Paste.field-0.0
    (λ why e. rw (← c.as_slice.ensures) (c.in_err-pasted-in-Paste.ensures.refused why (ap Err e))))

pub returns-in_err-inserted-in-Insert-clause-fault : goal.returns-in_err-inserted-in-Insert-clause-fault
returns-in_err-inserted-in-Insert-clause-fault g c =
    let input = span (g.S.Source.seen c.args.input.now) (g.S.Source.seen c.whole-in-Insert.new.input) in
    let p = err_from_is_err_and c.from_residual-in_err-inserted-in-Insert.result
    c.from_residual-in_err-inserted-in-Insert.ensures.1 in
    rw (p.1, p.2, c.in-Insert.is) (judged-fault limit (IsInsertRefusal c.in-Insert.insertion) input _
    c.in_ok-bytes-in-Insert.ensures.read c.in_err-inserted-in-Insert.field-0.0
    (λ why e. rw (← c.as_slice-in-Insert.ensures) (c.in_err-inserted-in-Insert.ensures.refused why (ap Err e))))

pub returns-in_err-checked_text-in-Check-clause-fault : goal.returns-in_err-checked_text-in-Check-clause-fault
returns-in_err-checked_text-in-Check-clause-fault g c =
    let input = span (g.S.Source.seen c.args.input.now) (g.S.Source.seen c.whole-in-Check.new.input) in
    let p = err_from_is_err_and c.from_residual-in_err-checked_text-in-Check.result
    c.from_residual-in_err-checked_text-in-Check.ensures.1 in
    rw (p.1, p.2, c.in-Check.is) (judged-fault limit IsEmptyRefusal input _
    c.in_ok-bytes-in-Check.ensures.read c.in_err-checked_text-in-Check.field-0.0
    (λ why e. rw (← c.as_slice-in-Check.ensures) (c.in_err-checked_text-in-Check.ensures.refused why (ap Err e))))

pub returns-in_ok-recovered_text-in-Recover-clause-text : goal.returns-in_ok-recovered_text-in-Recover-clause-text
returns-in_ok-recovered_text-in-Recover-clause-text g c =
    let read = c.in_ok-head-in-Recover.ensures.recovered in
    subst (λ (command : ProgramCommand). (bytes : Items ℕ)
    × WasRead (limit_of command) (span (g.S.Source.seen c.args.input.now) (g.S.Source.seen c.recovered.new.input))
    bytes
    × IsAnswer command bytes (Ok c.in_ok-recovered_text-in-Recover.field-0)) (sym c.in-Recover.is) (
      read.0,
      read.1,
      record {
        found = record {
          head = c.in_ok-head-in-Recover.head;
          elements =
              c.in_ok-head-in-Recover.store.elements;
        };
        read = read.2;
        told = c.in_ok-recovered_text-in-Recover.ensures;
      },
    )

pub returns-in_ok-shelved_text-in-Library-clause-text : goal.returns-in_ok-shelved_text-in-Library-clause-text
returns-in_ok-shelved_text-in-Library-clause-text g c =
    let read = c.in_ok-shelf-in-Library.ensures.shelf in
    let made = c.in_ok-shelved_text-in-Library.ensures read.2.0 read.2.1 read.2.3 read.2.4 in
    subst (λ (command : ProgramCommand). (bytes : Items ℕ)
    × WasRead (limit_of command) (span (g.S.Source.seen c.args.input.now) (g.S.Source.seen c.some_shelf.new.input))
    bytes
    × IsAnswer command bytes (Ok c.in_ok-shelved_text-in-Library.field-0)) (sym c.in-Library.is)
    (read.0, read.1, record { texts = read.2.0; holds = read.2.2; written = made.0; library = made.1; ended = made.2 })
