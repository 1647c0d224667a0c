use Rattle.std.proofs.Common.{◌≡◌, false, sym, subst}
use Rattle.std.proofs.lemmas.Result.{on_ok_weaker, IfErr-at_err}
use Rattle.session_text.specs.Taken.{IsNextFault, is_full}
use Rattle.commands.specs.inner.SessionTexts.{SaySession}
use Rattle.commands.proofs.SessionTexts.{say-taken, taken-some}
use Rattle.commands.proofs.taking.OneSessionReader.read.Goals as goal

pub returns-clause-read : goal.returns-clause-read
returns-clause-read c =
    on_ok_weaker c.take.result (λ takes texts say. say-taken texts c.args.self.now.feed c.args.text.now c.take.new.self
    say c.requires takes) c.take.ensures.taken

pub returns-clause-enough : goal.returns-clause-enough
returns-clause-enough c =
    on_ok_weaker c.take.result (taken-some c.args.self.now.feed c.args.text.now c.take.new.self) c.take.ensures.taken

pub returns-clause-refused : goal.returns-clause-refused
returns-clause-refused c fault is texts say =
    let same : c.take.new.self ≡ c.args.self.now.feed =
    IfErr-at_err (λ _. c.take.new.self ≡ c.args.self.now.feed) is c.take.ensures.err in
    subst (λ state. SaySession texts state × (is_full state ≡ false) × IsNextFault state c.args.text.now fault)
    (sym same)
    (say, c.requires, c.take.ensures.fault fault is)
