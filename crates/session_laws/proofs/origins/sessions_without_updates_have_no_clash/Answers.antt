use Rattle.session_laws.proofs.Owning.{no-clash, no-clash-told}
use Rattle.session_laws.proofs.origins.sessions_without_updates_have_no_clash.Goals as goal

pub returns-clause-none : goal.returns-clause-none
returns-clause-none c = no-clash

pub returns-clause-told : goal.returns-clause-told
returns-clause-told c = no-clash-told
