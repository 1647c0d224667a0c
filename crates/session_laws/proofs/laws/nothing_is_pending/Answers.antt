use Rattle.session_laws.proofs.NothingPending.{all-captured, nothing-pending}
use Rattle.session_laws.proofs.laws.nothing_is_pending.Goals as goal

pub returns-clause-captured : goal.returns-clause-captured
returns-clause-captured c = λ session count at is among soon. all-captured session is at among count soon

pub returns-clause-none : goal.returns-clause-none
returns-clause-none c = λ session count at is among soon. nothing-pending session is at among count soon
