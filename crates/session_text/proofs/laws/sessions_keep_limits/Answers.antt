use Rattle.session_text.proofs.Kept.{session-kept}
use Rattle.session_text.proofs.laws.sessions_keep_limits.Goals as goal

pub returns : goal.returns
returns c = session-kept
