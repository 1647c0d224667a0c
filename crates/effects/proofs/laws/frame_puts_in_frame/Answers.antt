use Rattle.effects.proofs.MemberLaws.{frame-given, frame-kept}
use Rattle.effects.proofs.laws.frame_puts_in_frame.Goals as goal

pub returns-clause-framed : goal.returns-clause-framed
returns-clause-framed c = λ stored shown given ids frame time nonce ordered told. frame-given stored shown time nonce
    given ordered ids frame told

pub returns-clause-kept : goal.returns-clause-kept
returns-clause-kept c = λ stored shown given ids frame time nonce ordered told. frame-kept stored shown time nonce given
    ordered ids frame told
