use Rattle.effects.proofs.MemberLaws.{unframe-given, unframe-kept}
use Rattle.effects.proofs.laws.unframe_takes_out_of_frames.Goals as goal

pub returns-clause-freed : goal.returns-clause-freed
returns-clause-freed c =
    λ stored shown given ids time nonce ordered told. unframe-given stored shown time nonce given ordered ids told

pub returns-clause-kept : goal.returns-clause-kept
returns-clause-kept c =
    λ stored shown given ids time nonce ordered told. unframe-kept stored shown time nonce given ordered ids told
