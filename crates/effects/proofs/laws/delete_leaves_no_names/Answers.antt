use Rattle.effects.proofs.CommandLaws.{deleted-given, deleted-unnamed}
use Rattle.effects.proofs.BindLaws.{delete-given, delete-rest, delete-kept}
use Rattle.effects.proofs.laws.delete_leaves_no_names.Goals as goal

pub returns-clause-given : goal.returns-clause-given
returns-clause-given c =
    λ stored shown given ids time nonce ordered told. deleted-given stored shown time nonce given ordered ids told

pub returns-clause-unnamed : goal.returns-clause-unnamed
returns-clause-unnamed c =
    λ stored shown given ids time nonce ordered told. deleted-unnamed stored shown time nonce given ordered ids told

pub returns-clause-deleted : goal.returns-clause-deleted
returns-clause-deleted c =
    λ stored shown given ids time nonce ordered told. delete-given stored shown time nonce given ordered ids told

pub returns-clause-rest : goal.returns-clause-rest
returns-clause-rest c =
    λ stored shown given ids time nonce ordered told. delete-rest stored shown time nonce given ordered ids told

pub returns-clause-kept : goal.returns-clause-kept
returns-clause-kept c =
    λ stored shown given ids time nonce ordered told. delete-kept stored shown time nonce given ordered ids told
