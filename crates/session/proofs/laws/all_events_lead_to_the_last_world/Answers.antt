use Rattle.std.proofs.Common.{ap}
use Rattle.std.proofs.Math.Seq.{take-length}
use Rattle.session.specs.Worlds.{after_events, opened}
use Rattle.session.proofs.laws.all_events_lead_to_the_last_world.Goals as goal

pub returns : goal.returns
returns c = λ session. ap (λ events. after_events events (opened session)) (take-length session.events)
