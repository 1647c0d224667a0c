use Rattle.elem.specs.Said.{AreElements}
use Rattle.replica.specs.Sound.{IsSoundState}
use Rattle.session.specs.Worlds.{Seat}
use Rattle.line_replica.proofs.Sound.{each-living}
use Rattle.line_replica.proofs.laws.states_are_sound.Goals as goal

pub returns-clause-sound : goal.returns-clause-sound
returns-clause-sound c =
    each-living (λ (s : Seat). IsSoundState s.state) c.states_are_sound.ensures.sound c.read_messages_are_whole.ensures

pub returns-clause-taken : goal.returns-clause-taken
returns-clause-taken c =
    each-living (λ (s : Seat). AreElements s.taken) c.states_are_sound.ensures.taken c.read_messages_are_whole.ensures
