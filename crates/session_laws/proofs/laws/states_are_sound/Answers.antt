use Rattle.session_laws.proofs.SoundWorlds.{states-sound, taken-elements, messages-elements}
use Rattle.session_laws.proofs.laws.states_are_sound.Goals as goal

pub returns-clause-sound : goal.returns-clause-sound
returns-clause-sound c = λ session count s is among. states-sound session is count s among

pub returns-clause-taken : goal.returns-clause-taken
returns-clause-taken c = λ session count s is among. taken-elements session is count s among

pub returns-clause-messages : goal.returns-clause-messages
returns-clause-messages c = λ session count message is among. messages-elements session is count message among
