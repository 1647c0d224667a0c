use Rattle.room_disk.proofs.LayerLaws.{layers-stay, live-stay}
use Rattle.room_disk.proofs.laws.layers_stay.Goals as goal

pub returns-clause-all : goal.returns-clause-all
returns-clause-all c = layers-stay

pub returns-clause-live : goal.returns-clause-live
returns-clause-live c = live-stay
