use Rattle.room_disk.proofs.KeyBeats.{key-beats}
use Rattle.room_disk.proofs.laws.new_keys_beat_none.Goals as goal

pub returns : goal.returns
returns c = key-beats
