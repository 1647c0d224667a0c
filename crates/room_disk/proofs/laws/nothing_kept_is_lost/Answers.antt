use Rattle.room_disk.proofs.ChainLaws.{chain-keeps}
use Rattle.room_disk.proofs.laws.nothing_kept_is_lost.Goals as goal

pub returns : goal.returns
returns c = chain-keeps c.beats_is_an_order.ensures.transitive c.text_tells_the_element.ensures.same
    c.what_is_read_is_an_element.ensures.whole
