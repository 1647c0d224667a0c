-- A fault of a value, and of the text in which it stands.
use Rattle.std.proofs.Common.{◌≡◌, ℕ, List, drop}
use Rattle.board_base.specs.declared.stop.Stop.TheVariants.{Fault}
use Rattle.json_text.specs.Value.{Stands}
use Rattle.elem_read.proofs.CallerLemmas.{stopped}
use Rattle.scene_file.specs.Reading.{IsSceneFault, IsSceneFaultAt}
use Rattle.scene_file.specs.declared.fault.SceneFault.{SceneFault}
use Rattle.scene_file.specs.declared.fault.SceneFault.TheVariants.{Json, NotObject, NotScene, Elements, AppState, Files, Element}

pub fault-same : (A : Type 0) (a b : SceneFault) → stopped A (Fault a) ≡ stopped A (Fault b) → a ≡ b
fault-same A a b e = cc

-- a fault of the value behind the offset
pub behind : (bytes : List ℕ) (at : ℕ) (fault : SceneFault) (text rest : List ℕ) → Stands (drop at bytes) text rest
    → IsSceneFault text fault → IsSceneFaultAt bytes at fault
behind bytes at (Json found) text rest stands is = absurd is
behind bytes at NotObject text rest stands is = (text, rest, stands, is)
behind bytes at NotScene text rest stands is = (text, rest, stands, is)
behind bytes at Elements text rest stands is = (text, rest, stands, is)
behind bytes at AppState text rest stands is = (text, rest, stands, is)
behind bytes at Files text rest stands is = (text, rest, stands, is)
behind bytes at (Element place why) text rest stands is = (text, rest, stands, is)
