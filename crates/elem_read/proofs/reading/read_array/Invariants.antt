use Rattle.std.proofs.Common.{◌≤◌, ◌-◌, ◌^◌, List, ℕ, All}
use Rattle.json_text.specs.Compact.{Member as Pair}
use Rattle.scene_json.specs.Walks.{AreLeft, AreBehind}
use Rattle.elem_read.specs.Reading.{IsWholeElement}
use Rattle.elem_read.proofs.ReadElements.{IsReadTo}
use Rattle.elem_read.proofs.reading.read_array.Given as goal

abbrev pub invariant-loop-elements : goal.invariant-loop-elements
invariant-loop-elements l = record {
  few : l.place ≤ l.objects.at;
  whole : All IsWholeElement l.elements.items;
  behind : (members : List Pair) → AreBehind l.fn.objects members → AreBehind l.objects members;
  read : (values : List (List ℕ)) → AreLeft l.fn.objects values → IsReadTo values l.objects l.place l.elements.items;
}

abbrev pub decreases-loop-elements : goal.decreases-loop-elements
decreases-loop-elements l = 2 ^ 64 - l.objects.at
