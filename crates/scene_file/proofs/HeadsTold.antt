-- The head that a scene's members say.
use Rattle.std.proofs.Common.{ℕ, List, [], ◌++◌, Option, Some, None, codes, subst, ◌∙◌, append-nil}
use Rattle.json_text.specs.Compact.{Member as Pair}
use Rattle.json_text.specs.Members.{pairs}
use Rattle.json_text.specs.Parts.{AreMembers}
use Rattle.scene_json.specs.Named.{value_at, AreSameMembers, HaveRisingNames}
use Rattle.scene_json.specs.TheOne.{IsTheOne}
use Rattle.elem.specs.Forms.{IsText}
use Rattle.file_table.specs.Table.{AreLeastEntries}
use Rattle.file_table.proofs.CallerLemmas.{least-distinct}
use Rattle.scene_file.specs.Heads.{Heading}
use Rattle.scene_file.specs.Reading.{value_unless_null, HasMembers, IsSource, IsHeadOf}

source-is : (found source : Option (List ℕ)) → IsTheOne (λ (text : List ℕ). IsText found text) source
    → IsSource found source
source-is found None none = none
source-is found (Some text) is = is.0

pub head-told : (members entries : List Pair) (head : Heading) (settings : List Pair)
    → IsTheOne (λ (text : List ℕ). IsText (value_at (codes "source") members) text) head.source
    → HasMembers (value_unless_null (codes "appState") members) settings → HaveRisingNames (pairs head.app_state)
    → AreSameMembers (pairs head.app_state) settings
    → HasMembers (value_unless_null (codes "files") members) entries → AreMembers 126 entries
    → AreLeastEntries (entries ++ []) head.files → IsHeadOf members head
head-told members entries head settings source state rise same table are files =
    let taken = subst (λ es. AreLeastEntries es head.files) (append-nil entries) files in
    record {
      source = source-is (value_at (codes "source") members) head.source source;
      settings = settings;
      state = state;
      state_ordered = rise;
      app_state = same;
      entries = entries;
      table = table;
      files_ordered = taken.ordered;
      files = λ name. taken.each name ∙ least-distinct entries name are.distinct;
    }
