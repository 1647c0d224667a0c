-- What holds of every clip that a text says.
use Rattle.std.proofs.Common.{ℕ, List, All, codes, sym, subst}
use Rattle.json_text.specs.Members.{pairs}
use Rattle.json_text.specs.Parts.{AreMembers}
use Rattle.elem.specs.Order.{HaveDistinctIds}
use Rattle.elem_read.specs.Reading.{IsWholeElement}
use Rattle.scene_file.proofs.CallerLemmas.{nests-value_unless_null}
use Rattle.clips.specs.Clips.{live_in, IsClipOf}
use Rattle.clips.specs.declared.clip.Clip.{Clip}
use Rattle.clips.proofs.ClipTold.{live-all}
use Rattle.clips.proofs.PlacedReading.{placed-whole}
use Rattle.clips.proofs.RepeatLaws.{repeat-none}

pub clip-distinct : (text : List ℕ) (clip : Clip) → IsClipOf text clip → HaveDistinctIds clip.elements
clip-distinct text clip is = subst HaveDistinctIds (sym is.elements) ((repeat-none (live_in is.placed)).0 is.distinct)

pub clip-whole : (text : List ℕ) (clip : Clip) → IsClipOf text clip → All IsWholeElement clip.elements
clip-whole text clip is =
    subst (All IsWholeElement) (sym is.elements)
    (live-all IsWholeElement is.placed (placed-whole is.values is.placed is.read))

pub clip-files : (text : List ℕ) (clip : Clip) → IsClipOf text clip → AreMembers 126 (pairs clip.files)
clip-files text clip is =
    nests-value_unless_null (codes "files") is.members (pairs clip.files) is.object.are_members is.files
