-- What the parts of a session's text keep to, and that what they bring is of elements.
use Rattle.std.proofs.Common.{ℕ, All, List, [], ◌∷◌, Option, Some, None, IfSome, Ok, codes, bytes_eq, is_some, map, refl, sym, subst, IsUtf8, lit≤}
use Rattle.std.specs.List.{AllByRecursion, list_all}
use Rattle.std.proofs.lemmas.Bool.{cond_both}
use Rattle.std.proofs.lemmas.List.Elements.{All-weaker}
use Rattle.json_text.specs.Value.{IsCompact}
use Rattle.json_text.specs.declared.text.Member.{Member}
use Rattle.index_repair.specs.Repair.{repaired}
use Rattle.index_repair.specs.Keyed.{index_of, keyed}
use Rattle.index_repair.proofs.CallerLemmas.{keyed-elements}
use Rattle.elem.specs.ElementValue.{ElementValue}
use Rattle.elem.specs.Facts.{IsElement, names}
use Rattle.elem.specs.Forms.{find_in}
use Rattle.elem.specs.Said.{HasValidTexts, AreElements}
use Rattle.elem.specs.Texts.{element_text}
use Rattle.elem.proofs.CallerLemmas.{names-each}
use Rattle.elem_read.specs.Elements.{AreRead}
use Rattle.elem_read.specs.Reading.{IsWholeElement}
use Rattle.elem_read.proofs.CallerLemmas.{found-has, object-nests, others-hold, All-whole, IsSound-read}
use Rattle.board_commands.specs.Limits as limits
use Rattle.scene_file.specs.Reading.{loaded}
use Rattle.scene_file.specs.Whole.{HaveKeys}
use Rattle.scene_file.specs.declared.scene.Scene.{Scene as Board}
use Rattle.scene_file.proofs.CallerLemmas.{loaded-keys}
use Rattle.session_text.specs.Events.{SceneOf}
use Rattle.session_text.specs.Facts.{IsOfMade}
use Rattle.session_text.specs.Forms.{IsRest, IsPick, ArePicks}
use Rattle.session_text.specs.declared.event.Pick.{Pick}
use Rattle.session_text.specs.declared.event.Pick.TheVariants as chosen

-- ---- elements
pub whole-elements : (elements : List ElementValue) → All IsWholeElement elements → AreElements elements
whole-elements elements all =
    All-weaker IsWholeElement (λ e. IsElement e × HasValidTexts e)
    (λ e whole. let sound = IsSound-read (element_text e) e whole in (sound.is_element, sound.written)) elements all

pub read-elements : (values : List (List ℕ)) (elements : List ElementValue) → AreRead values elements
    → AreElements elements
read-elements values elements read = whole-elements elements (All-whole values elements read)

loaded-elements : (elements : List ElementValue) → AreElements elements → AreElements (loaded elements)
loaded-elements elements are =
    cond_both (list_all (λ (e : ElementValue). is_some e.index) elements) elements
    (keyed elements (repaired (map index_of elements))) AreElements
    (λ t. are) (λ f. keyed-elements elements are)

-- What a scene holds are elements, each with a key.
pub record IsSceneKept (scene : Option Board) : Type 0 where
  pub keys : IfSome scene (λ (board : Board). HaveKeys board.elements)
  pub elements : IfSome scene (λ (board : Board). AreElements board.elements)

pub scene-kept : (value : List ℕ) (scene : Option Board) → SceneOf (Some value) (Ok scene) → IsSceneKept scene
scene-kept value None is = absurd is
scene-kept value (Some board) is = record {
  keys = subst HaveKeys (sym is.are_loaded) (loaded-keys is.elements);
  elements = subst AreElements (sym is.are_loaded)
      (loaded-elements is.elements (read-elements is.values is.elements is.read));
}

-- ---- the further members of a binding
abbrev NestsAt : List ℕ → List ℕ → Type 0
NestsAt name value = IsCompact 99 value

abbrev IsNamed : List ℕ → List ℕ → Type 0
IsNamed name value = IsUtf8 name

pub rest-kept : (found : Option (List ℕ)) (rest : List Member) → IsRest found rest → limits.IsRest rest
rest-kept None rest is = subst limits.IsRest (sym is) (record { rise = refl; free = refl; nest = tt })
rest-kept (Some value) rest (shallow, (members, object, are)) = record {
  rise = are.rise;
  free = are.free;
  nest = others-hold NestsAt (bytes_eq (codes "elementId")) (find_in members) rest
      (found-has NestsAt members (object-nests 100 value members (lit≤ tt) (lit≤ tt) shallow object).valued) are;
}

pub rest-written : (found : Option (List ℕ)) (rest : List Member) → IsRest found rest
    → AllByRecursion IsUtf8 (names rest)
rest-written None rest is = subst (λ (ms : List Member). AllByRecursion IsUtf8 (names ms)) (sym is) tt
rest-written (Some value) rest (shallow, (members, object, are)) =
    names-each IsUtf8 rest (others-hold IsNamed (bytes_eq (codes "elementId")) (find_in members) rest
    (found-has IsNamed members object.are_members.named) are)

-- ---- picks
pick-made : (made : ℕ) (item : List ℕ) (pick : Pick) → IsPick made item pick → IsOfMade made pick
pick-made made item (chosen.All message) is = is.2
pick-made made item (chosen.One message element) (parts, array, (first, second, same, from, whole)) = from.2

pub picks-made : (made : ℕ) (items : List (List ℕ)) (all : List Pick) → ArePicks made items all
    → AllByRecursion (IsOfMade made) all
picks-made made [] all none = subst (AllByRecursion (IsOfMade made)) (sym none) tt
picks-made made (item ∷ items) all (pick, others, same, is, are) =
    subst (AllByRecursion (IsOfMade made)) (sym same) (pick-made made item pick is, picks-made made items others are)
