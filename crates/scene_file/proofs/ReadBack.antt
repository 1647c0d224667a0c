-- The text of a scene is read back.
use Rattle.std.proofs.Common.{◌≡◌, ℕ, List, [], ◌∷◌, ◌++◌, true, false, cond, Option, Some, None, IfSome, All, codes, bytes_eq, map, refl, sym, ap, ◌∙◌, subst, inl, inr, lit≤, append-nil, append_assoc, IsUtf8}
use Rattle.std.specs.List.{AllByRecursion, list_all}
use Rattle.std.proofs.lemmas.Bool.{cond-true, cond-false, and_from}
use Rattle.std.proofs.lemmas.List.Elements.{All-head, All-tail, All-weaker}
use Rattle.std.proofs.lemmas.List.Folds.{list_all-append}
use Rattle.json_text.specs.Characters.{is_blank, is_space}
use Rattle.json_text.specs.Compact.{Member as Pair, compact, array_text, object_text}
use Rattle.json_text.specs.Members.{pairs}
use Rattle.json_text.specs.Parts.{AreMembers}
use Rattle.json_text.specs.Tree.{IsNumber, null_word, scalar, spelling}
use Rattle.json_text.specs.Value.{Value, IsCompact, Follows}
use Rattle.scene_json.specs.Layout.{laid_out}
use Rattle.scene_json.specs.Named.{AreSameMembers, HaveRisingNames}
use Rattle.json_text.proofs.CallerLemmas.{Value-deeper, object-compact, object-starts, number-Head, head-apart, ascii-utf8}
use Rattle.scene_json.proofs.CallerLemmas.{laid-Value}
use Rattle.elem.specs.ElementValue.{ElementValue}
use Rattle.elem.specs.Forms.{IsObject}
use Rattle.elem.specs.Texts.{element_text, text_or_null}
use Rattle.elem.proofs.CallerLemmas.{null-no-text, AreMembers-deeper}
use Rattle.elem_read.specs.Reading.{IsWholeElement}
use Rattle.elem_read.proofs.CallerLemmas.{AreRead-texts}
use Rattle.file_table.specs.References.{referred_files}
use Rattle.scene_file.specs.Heads.{Heading}
use Rattle.scene_file.specs.Layouts.{IsWrittenIn}
use Rattle.scene_file.specs.Reading.{HasItems, HasMembers, IsSource, IsSceneOf, IsSceneAt}
use Rattle.scene_file.specs.Scenes.{scene_members, scene_text, state_text}
use Rattle.scene_file.specs.Texts.{IsSceneText}
use Rattle.scene_file.specs.Whole.{IsWholeHead, HaveKeys, with_named_files}
use Rattle.scene_file.specs.declared.layout.Layout.{Layout}
use Rattle.scene_file.specs.declared.layout.Layout.TheVariants.{Compact, Pretty}
use Rattle.scene_file.specs.declared.scene.Scene.{Scene}
use Rattle.scene_file.proofs.NamedFiles.{named-same, named-rise, named-again, referred-are}
use Rattle.scene_file.proofs.SceneTexts.{scene-are, trees-once}
use Rattle.scene_file.proofs.Fitting.{source-compact}

-- ---- what is given under the names of a scene
object-no-null : (ms : List Pair) → bytes_eq (object_text ms) null_word ≡ false
unfolding object_text
object-no-null ms = refl

pub array-no-null : (ts : List (List ℕ)) → bytes_eq (array_text ts) null_word ≡ false
unfolding array_text
array-no-null ts = refl

there : (value : List ℕ) → bytes_eq value null_word ≡ false
    → Some value ≡ cond (bytes_eq value null_word) None (Some value)
there value other = sym (cond-false (bytes_eq value null_word) None (Some value) other)

object-of : (ms : List Pair) → AreMembers 126 ms → IsObject (object_text ms) ms
object-of ms are = record { are_members = AreMembers-deeper 126 127 ms (lit≤ tt) are; spelled = refl }

members-given : (ms : List Pair) → AreMembers 126 ms
    → HasMembers (cond (bytes_eq (object_text ms) null_word) None (Some (object_text ms))) ms
members-given ms are =
    subst (λ found. HasMembers found ms) (there (object_text ms) (object-no-null ms)) (object-of ms are)

items-given : (ts : List (List ℕ)) → AllByRecursion (IsCompact 127) ts
    → HasItems (cond (bytes_eq (array_text ts) null_word) None (Some (array_text ts))) ts
items-given ts nest = subst (λ found. HasItems found ts) (there (array_text ts) (array-no-null ts)) (nest, refl)

source-read : (source : Option (List ℕ)) → IfSome source IsUtf8 → IsSource (Some (text_or_null source)) source
source-read None is = λ text found. null-no-text (Some null_word) text (inr refl) found
source-read (Some text) is = (is, refl)

-- ---- elements

texts-nest : (elements : List ElementValue) → All IsWholeElement elements
    → AllByRecursion (IsCompact 127) (map element_text elements)
texts-nest [] whole = tt
texts-nest (e ∷ elements) whole = (
  Value-deeper (lit≤ tt) (All-head IsWholeElement e elements whole).shallow,
  texts-nest elements (All-tail IsWholeElement e elements whole),
)

-- ---- the scene

module _ (head : Heading) (elements : List ElementValue) (files : List Pair) (whole : IsWholeHead head)
    (each : All IsWholeElement elements) (are : AreMembers 126 files) where
  members-are : AreMembers 127 (scene_members head elements files)
  members-are =
      scene-are head elements files (source-compact head.source whole.source)
      (All-weaker IsWholeElement (λ e. IsCompact 120 (element_text e)) (λ e is. is.shallow) elements each)
      (object-compact 126 (pairs head.app_state) whole.settings) (object-compact 126 files are)

  text-compact : IsCompact 128 (object_text (scene_members head elements files))
  text-compact = object-compact 127 (scene_members head elements files) members-are

  -- the text says the scene, whose files are in the order of their ids
  scene-said : (kept : List Pair) → HaveKeys elements → HaveRisingNames kept → AreSameMembers kept files
      → IsSceneOf (object_text (scene_members head elements files))
      (record { head = record head { files = kept }; elements = elements })
  scene-said kept keys rise same = record {
    members = scene_members head elements files;
    object = record { are_members = members-are; spelled = refl };
    kind = (ascii-utf8 (codes "excalidraw") refl, refl);
    head = record {
      source = source-read head.source whole.source;
      settings = pairs head.app_state;
      state = members-given (pairs head.app_state) whole.settings;
      state_ordered = whole.settings_ordered;
      app_state = λ name. refl;
      entries = files;
      table = members-given files are;
      files_ordered = rise;
      files = same;
    };
    values = map element_text elements;
    items = items-given (map element_text elements) (texts-nest elements each);
    elements = elements;
    read = AreRead-texts elements each;
    are_loaded = sym (cond-true (list_all _ elements) elements _ keys);
  }

-- ---- a scene at the front
-- a value that means an object is no number
no-number : (limit : ℕ) (value text : List ℕ) (ms : List Pair) → Value limit value text → text ≡ object_text ms
    → IsNumber value → ⊥
no-number limit value text ms v is number =
    let same = trees-once v.tree (scalar value) v.good (inl number) v.spells in
    let literal_is : text ≡ value = sym v.means ∙ ap compact same in
    head-apart _ value [] _ 123 (number-Head value number) refl (append-nil value
    ∙ (sym literal_is ∙ (is ∙ (object-starts ms).1)))

follows : (value rest : List ℕ) → (IsNumber value → ⊥) → Follows value rest
follows value [] none = tt
follows value (b ∷ rest) none = λ number. absurd (none number)

-- a text that is one value, and what follows it
stands-at : (written text rest : List ℕ) (scene : Scene) → Value 128 written text → IsSceneOf text scene
    → IsSceneAt (written ++ rest) scene rest
stands-at written text rest scene v is = record {
  text = text;
  stands = record {
    blank = [];
    value = written;
    parts = refl;
    space = refl;
    reads = v;
    ends = follows written rest (no-number 128 written text is.members v is.object.spelled);
  };
  says = is;
}

written-Value : (layout : Layout) (text written : List ℕ) → IsCompact 128 text → IsWrittenIn layout text written
    → Value 128 written text
written-Value Compact text written v is = subst (λ bytes. Value 128 bytes text) (sym is) v
written-Value Pretty text written v is =
    laid-Value 128 0 text written text v (is.laid
    ∙ ap (λ t. spelling (laid_out 0 t)) (trees-once is.tree v.tree is.good v.good (is.spells ∙ sym v.spells)))

-- The text of a scene, in whatever layout, is read as the scene, with the files that its elements name.
pub scene-back : (layout : Layout) (head : Heading) (elements : List ElementValue) (written rest : List ℕ)
    → IsWholeHead head → All IsWholeElement elements → HaveKeys elements
    → IsSceneText layout head elements written
    → IsSceneAt (written ++ rest) (record { head = with_named_files head elements; elements = elements }) rest
unfolding scene_text
scene-back layout head elements written rest whole each keys is =
    let files = referred_files head.files elements in
    let are = referred-are head.files elements 126 whole.files in
    stands-at written (object_text (scene_members head elements files)) rest
    (record { head = with_named_files head elements; elements = elements })
    (written-Value layout (object_text (scene_members head elements files)) written
    (text-compact head elements files whole each are) is)
    (scene-said head elements files whole each are (with_named_files head elements).files keys
    (named-rise head.files elements whole.files_ordered) (named-same head.files elements))

-- The text of all that is stored is read as that, under its head.
pub state-back : (head : Heading) (stored : List ElementValue) (rest : List ℕ) → IsWholeHead head
    → All IsWholeElement stored → HaveKeys stored
    → IsSceneAt (state_text head stored ++ rest) (record { head = head; elements = stored }) rest
unfolding state_text
state-back head stored rest whole each keys =
    let text = object_text (scene_members head stored head.files) in
    stands-at text text rest (record { head = head; elements = stored })
    (text-compact head stored head.files whole each whole.files)
    (scene-said head stored head.files whole each whole.files head.files keys whole.files_ordered (λ name. refl))

-- A head without the files that its elements don't name has the same text.
pub named-text : (head : Heading) (elements : List ElementValue) → scene_text (with_named_files head elements) elements
    ≡ scene_text head elements
unfolding scene_text
named-text head elements =
    ap (λ files. object_text (scene_members head elements files)) (named-again head.files elements)

-- ---- more white space before a scene, and more behind it
pub scene-behind : (blank bytes : List ℕ) (scene : Scene) (rest : List ℕ) → is_blank blank ≡ true
    → IsSceneAt bytes scene rest → IsSceneAt (blank ++ bytes) scene rest
scene-behind blank bytes scene rest space at =
    let s = at.stands in
    record {
      text = at.text;
      stands = record {
        blank = blank ++ s.blank;
        value = s.value;
        parts = ap (λ b. blank ++ b) s.parts ∙ sym (append_assoc blank s.blank (s.value ++ rest));
        space = list_all-append is_space blank s.blank ∙ and_from (is_blank blank) (is_blank s.blank) space s.space;
        reads = s.reads;
        ends = s.ends;
      };
      says = at.says;
    }

pub scene-before : (bytes : List ℕ) (scene : Scene) (rest more : List ℕ) → IsSceneAt bytes scene rest
    → IsSceneAt (bytes ++ more) scene (rest ++ more)
scene-before bytes scene rest more at =
    let s = at.stands in
    record {
      text = at.text;
      stands = record {
        blank = s.blank;
        value = s.value;
        parts = ap (λ b. b ++ more) s.parts
            ∙ (append_assoc s.blank (s.value ++ rest) more ∙ ap (λ b. s.blank ++ b) (append_assoc s.value rest more));
        space = s.space;
        reads = s.reads;
        ends = follows s.value (rest ++ more) (no-number 128 s.value at.text at.says.members s.reads
            at.says.object.spelled);
      };
      says = at.says;
    }
