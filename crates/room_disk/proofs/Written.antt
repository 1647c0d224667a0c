-- Records have no line feed but their last byte, and are read as what they were written from.
use Rattle.std.proofs.Common.{ℕ, List, [], ◌∷◌, ◌++◌, true, Option, Some, None, Ok, All, codes, decimal, map, refl, ap, ◌∙◌, lit≤, append_assoc}
use Rattle.std.specs.List.{AllByRecursion}
use Rattle.std.proofs.lemmas.Bool.{and_from}
use Rattle.std.proofs.lemmas.List.Elements.{All-head, All-tail}
use Rattle.std.proofs.lemmas.List.Folds.{list_all-append}
use Rattle.json_text.specs.Characters.{is_blank, is_space}
use Rattle.json_text.specs.Compact.{Member as Pair, array_text}
use Rattle.json_text.specs.Members.{pairs}
use Rattle.json_text.specs.Value.{IsCompact, Follows}
use Rattle.json_text.proofs.CallerLemmas.{decimal_nests}
use Rattle.elem.specs.ElementValue.{ElementValue}
use Rattle.elem.specs.Texts.{element_text, text_or_null}
use Rattle.elem_read.specs.Reading.{IsWholeElement}
use Rattle.room_msg.specs.Messages.{StandsAlone, IsReadAs, IsWholeMessage, update_tag}
use Rattle.room_msg.specs.Texts.{message_text, tagged_members}
use Rattle.room_msg.specs.declared.message.Message.{Message}
use Rattle.room_msg.specs.declared.message.Message.TheVariants.{Update}
use Rattle.scene_file.specs.Heads.{Heading}
use Rattle.scene_file.specs.Scenes.{scene_members, state_text}
use Rattle.scene_file.specs.Whole.{IsWholeHead, HaveKeys}
use Rattle.scene_file.proofs.CallerLemmas.{state-back}
use Rattle.room_disk.specs.Records.{opening_record, update_record}
use Rattle.room_disk.specs.Recovering.{IsSceneReadAs, AreUpdates}
use Rattle.input_texts.proofs.CallerLemmas.{NoFeed, quote-none, compact-none, array-none, object-none}

-- ---- no line feed
pub elements-none : (elements : List ElementValue) → All IsWholeElement elements
    → AllByRecursion NoFeed (map element_text elements)
elements-none [] whole = tt
elements-none (e ∷ elements) whole = (
  compact-none 120 (element_text e) (All-head IsWholeElement e elements whole).shallow,
  elements-none elements (All-tail IsWholeElement e elements whole),
)

values-none : (ms : List Pair) → AllByRecursion (λ (m : Pair). IsCompact 126 m.1) ms
    → AllByRecursion (λ (m : Pair). NoFeed m.1) ms
values-none [] are = tt
values-none (m ∷ ms) are = (compact-none 126 m.1 are.0, values-none ms are.1)

source-none : (source : Option (List ℕ)) → NoFeed (text_or_null source)
source-none None = refl
source-none (Some text) = quote-none text

pub state-none : (head : Heading) (stored : List ElementValue) → IsWholeHead head → All IsWholeElement stored
    → NoFeed (state_text head stored)
unfolding state_text
state-none head stored whole each =
    object-none (scene_members head stored head.files) (
      quote-none (codes "excalidraw"),
      (
        compact-none 0 (decimal 2) (decimal_nests 0 2 (lit≤ tt)),
        (
          source-none head.source,
          (
            array-none (map element_text stored) (elements-none stored each),
            (
              object-none (pairs head.app_state) (values-none (pairs head.app_state) whole.settings.valued),
              (object-none head.files (values-none head.files whole.files.valued), tt),
            ),
          ),
        ),
      ),
    )

pub update-none : (elements : List ElementValue) → All IsWholeElement elements → NoFeed (message_text (Update elements))
unfolding message_text
update-none elements each =
    let inner : List Pair = (codes "elements", array_text (map element_text elements)) ∷ [] in
    object-none (tagged_members update_tag elements) (
      quote-none update_tag,
      (
        object-none inner (
          array-none (map element_text elements) (elements-none elements each),
          tt,
        ),
        tt,
      ),
    )

-- ---- read with the line feed behind
follows : (value rest : List ℕ) → Follows value rest → Follows value (rest ++ 10 ∷ [])
follows value [] ends = λ _. refl
follows value (b ∷ rest) ends = ends

pub alone-feed : (bytes text : List ℕ) → StandsAlone bytes text → StandsAlone (bytes ++ 10 ∷ []) text
alone-feed bytes text alone =
    let s = alone.stands in
    record {
      rest = alone.rest ++ 10 ∷ [];
      stands = record {
        blank = s.blank;
        value = s.value;
        parts = ap (λ b. b ++ 10 ∷ []) s.parts ∙ (append_assoc s.blank (s.value ++ alone.rest) (10 ∷ [])
            ∙ ap (λ b. s.blank ++ b) (append_assoc s.value alone.rest (10 ∷ [])));
        space = s.space;
        reads = s.reads;
        ends = follows s.value alone.rest s.ends;
      };
      space = list_all-append is_space alone.rest (10 ∷ []) ∙ and_from (is_blank alone.rest) true alone.space refl;
    }

pub opening-read : (head : Heading) (stored : List ElementValue) → IsWholeHead head → All IsWholeElement stored
    → HaveKeys stored
    → IsSceneReadAs (opening_record head stored) (Ok (record { head = head; elements = stored }))
opening-read head stored whole each keys =
    let at = state-back head stored (10 ∷ []) whole each keys in
    (at.text, record { rest = 10 ∷ []; stands = at.stands; space = refl }, at.says)

abbrev pub AreReadBack : Type 0
AreReadBack = (message : Message) → IsWholeMessage message → IsReadAs (message_text message) (Ok message)

pub update-read : AreReadBack → (elements : List ElementValue) → All IsWholeElement elements
    → IsReadAs (update_record elements) (Ok (Update elements))
update-read back elements each =
    let is = back (Update elements) each in (is.0, alone-feed (message_text (Update elements)) is.0 is.1, is.2)

pub updates-read : AreReadBack → (messages : List (List ElementValue)) → All (All IsWholeElement) messages
    → AreUpdates (map update_record messages) messages
updates-read back [] each = tt
updates-read back (elements ∷ messages) each = (
  update-read back elements (All-head (All IsWholeElement) elements messages each),
  updates-read back messages (All-tail (All IsWholeElement) elements messages each),
)
