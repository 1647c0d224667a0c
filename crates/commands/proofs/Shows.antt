-- What is stored is shown as one text, and as some text where it is whole.
use Rattle.std.proofs.Common.{◌≡◌, ℕ, List, ◌++◌, All, true, refl, sym, ap, subst, ◌∙◌}
use Rattle.std.proofs.lemmas.List.Elements.{All-weaker}
use Rattle.json_text.specs.Members.{pairs}
use Rattle.scene_json.specs.Named.{HaveRisingNames}
use Rattle.elem.specs.ElementValue.{ElementValue}
use Rattle.elem.specs.Facts.{IsElement}
use Rattle.elem.specs.Said.{HasValidTexts as IsWrittenElement}
use Rattle.elem.specs.Texts.{element_text}
use Rattle.elem.proofs.CallerLemmas.{AreKept, kept-from}
use Rattle.elem_read.proofs.CallerLemmas.{IsSound-read}
use Rattle.elem_read.specs.Reading.{IsWholeElement}
use Rattle.elem_store.specs.Updates.{ids_of}
use Rattle.frac_keys.specs.Rising.{are_rising}
use Rattle.index_repair.proofs.CallerLemmas.{kept-keys}
use Rattle.view.specs.Shown.{live_elements}
use Rattle.view.proofs.CallerLemmas.{live-kept, shown-kept, live_elements-rise, HaveDistinctIds-rising, shown-keys, shown-settled}
use Rattle.scene_file.specs.Heads.{Heading}
use Rattle.scene_file.specs.Scenes.{scene_text}
use Rattle.scene_file.specs.Whole.{IsWholeHead}
use Rattle.scene_file.specs.declared.layout.Layout.{Layout}
use Rattle.scene_file.proofs.CallerLemmas.{IsFit, scene-text-compact, text-once, written-exists, fit-members}
use Rattle.commands.specs.Boards.{IsSceneOfStored, shown_of}
use Rattle.commands.specs.Faults.{newline}

pub scene-once : (layout : Layout) (head other : Heading) (stored news : List ElementValue) (a b : List ℕ)
    → head ≡ other → stored ≡ news
    → IsSceneOfStored layout head stored a → IsSceneOfStored layout other news b → a ≡ b
scene-once layout head other stored news a b same kept first second =
    let moved =
    subst (λ h. IsSceneOfStored layout h news a) same (subst (λ s. IsSceneOfStored layout head s a) kept first) in
    moved.ended
    ∙ (ap (λ t. t ++ newline) (text-once layout other (shown_of news) moved.written second.written moved.scene
    second.scene) ∙ sym second.ended)

-- What is kept is shown under a head that fits.
pub scene-exists : (layout : Layout) (head : Heading) (stored : List ElementValue) → IsFit head
    → HaveRisingNames (pairs head.app_state) → AreKept stored → are_rising (ids_of stored) ≡ true
    → (text : List ℕ) × IsSceneOfStored layout head stored text
scene-exists layout head stored fit rise all ordered =
    let live = live-kept stored all in
    let compact = scene-text-compact head (shown_of stored) fit rise (shown-kept (live_elements stored) live) in
    let written = written-exists layout (scene_text head (shown_of stored)) compact in (
      written.0 ++ newline,
      record {
        written = written.0;
        scene = written.1;
        ended = refl;
        rise = shown-keys (live_elements stored) (kept-keys (live_elements stored) live);
        settled = shown-settled (live_elements stored)
            (HaveDistinctIds-rising (live_elements stored) (live_elements-rise stored ordered))
            (kept-keys (live_elements stored) live);
      },
    )

pub whole-fits : (head : Heading) → IsWholeHead head → IsFit head
whole-fits head whole = record {
  source = whole.source;
  settings = fit-members (pairs head.app_state) whole.settings;
  files = fit-members head.files whole.files;
}

pub wholes-kept : (elements : List ElementValue) → All IsWholeElement elements → AreKept elements
wholes-kept elements whole =
    kept-from elements (All-weaker IsWholeElement (λ e. IsElement e × IsWrittenElement e)
    (λ e is. let sound = IsSound-read (element_text e) e is in (sound.is_element, sound.written)) elements whole)
