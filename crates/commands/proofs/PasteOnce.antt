-- A scene and a clip are pasted to one text, or refused for one reason.
use Rattle.std.proofs.Common.{◌≡◌, inl, inr, ℕ, List, [], ◌∷◌, ◌++◌, Some, None, Result, Ok, Err, sym, ap, subst, ◌∙◌}
use Rattle.json_text.specs.Members.{pairs}
use Rattle.json_text.specs.Compact.{Member as Pair}
use Rattle.elem.specs.ElementValue.{ElementValue}
use Rattle.elem_store.specs.Updates.{AreStored}
use Rattle.elem_store.proofs.CallerLemmas.{store-unique}
use Rattle.file_table.proofs.CallerLemmas.{AreLeastEntries-unique}
use Rattle.clips.specs.Clips.{IsClipOf}
use Rattle.copies.specs.Copies.{copies_of}
use Rattle.board_paste.specs.Pasting.{IsClipHead, first_stored, pasted}
use Rattle.clips.specs.declared.clip.Clip.{Clip}
use Rattle.clips.proofs.CallerLemmas.{clip-faultless, clip-once, fault-once}
use Rattle.scene_file.specs.Heads.{Heading, IsJoinedHead}
use Rattle.scene_file.specs.declared.layout.Layout.TheVariants.{Compact}
use Rattle.scene_file.specs.declared.scene.Scene.{Scene}
use Rattle.scene_file.proofs.CallerLemmas.{head-once}
use Rattle.commands.specs.Answers.{IsAnswer}
use Rattle.commands.specs.Boards.{IsBoardOf, heads_of, updates_of}
use Rattle.commands.specs.Pastes.{HasSceneAndClip, IsClip, IsExisting, IsNoClip, IsPastedAs}
use Rattle.commands.specs.declared.status.InputRefusal.{InputRefusal}
use Rattle.commands.specs.declared.status.InputRefusal.TheVariants as refusal
use Rattle.commands.specs.declared.words.ProgramCommand.TheVariants.{Paste}
use Rattle.commands.proofs.FrontOnce.{front-once, second-none, second-once}
use Rattle.commands.proofs.Shows.{scene-once}

no-clip-once : (text : List ℕ) (f g : InputRefusal) → IsNoClip text f → IsNoClip text g → f ≡ g
no-clip-once text f g (fault, is, faulty) (other, also, wrong) =
    is ∙ (ap refusal.Clip (fault-once text fault other faulty wrong) ∙ sym also)

clip-none : (text : List ℕ) (f : InputRefusal) → IsClip text → IsNoClip text f → ⊥
clip-none text f (clip, read) (fault, is, faulty) = clip-faultless text clip read fault faulty

-- ---- what is pasted
clip-head-once : (entries : List Pair) (head other : Heading) → IsClipHead entries head → IsClipHead entries other
    → head ≡ other
clip-head-once entries head other one two =
    let source = one.source ∙ sym two.source in
    let state = one.app_state ∙ sym two.app_state in
    let files = AreLeastEntries-unique entries head.files other.files one.files two.files in
    λ i. record { source = source i; app_state = state i; files = files i }

board-same : {scenes : List Scene} {head other : Heading} {stored news : List ElementValue}
    → IsBoardOf scenes head stored → IsBoardOf scenes other news → stored ≡ news
board-same {scenes = scenes} {stored = stored} {news = news} one two =
    store-unique (updates_of scenes) stored news one.stores two.stores

pasted_as-once : (prefix : List ℕ) (scene : Scene) (clip : Clip) (a b : List ℕ) → IsPastedAs prefix scene clip a
    → IsPastedAs prefix scene clip b → a ≡ b
pasted_as-once prefix scene clip a b one two =
    let stored = board-same one.board two.board in
    let own = clip-head-once (pairs clip.files) one.own two.own one.own_files two.own_files in
    let head =
    head-once (subst (λ h. IsJoinedHead (heads_of (scene ∷ []) ++ h ∷ []) one.head) own one.joined) two.joined in
    let all = store-unique _ one.all two.all
    (subst (λ s. AreStored (updates_of (scene ∷ []) ++ pasted s clip.elements prefix) one.all) stored one.stores)
    two.stores in
    scene-once Compact one.head two.head one.all two.all a b head all one.shown two.shown

existing-once : (prefix : List ℕ) (scene : Scene) (clip : Clip) (place other : ℕ)
    → IsExisting prefix scene clip place → IsExisting prefix scene clip other → place ≡ other
existing-once prefix scene clip place other one two =
    let stored = board-same one.board two.board in
    let same : Some place ≡ Some other =
    sym (subst (λ s. first_stored s (copies_of clip.elements prefix) clip.places ≡ Some place) stored one.exists)
    ∙ two.exists in
    cc

existing-none : (prefix : List ℕ) (scene : Scene) (clip : Clip) (place : ℕ) (text : List ℕ)
    → IsExisting prefix scene clip place → IsPastedAs prefix scene clip text → ⊥
existing-none prefix scene clip place text one two =
    let stored = board-same one.board two.board in
    let same : Some place ≡ None =
    sym (subst (λ s. first_stored s (copies_of clip.elements prefix) clip.places ≡ Some place) stored one.exists)
    ∙ two.new in
    cc

-- ---- answers
-- what a clip that is pasted into a scene is answered with
abbrev pub IsOfClip : List ℕ → Scene → Clip → Result (List ℕ) InputRefusal → Type 0
IsOfClip prefix scene clip (Ok text) = IsPastedAs prefix scene clip text
IsOfClip prefix scene clip (Err found) =
    (place : ℕ) × (found ≡ refusal.Exists place) × IsExisting prefix scene clip place

pub of_clip-once : (prefix : List ℕ) (scene : Scene) (clip : Clip) (answer other : Result (List ℕ) InputRefusal)
    → IsOfClip prefix scene clip answer → IsOfClip prefix scene clip other → answer ≡ other
of_clip-once prefix scene clip (Ok a) (Ok b) one two = ap Ok (pasted_as-once prefix scene clip a b one two)
of_clip-once prefix scene clip (Ok a) (Err g) one (place, is, two) =
    absurd (existing-none prefix scene clip place a two one)
of_clip-once prefix scene clip (Err f) (Ok b) (place, is, one) two =
    absurd (existing-none prefix scene clip place b one two)
of_clip-once prefix scene clip (Err f) (Err g) (place, is, one) (other, also, two) =
    ap Err (is ∙ (ap refusal.Exists (existing-once prefix scene clip place other one two) ∙ sym also))

module _ (prefix bytes : List ℕ) (scene : Scene) (clip : Clip) (holds : HasSceneAndClip bytes scene clip) where
  -- of another scene and clip of the same input, too
  moved : (other : Scene) (own : Clip) → HasSceneAndClip bytes other own → (answer : Result (List ℕ) InputRefusal)
      → IsOfClip prefix other own answer → IsOfClip prefix scene clip answer
  moved other own (text, front, read) answer is =
      let same = front-once bytes other scene text holds.0 None None front holds.1 in
      let clips = clip-once holds.0 own clip (subst (λ t. IsClipOf t own) same.texts read) holds.2 in
      subst (λ s. IsOfClip prefix s clip answer) same.scenes (subst (λ c. IsOfClip prefix other c answer) clips is)

  -- a scene and a clip are answered so
  pub of-clip : (answer : Result (List ℕ) InputRefusal) → IsAnswer (Paste prefix) bytes answer
      → IsOfClip prefix scene clip answer
  of-clip (Ok text) is = moved is.scene is.clip is.holds (Ok text) is.is
  of-clip (Err found) (inl bad) =
      absurd (second-none IsClip IsNoClip no-clip-once clip-none bytes found scene holds.0 bad holds.1 (clip, holds.2))
  of-clip (Err found) (inr (place, same, is)) = moved is.scene is.clip is.holds (Err found) (place, same, is.is)

  pub clip-pasted : (answer : Result (List ℕ) InputRefusal) → IsOfClip prefix scene clip answer
      → IsAnswer (Paste prefix) bytes answer
  clip-pasted (Ok text) is = record { scene = scene; clip = clip; holds = holds; is = is }
  clip-pasted (Err found) (place, same, is) =
      inr (place, same, record { scene = scene; clip = clip; holds = holds; is = is })

pub pasted-once : (prefix bytes : List ℕ) (answer other : Result (List ℕ) InputRefusal)
    → IsAnswer (Paste prefix) bytes answer → IsAnswer (Paste prefix) bytes other → answer ≡ other
pasted-once prefix bytes (Ok a) other one two =
    of_clip-once prefix one.scene one.clip (Ok a) other one.is
    (of-clip prefix bytes one.scene one.clip one.holds other two)
pasted-once prefix bytes (Err f) other (inr (place, is, one)) two =
    of_clip-once prefix one.scene one.clip (Err f) other (place, is, one.is)
    (of-clip prefix bytes one.scene one.clip one.holds other two)
pasted-once prefix bytes (Err f) (Ok b) (inl bad) two =
    of_clip-once prefix two.scene two.clip (Err f) (Ok b)
    (of-clip prefix bytes two.scene two.clip two.holds (Err f) (inl bad)) two.is
pasted-once prefix bytes (Err f) (Err g) (inl bad) (inl also) =
    ap Err (second-once IsClip IsNoClip no-clip-once clip-none bytes f g bad also)
pasted-once prefix bytes (Err f) (Err g) (inl bad) (inr (place, is, two)) =
    of_clip-once prefix two.scene two.clip (Err f) (Err g)
    (of-clip prefix bytes two.scene two.clip two.holds (Err f) (inl bad)) (place, is, two.is)
