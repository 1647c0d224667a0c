-- An input has one answer alone, and inputs with the same updates and heads are merged to one text.
use Rattle.std.proofs.Common.{◌≡◌, inl, inr, ℕ, List, [], ◌∷◌, ◌++◌, length, Result, Ok, Err, Some, codes, decimal, refl, sym, ap, ap₂, subst, ◌∙◌}
use Rattle.base64.specs.GeneralPurpose.{decode_of}
use Rattle.base64.specs.Engines.{standard}
use Rattle.json_text.specs.Characters.{quote}
use Rattle.json_text.specs.Compact.{Member as Pair}
use Rattle.scene_json.specs.Named.{value_at}
use Rattle.scene_json.proofs.CallerLemmas.{quote-once}
use Rattle.elem.specs.ElementValue.{ElementValue}
use Rattle.elem.proofs.CallerLemmas.{object-once}
use Rattle.elem_store.specs.Updates.{AreBest}
use Rattle.elem_store.proofs.CallerLemmas.{store-unique, stores-converge, AreStored-from_best}
use Rattle.file_table.specs.Picture.{HasData, HasUrl, IsDataUrl, IsPictureSize}
use Rattle.file_table.specs.References.{referred_files}
use Rattle.file_table.proofs.CallerLemmas.{content-unique}
use Rattle.scene_file.specs.Heads.{Heading, IsJoinedHead}
use Rattle.scene_file.specs.Scenes.{state_text}
use Rattle.scene_file.specs.Texts.{IsSceneText}
use Rattle.scene_file.specs.declared.layout.Layout.{Layout}
use Rattle.scene_file.specs.declared.scene.Scene.{Scene}
use Rattle.scene_file.proofs.CallerLemmas.{fault-once, fault-none, head-once, joined-moved, text-once}
use Rattle.session.specs.Printed.{IsReportText}
use Rattle.session.proofs.CallerLemmas.{report-once}
use Rattle.session_text.proofs.CallerLemmas.{session-once, fault-once as session-fault-once, fault-apart-session as session-none}
use Rattle.commands.specs.Answers.{IsAnswer, IsReplayed, IsSessionRefusal, session_refusal, IsShownAs, IsStoredAs, HasPictures, IsOneRefusal, IsRefusal, IsMadeOf, HaveSameUpdatesAndHeads}
use Rattle.commands.specs.Boards.{IsBoardOf, heads_of, updates_of, shown_of}
use Rattle.commands.specs.Faults.{newline}
use Rattle.commands.specs.Input.{HasScenes}
use Rattle.commands.specs.Pictures.{AreLines, IsToldOfPicture}
use Rattle.commands.specs.Pictures.IsToldOfPicture.{size, not_base64, no_data_url}
use Rattle.commands.specs.declared.status.InputRefusal.{InputRefusal}
use Rattle.commands.specs.declared.status.InputRefusal.TheVariants as refusal
use Rattle.commands.specs.declared.words.ProgramCommand.{ProgramCommand}
use Rattle.commands.specs.declared.words.ProgramCommand.TheVariants.{Restore, Merge, State, Pictures, Replay, Recover, Paste, Library, Insert, Check}
use Rattle.commands.proofs.CheckedInputs.{check-once}
use Rattle.commands.proofs.Reread.{scenes-whole, heads-whole, updates-elements}
use Rattle.commands.proofs.JournalOnce.{recovered-once}
use Rattle.commands.proofs.PasteOnce.{pasted-once}
use Rattle.commands.proofs.ShelfOnce.{shelf-once}
use Rattle.commands.proofs.InsertOnce.{inserted-once}
use Rattle.commands.proofs.Inputs.{input-once, faulty-once, faulty-scenes, extra-scene, extra-once}

-- ---- the board of scenes
stored-once : {scenes : List Scene} {head other : Heading} {stored news : List ElementValue}
    → IsBoardOf scenes head stored → IsBoardOf scenes other news
    → (head ≡ other) × (stored ≡ news)
stored-once a b = (head-once a.joined b.joined, store-unique _ _ _ a.stores b.stores)

scene-same : (layout : Layout) (head other : Heading) (stored news : List ElementValue) (a b : List ℕ) → head ≡ other
    → stored ≡ news
    → IsSceneText layout head (shown_of stored) a → IsSceneText layout other (shown_of news) b → a ≡ b
scene-same layout head other stored news a b same kept first second =
    text-once layout other (shown_of news) a b (subst (λ h. IsSceneText layout h (shown_of news) a) same
    (subst (λ s. IsSceneText layout head (shown_of s) a) kept first)) second

shown-once : {scenes : List Scene} {layout : Layout} {text other : List ℕ} → IsShownAs scenes layout text
    → IsShownAs scenes layout other → text ≡ other
shown-once {layout = layout} a b =
    let same = stored-once a.board b.board in
    a.ended
    ∙ (ap (λ t. t ++ newline) (scene-same layout a.head b.head a.stored b.stored a.written b.written same.0 same.1
    a.scene b.scene) ∙ sym b.ended)

state-once : {scenes : List Scene} {text other : List ℕ} → IsStoredAs scenes text → IsStoredAs scenes other
    → text ≡ other
state-once a b =
    let same = stored-once a.board b.board in
    a.is_state ∙ (ap₂ (λ h s. state_text h s ++ newline) same.0 same.1 ∙ sym b.is_state)

-- ---- lines on pictures
url-once : (entry url other : List ℕ) → HasUrl entry url → HasUrl entry other → url ≡ other
url-once entry url other a b =
    let members = object-once a.members b.members a.are_members b.are_members (sym a.object ∙ b.object) in
    let both : Some (quote url) ≡ Some (quote other) =
    sym a.named ∙ (ap (value_at (codes "dataURL")) members ∙ b.named) in
    quote-once url other a.text b.text (cc)

data-once : (entry content other : List ℕ) → HasData entry content → HasData entry other → content ≡ other
data-once entry content other a b =
    content-unique b.url content other (subst (λ u. IsDataUrl u content)
    (url-once entry a.url b.url a.has_url b.has_url) a.is_data_url) b.is_data_url

size-once : (entry : List ℕ) (n m : ℕ) → IsPictureSize entry n → IsPictureSize entry m → n ≡ m
size-once entry n m p q =
    let text = data-once entry p.text q.text p.has_data q.has_data in
    let both : Ok p.bytes ≡ Ok q.bytes = sym p.decoded ∙ (ap (decode_of standard) text ∙ q.decoded) in
    let bytes : p.bytes ≡ q.bytes = cc in
    p.size_is ∙ (ap length bytes ∙ sym q.size_is)

told-once : (entry a b : List ℕ) → IsToldOfPicture entry a → IsToldOfPicture entry b → a ≡ b
told-once entry a b (size n p) (size m q) = ap decimal (size-once entry n m p q)
told-once entry a b (size n p) (not_base64 content data' fails) = absurd (fails n p)
told-once entry a b (size n p) (no_data_url none) = absurd (none p.text p.has_data)
told-once entry a b (not_base64 content data' fails) (size m q) = absurd (fails m q)
told-once entry a b (not_base64 content data' fails) (not_base64 other also fails_too) = refl
told-once entry a b (not_base64 content data' fails) (no_data_url none) = absurd (none content data')
told-once entry a b (no_data_url none) (size m q) = absurd (none q.text q.has_data)
told-once entry a b (no_data_url none) (not_base64 other also fails_too) = absurd (none other also)
told-once entry a b (no_data_url none) (no_data_url also) = refl

lines-once : (files : List Pair) (text other : List ℕ) → AreLines files text → AreLines files other → text ≡ other
lines-once [] text other a b = a ∙ sym b
lines-once (file ∷ files) text other (told, rest, is, more, made) (words, after, also, others, same) =
    let told-same = told-once file.1 told words is also in
    let rest-same = lines-once files rest after more others in
    made ∙ (ap₂ (λ t r. quote file.0 ++ (codes " " ++ (t ++ (newline ++ r)))) told-same rest-same ∙ sym same)

pictures-once : {scenes : List Scene} {text other : List ℕ} → HasPictures scenes text → HasPictures scenes other
    → text ≡ other
pictures-once {other = other} a b =
    let same = stored-once a.board b.board in
    let files : referred_files a.head.files (shown_of a.stored) ≡ referred_files b.head.files (shown_of b.stored) =
    ap₂ (λ (h : Heading) s. referred_files h.files (shown_of s)) same.0 same.1 in
    lines-once _ _ _ a.lines (subst (λ fs. AreLines fs other) (sym files) b.lines)

-- ---- faults
refusal-once : (bytes : List ℕ) (f g : InputRefusal) → IsRefusal bytes f → IsRefusal bytes g → f ≡ g
refusal-once bytes f g (number, found, is, faulty) (other, why, also, wrong) =
    let same = faulty-once bytes number other found why faulty wrong in
    is ∙ (ap₂ refusal.Text same.0 same.1 ∙ sym also)

pub refusal-none : (bytes : List ℕ) (f : InputRefusal) (scenes : List Scene) → IsRefusal bytes f
    → HasScenes bytes scenes → ⊥
refusal-none bytes f scenes (number, found, is, faulty) has = faulty-scenes bytes number found scenes faulty has

-- a refusal of what is to be one scene: for its text, or for what follows it
one-once : (bytes : List ℕ) (f g : InputRefusal) → IsOneRefusal bytes f → IsOneRefusal bytes g → f ≡ g
one-once bytes f g (inl (found, is, at)) (inl (other, also, too)) =
    is ∙ (ap (refusal.Text 1) (fault-once bytes 0 found other at too) ∙ sym also)
one-once bytes f g (inl (found, is, at)) (inr (place, also, e)) = absurd (fault-none bytes 0 found at e.lead)
one-once bytes f g (inr (place, is, e)) (inl (found, also, at)) = absurd (fault-none bytes 0 found at e.lead)
one-once bytes f g (inr (place, is, e)) (inr (other, also, d)) =
    is ∙ (ap refusal.Extra (extra-once bytes place other e d) ∙ sym also)

one-none : (bytes : List ℕ) (f : InputRefusal) (scene : Scene) → IsOneRefusal bytes f → HasScenes bytes (scene ∷ []) → ⊥
one-none bytes f scene (inl (found, is, at)) has = fault-none bytes 0 found at has.lead.1
one-none bytes f scene (inr (place, is, e)) has = extra-scene bytes place scene e has

-- ---- sessions
replay-refusal-once : (bytes : List ℕ) (f g : InputRefusal) → IsSessionRefusal bytes f → IsSessionRefusal bytes g
    → f ≡ g
replay-refusal-once bytes f g (fault, is, at) (other, also, too) =
    is ∙ (ap session_refusal (session-fault-once bytes fault other at too) ∙ sym also)

replayed-none : (bytes text : List ℕ) (f : InputRefusal) → IsReplayed bytes text → IsSessionRefusal bytes f → ⊥
replayed-none bytes text f replayed (fault, is, at) = session-none bytes replayed.session fault replayed.read at

replayed-once : (bytes text other : List ℕ) → IsReplayed bytes text → IsReplayed bytes other → text ≡ other
replayed-once bytes text other a b =
    let same = session-once bytes a.session b.session a.read b.read in
    a.ended
    ∙ (ap (λ t. t ++ newline) (report-once b.session a.written b.written
    (subst (λ s. IsReportText s a.written) same a.report) b.report) ∙ sym b.ended)

-- ---- answers
made-once : (IsOf : List Scene → List ℕ → Type 0) (bytes text other : List ℕ)
    → ((scenes : List Scene) → IsOf scenes text → IsOf scenes other → text ≡ other) → IsMadeOf IsOf bytes text
    → IsMadeOf IsOf bytes other → text ≡ other
made-once IsOf bytes text other once (scenes, has, is) (others, also, too) =
    once scenes is (subst (λ s. IsOf s other) (input-once bytes others scenes also has) too)

made-none : (IsOf : List Scene → List ℕ → Type 0) (bytes text : List ℕ) (f : InputRefusal) → IsMadeOf IsOf bytes text
    → IsRefusal bytes f → ⊥
made-none IsOf bytes text f (scenes, has, is) refused = refusal-none bytes f scenes refused has

pub answer-once : (command : ProgramCommand) (bytes : List ℕ) (answer other : Result (List ℕ) InputRefusal)
    → IsAnswer command bytes answer → IsAnswer command bytes other → answer ≡ other
answer-once (Restore layout) bytes (Ok a) (Ok b) (scene, has, is) (next, also, too) =
    ap Ok (shown-once is (subst (λ s. IsShownAs s layout b) (input-once bytes (next ∷ []) (scene ∷ []) also has) too))
answer-once (Restore layout) bytes (Ok a) (Err g) (scene, has, is) also = absurd (one-none bytes g scene also has)
answer-once (Restore layout) bytes (Err f) (Ok b) is (scene, has, too) = absurd (one-none bytes f scene is has)
answer-once (Restore layout) bytes (Err f) (Err g) is also = ap Err (one-once bytes f g is also)
answer-once (Merge layout) bytes (Ok a) (Ok b) is also =
    ap Ok (made-once (λ s. IsShownAs s layout) bytes a b (λ s. shown-once) is also)
answer-once (Merge layout) bytes (Ok a) (Err g) is also = absurd (made-none (λ s. IsShownAs s layout) bytes a g is also)
answer-once (Merge layout) bytes (Err f) (Ok b) is also = absurd (made-none (λ s. IsShownAs s layout) bytes b f also is)
answer-once (Merge layout) bytes (Err f) (Err g) is also = ap Err (refusal-once bytes f g is also)
answer-once State bytes (Ok a) (Ok b) is also = ap Ok (made-once IsStoredAs bytes a b (λ s. state-once) is also)
answer-once State bytes (Ok a) (Err g) is also = absurd (made-none IsStoredAs bytes a g is also)
answer-once State bytes (Err f) (Ok b) is also = absurd (made-none IsStoredAs bytes b f also is)
answer-once State bytes (Err f) (Err g) is also = ap Err (refusal-once bytes f g is also)
answer-once Pictures bytes (Ok a) (Ok b) is also = ap Ok (made-once HasPictures bytes a b (λ s. pictures-once) is also)
answer-once Pictures bytes (Ok a) (Err g) is also = absurd (made-none HasPictures bytes a g is also)
answer-once Pictures bytes (Err f) (Ok b) is also = absurd (made-none HasPictures bytes b f also is)
answer-once Pictures bytes (Err f) (Err g) is also = ap Err (refusal-once bytes f g is also)
answer-once Replay bytes (Ok a) (Ok b) is also = ap Ok (replayed-once bytes a b is also)
answer-once Replay bytes (Ok a) (Err g) is also = absurd (replayed-none bytes a g is also)
answer-once Replay bytes (Err f) (Ok b) is also = absurd (replayed-none bytes b f also is)
answer-once Replay bytes (Err f) (Err g) is also = ap Err (replay-refusal-once bytes f g is also)
answer-once (Recover form) bytes a b is also = recovered-once form bytes a b is also
answer-once (Paste prefix) bytes a b is also = pasted-once prefix bytes a b is also
answer-once Library bytes a b is also = shelf-once bytes a b is also
answer-once (Insert insertion) bytes a b is also = inserted-once insertion bytes a b is also
answer-once Check bytes a b is also = check-once (λ f g bytes. refusal-once bytes f g) bytes a b is also

-- ---- convergence
pub merges-converge : (layout : Layout) (bytes others text other_text : List ℕ) → HaveSameUpdatesAndHeads bytes others
    → IsAnswer (Merge layout) bytes (Ok text) → IsAnswer (Merge layout) others (Ok other_text) → other_text ≡ text
merges-converge layout bytes others text other_text h (scenes, has, a) (news, also, b) =
    let mine = subst (λ s. IsShownAs s layout text) (input-once bytes scenes h.scenes has h.bytes_hold) a in
    let theirs =
    subst (λ s. IsShownAs s layout other_text) (input-once others news h.other_scenes also h.others_hold) b in
    let heads = heads-whole h.scenes (scenes-whole bytes h.scenes h.bytes_hold) in
    let head = head-once theirs.board.joined (joined-moved (heads_of h.scenes) (heads_of h.other_scenes) mine.head heads
    h.same_heads mine.board.joined) in
    let kept = sym (stores-converge (updates_of h.scenes) (updates_of h.other_scenes) mine.stored theirs.stored h.same
    (updates-elements bytes h.scenes h.bytes_hold) mine.board.stores theirs.board.stores) in
    theirs.ended
    ∙ (ap (λ t. t ++ newline) (scene-same layout theirs.head mine.head theirs.stored mine.stored theirs.written
    mine.written head kept theirs.scene mine.scene) ∙ sym mine.ended)

pub merge-of-best : (layout : Layout) (bytes text : List ℕ) (scenes : List Scene) (head : Heading)
    (chosen : List ElementValue)
    → HasScenes bytes scenes → IsJoinedHead (heads_of scenes) head → AreBest (updates_of scenes) chosen
    → IsAnswer (Merge layout) bytes (Ok text) → (written : List ℕ) × IsSceneText layout head (shown_of chosen) written
    × (text ≡ written ++ newline)
merge-of-best layout bytes text scenes head chosen has joined best (others, also, a) =
    let mine = subst (λ s. IsShownAs s layout text) (input-once bytes others scenes also has) a in
    let kept = store-unique _ mine.stored chosen mine.board.stores
    (AreStored-from_best (updates_of scenes) chosen (updates-elements bytes scenes has) best) in
    let same = head-once mine.board.joined joined in (
      mine.written,
      subst (λ h. IsSceneText layout h (shown_of chosen) mine.written) same
          (subst (λ s. IsSceneText layout mine.head (shown_of s) mine.written) kept mine.scene),
      mine.ended,
    )
