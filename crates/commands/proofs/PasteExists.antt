-- Every input is answered with a text into which a clip is pasted, or refused.
use Rattle.std.proofs.Common.{◌≡◌, inl, inr, ℕ, List, [], ◌∷◌, ◌++◌, All, Option, Some, None, IfSome, Result, Ok, Err, true, length, refl, sym, ap, subst, zero, suc, slice_get, option_and_then}
use Rattle.std.specs.Str.{IsUtf8}
use Rattle.std.proofs.lemmas.List.{append-nil}
use Rattle.json_text.specs.Compact.{Member as Pair}
use Rattle.json_text.specs.Members.{pairs}
use Rattle.json_text.proofs.CallerLemmas.{Value-compact}
use Rattle.elem.specs.ElementValue.{ElementValue}
use Rattle.elem.proofs.CallerLemmas.{AreKept, IsKept, AllByRecursion-append}
use Rattle.elem_store.proofs.CallerLemmas.{stored-exist}
use Rattle.file_table.specs.Table.{AreLeastEntries}
use Rattle.file_table.proofs.CallerLemmas.{files-exist, AreLeastEntries-none}
use Rattle.frac_keys.specs.Keys.{is_key}
use Rattle.frac_keys.specs.Between.{keys_between}
use Rattle.index_repair.specs.Keyed.{index_of}
use Rattle.index_repair.proofs.CallerLemmas.{keyed-kept}
use Rattle.scene_file.specs.Heads.{Heading}
use Rattle.scene_file.specs.declared.layout.Layout.TheVariants.{Compact}
use Rattle.scene_file.specs.declared.scene.Scene.{Scene}
use Rattle.scene_file.proofs.CallerLemmas.{AllFit, HasText, IsFit, all-sound, heads-fit, joined-exists, joined-fits, stored-kept, updates-kept, fit-members}
use Rattle.clips.specs.Clips.{IsClipOf}
use Rattle.copies.specs.Copies.{copies_of}
use Rattle.board_paste.specs.Pasting.{IsClipHead, first_stored, last_key, pasted}
use Rattle.clips.specs.declared.clip.Clip.{Clip}
use Rattle.clips.proofs.CallerLemmas.{clip-files, clip-or-fault, clip-whole, copies-whole}
use Rattle.elem_read.specs.Reading.{IsWholeElement}
use Rattle.frac_keys.specs.Rising.{is_key_or_none}
use Rattle.frac_keys.proofs.CallerLemmas.{keys_between-law, ends_rise-none}
use Rattle.view.specs.Shown.{live_elements, shown}
use Rattle.view.proofs.CallerLemmas.{live-kept, shown-kept}
use Rattle.commands.specs.Answers.{IsAnswer}
use Rattle.commands.specs.Boards.{IsBoardOf, heads_of, updates_of}
use Rattle.commands.specs.Fronts.{HasFront}
use Rattle.commands.specs.Pastes.{IsPastedAs}
use Rattle.commands.specs.Words.{is_name}
use Rattle.commands.specs.declared.status.InputRefusal.{InputRefusal}
use Rattle.commands.specs.declared.status.InputRefusal.TheVariants as refusal
use Rattle.commands.specs.declared.words.ProgramCommand.TheVariants.{Paste}
use Rattle.commands.proofs.FrontExists.{front-exists}
use Rattle.commands.proofs.Names.{name-utf8}
use Rattle.commands.proofs.Shows.{scene-exists, wholes-kept}

-- ---- what is pasted

key-or-none : (index : Option (List ℕ)) → IfSome index (λ k. is_key k ≡ true) → is_key_or_none index ≡ true
key-or-none None is = refl
key-or-none (Some key) is = is

nth-key : (es : List ElementValue) (n : ℕ) → AreKept es → is_key_or_none (option_and_then index_of (slice_get es n))
    ≡ true
nth-key [] n all = refl
nth-key (e ∷ es) zero all = key-or-none e.index all.0.written.index
nth-key (e ∷ es) (suc n) all = nth-key es n all.1

pasted-kept : (stored elements : List ElementValue) (prefix : List ℕ) → IsUtf8 prefix → AreKept stored
    → All IsWholeElement elements → AreKept (pasted stored elements prefix)
unfolding pasted
pasted-kept stored elements prefix utf8 all whole =
    let low = last_key (shown (live_elements stored)) in
    let copies = copies_of elements prefix in
    let law = keys_between-law low None (length copies)
    (nth-key (shown (live_elements stored)) _ (shown-kept (live_elements stored) (live-kept stored all))) refl
    (ends_rise-none low) in
    keyed-kept copies (keys_between low None (length copies)) law.are_keys
    (wholes-kept copies (copies-whole elements prefix utf8 whole))

-- the head that has these files alone
own-head : (entries : List Pair) → (own : Heading) × IsClipHead entries own
own-head entries =
    let files = files-exist entries in (
      record { source = None; app_state = []; files = files.0 },
      record { source = refl; app_state = refl; files = files.1 },
    )

own-fits : (entries : List Pair) (own : Heading) → AllFit entries → IsClipHead entries own → IsFit own
own-fits entries own all is =
    let given : Heading = record { source = None; app_state = []; files = entries } in
    joined-fits (given ∷ []) own (record { source = tt; settings = tt; files = all }, tt) (record {
      source = is.source;
      app_state =
          subst (λ (state : List Pair). AreLeastEntries [] state) (sym (ap pairs is.app_state)) AreLeastEntries-none;
      files = subst (λ (es : List Pair). AreLeastEntries es own.files) (sym (append-nil entries)) is.files;
    })

pub pasted_as-exists : (prefix : List ℕ) (scene : Scene) (clip : Clip) (old : Heading) (stored : List ElementValue)
    → IsUtf8 prefix → HasText scene → All IsWholeElement clip.elements
    → AllFit (pairs clip.files) → IsBoardOf (scene ∷ []) old stored
    → first_stored stored (copies_of clip.elements prefix) clip.places ≡ None → (text : List ℕ)
    × IsPastedAs prefix scene clip text
pasted_as-exists prefix scene clip old stored utf8 read whole files board new =
    let sound = all-sound (scene ∷ []) (read, tt) in
    let updates = updates-kept (scene ∷ []) sound in
    let kept = stored-kept (updates_of (scene ∷ [])) stored updates board.stores in
    let copies = pasted-kept stored clip.elements prefix utf8 kept whole in
    let own = own-head (pairs clip.files) in
    let heads = heads_of (scene ∷ []) ++ own.0 ∷ [] in
    let head = joined-exists heads in
    let fit = joined-fits heads head.0 (
      (heads-fit (scene ∷ []) sound).0,
      (own-fits (pairs clip.files) own.0 files own.1, tt),
    ) head.1 in
    let taken = updates_of (scene ∷ []) ++ pasted stored clip.elements prefix in
    let all = stored-exist taken in
    let shows = scene-exists Compact head.0 all.0 fit head.1.app_state.ordered
    (stored-kept taken all.0 (AllByRecursion-append IsKept (updates_of (scene ∷ []))
    (pasted stored clip.elements prefix) updates copies) all.1) all.1.ordered in (
      shows.0,
      record {
        old = old;
        stored = stored;
        board = board;
        new = new;
        own = own.0;
        own_files = own.1;
        head = head.0;
        joined = head.1;
        all = all.0;
        stores = all.1;
        shown = shows.1;
      },
    )

-- the board of one scene
pub scene-board : (scene : Scene) → (head : Heading) × (stored : List ElementValue) × IsBoardOf (scene ∷ []) head stored
scene-board scene =
    let head = joined-exists (heads_of (scene ∷ [])) in
    let stored = stored-exist (updates_of (scene ∷ [])) in
    (head.0, stored.0, record { joined = head.1; stores = stored.1 })

-- ---- answers
module _ (prefix bytes : List ℕ) (names : is_name prefix ≡ true) where
  abbrev IsAnswered : Type 0
  IsAnswered = (answer : Result (List ℕ) InputRefusal) × IsAnswer (Paste prefix) bytes answer

  with-clip : (scene : Scene) (text : List ℕ) (more : Option ℕ) → HasFront bytes scene text more → (clip : Clip)
      → IsClipOf text clip → IsAnswered
  with-clip scene text (Some at) front clip is =
      (Err (refusal.Extra at), inl (inr (inr (at, refl, (scene, text, front, (clip, is))))))
  with-clip scene text None front clip is = by (first_stored board.1 (copies_of clip.elements prefix) clip.places) refl
    where
      board : (head : Heading) × (stored : List ElementValue) × IsBoardOf (scene ∷ []) head stored
      board = scene-board scene

      by : (place : Option ℕ) → first_stored board.1 (copies_of clip.elements prefix) clip.places ≡ place → IsAnswered
      by None new =
          let made = pasted_as-exists prefix scene clip board.0 board.1 (name-utf8 prefix names) (
            front.first.text,
            front.first.says,
          ) (clip-whole text clip is)
          (fit-members (pairs clip.files) (clip-files text clip is)) board.2 new in
          (Ok made.0, record { scene = scene; clip = clip; holds = (text, front, is); is = made.1 })
      by (Some place) exists = (
        Err (refusal.Exists place),
        inr (
          place,
          refl,
          record {
            scene = scene;
            clip = clip;
            holds = (text, front, is);
            is = record { head = board.0; stored = board.1; board = board.2; exists = exists };
          },
        ),
      )

  pub pasted-exists : IsAnswered
  pasted-exists = elim (front-exists bytes) [
    | inr (found, is) ↦ (Err found, inl (inl is))
    | inl (scene, text, more, front) ↦ elim (clip-or-fault text (Value-compact front.second.reads)) [
      | inl (clip, is) ↦ with-clip scene text more front clip is
      | inr (fault, is) ↦ (Err (refusal.Clip fault), inl (inr (inl (scene, text, more, front, (fault, refl, is)))))
    ]
  ]
