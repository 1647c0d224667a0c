-- The texts that a reader of scenes has read, and what stops it.
use Rattle.std.proofs.Common.{◌≡◌, ◌⊎◌, inl, inr, ℕ, ◌+◌, ◌≤◌, ◌==◌, List, [], ◌∷◌, ◌++◌, true, false, refl, sym, ap, subst, ◌∙◌, length, drop, arith, length-drop, length-append, append-nil, Option, None, Some}
use Rattle.std.specs.Prelude.{is_some}
use Rattle.std.proofs.lemmas.List.{map-append}
use Rattle.std.proofs.lemmas.Grind.{flat_map-append}
use Rattle.std.proofs.lemmas.Bool.{false≢true}
use Rattle.std.proofs.lemmas.Bool.Decides.{nat_tests}
use Rattle.json_text.specs.Characters.{is_blank}
use Rattle.input_texts.specs.Texts.{TextsLead, HasTexts, IsStopped}
use Rattle.input_texts.specs.declared.reading.Stopped.{Stopped}
use Rattle.input_texts.specs.declared.reading.Stopped.TheVariants.{Faulty, Refused, Extra}
use Rattle.elem.specs.ElementValue.{ElementValue}
use Rattle.elem_store.specs.Updates.{AreStored, stored_of}
use Rattle.commands.specs.Answers.{IsOneRefusal, IsRefusal}
use Rattle.commands.specs.Boards.{IsBoardOf, heads_of, updates_of}
use Rattle.commands.specs.inner.Readers.{SayScenes, SayBoard, AreJoined, BoardSoFar, HeadsSoFar, board_seen, one_seen, listed, refusal_of}
use Rattle.commands.specs.Input.{ScenesLead, HasScenes}
use Rattle.scene_file.specs.Heads.{Heading, IsJoinedHead}
use Rattle.scene_file.specs.Reading.{IsSceneOf, IsSceneAt, IsSceneFaultAt}
use Rattle.scene_file.specs.declared.scene.Scene.{Scene}
use Rattle.scene_file.specs.declared.fault.SceneFault.{SceneFault}
use Rattle.scene_file.specs.declared.fault.SceneFault.TheVariants.{Json}
use Rattle.scene_file.proofs.CallerLemmas.{fault-at}

pub say-more : (texts : List (List ℕ)) (scenes : List Scene) (text : List ℕ) (scene : Scene) → SayScenes texts scenes
    → IsSceneOf text scene → SayScenes (texts ++ text ∷ []) (scenes ++ scene ∷ [])
say-more [] [] text scene say is = (is, tt)
say-more [] (first ∷ scenes) text scene say is = absurd say
say-more (first ∷ texts) [] text scene say is = absurd say
say-more (first ∷ texts) (one ∷ scenes) text scene (says, say) is = (says, say-more texts scenes text scene say is)

scenes-lead : (bytes rest : List ℕ) (texts : List (List ℕ)) (scenes : List Scene) → SayScenes texts scenes
    → TextsLead bytes texts rest → ScenesLead bytes scenes rest
scenes-lead bytes rest [] [] say lead = lead
scenes-lead bytes rest [] (scene ∷ scenes) say lead = absurd say
scenes-lead bytes rest (text ∷ texts) [] say lead = absurd say
scenes-lead bytes rest (text ∷ texts) (scene ∷ scenes) (is, say) (next, stands, lead) =
    (next, record { text = text; stands = stands; says = is }, scenes-lead next rest texts scenes say lead)

-- ---- the board so far
nothing-stored : AreStored [] []
unfolding stored_of
nothing-stored = record { ordered = refl; each = λ id. refl }

pub nothing-said : (heads : HeadsSoFar) (stored : List ElementValue) → AreJoined [] heads → stored ≡ []
    → SayBoard [] (record { heads = heads; stored = stored; next = 1 })
nothing-said heads stored none empty = record {
  scenes = [];
  say = tt;
  joined = none;
  stores = subst (AreStored []) (sym empty) nothing-stored;
  counted = refl;
}

heads-more : (scenes : List Scene) (scene : Scene) → heads_of (scenes ++ scene ∷ []) ≡ heads_of scenes ++ scene.head
    ∷ []
heads-more scenes scene = map-append (λ (s : Scene). s.head) scenes (scene ∷ [])

updates-more : (scenes : List Scene) (scene : Scene) → updates_of (scenes ++ scene ∷ []) ≡ updates_of scenes
    ++ scene.elements
updates-more scenes scene =
    flat_map-append (λ (s : Scene). s.elements) scenes (scene ∷ [])
    ∙ ap (λ es. updates_of scenes ++ es) (append-nil scene.elements)

pub board-more : (texts : List (List ℕ)) (text : List ℕ) (scene : Scene) (old new : BoardSoFar) → SayBoard texts old
    → IsSceneOf text scene
    → ((heads : List Heading) → AreJoined heads old.heads → AreJoined (heads ++ scene.head ∷ []) new.heads)
    → ((updates : List ElementValue) → AreStored updates old.stored → AreStored (updates ++ scene.elements) new.stored)
    → new.next ≡ old.next + 1 → SayBoard (texts ++ text ∷ []) new
board-more texts text scene old new read is joins stores counted = record {
  scenes = read.scenes ++ scene ∷ [];
  say = say-more texts read.scenes text scene read.say is;
  joined = subst (λ hs. AreJoined hs new.heads) (sym (heads-more read.scenes scene))
      (joins (heads_of read.scenes) read.joined);
  stores = subst (λ us. AreStored us new.stored) (sym (updates-more read.scenes scene))
      (stores (updates_of read.scenes) read.stores);
  counted = omega (arith, counted, read.counted, length-append read.scenes (scene ∷ []));
}

none-listed : (scenes : List Scene) (next : ℕ) → next ≡ length scenes + 1 → (next == 1) ≡ true → scenes ≡ []
none-listed [] next counted first = refl
none-listed (scene ∷ scenes) next counted first = absurd (omega (arith, counted, one-of next first))
  where
    one-of : (n : ℕ) → (n == 1) ≡ true → n ≡ 1
    one-of n e = grind (arith, nat_tests)

some-listed : (scenes : List Scene) (next : ℕ) → next ≡ length scenes + 1 → (next == 1) ≡ false → scenes ≡ [] → ⊥
some-listed scenes next counted later none =
    false≢true (sym later ∙ ap (λ n. n == 1) (counted ∙ ap (λ (xs : List Scene). length xs + 1) none))

-- a reader of one scene that is open has read no text
pub one-open : (scene : Option Scene) (texts : List (List ℕ)) → is_some scene ≡ false → SayScenes texts (listed scene)
    → texts ≡ []
one-open None [] takes say = refl
one-open None (text ∷ texts) takes say = absurd say
one-open (Some scene) texts takes say = absurd (false≢true (sym takes))

-- ---- the board of scenes, one at least
pub board-read : (bytes : List ℕ) (so_far : BoardSoFar) (head : Heading) → HasTexts bytes (board_seen so_far)
    → ((heads : List Heading) → AreJoined heads so_far.heads → IsJoinedHead heads head)
    → (scenes : List Scene) × HasScenes bytes scenes × IsBoardOf scenes head so_far.stored
board-read bytes so_far head h is =
    let read = h.behind.read in (
      read.scenes,
      record {
        some = some-listed read.scenes so_far.next read.counted h.enough;
        rest = drop h.start bytes;
        lead = scenes-lead bytes (drop h.start bytes) h.texts read.scenes read.say h.behind.lead;
        space = h.space;
      },
      record { joined = is (heads_of read.scenes) read.joined; stores = read.stores },
    )

begun-at : (bytes : List ℕ) (scenes : List Scene) (next start : ℕ) → next ≡ length scenes + 1 → ((next == 1) ≡ true)
    ⊎ (is_blank (drop start bytes) ≡ false)
    → (scenes ≡ []) ⊎ (is_blank (drop start bytes) ≡ false)
begun-at bytes scenes next start counted (inl needs) = inl (none-listed scenes next counted needs)
begun-at bytes scenes next start counted (inr more) = inr more

pub board-refused : (bytes : List ℕ) (so_far : BoardSoFar) (stopped : Stopped SceneFault)
    → IsStopped bytes (board_seen so_far) stopped → IsRefusal bytes (refusal_of so_far.next stopped)
board-refused bytes so_far (Faulty fault) h =
    let read = h.behind.read in (
      so_far.next,
      Json fault,
      refl,
      record {
        scenes = read.scenes;
        start = h.start;
        within = h.behind.within;
        lead = scenes-lead bytes (drop h.start bytes) h.texts read.scenes read.say h.behind.lead;
        counted = read.counted;
        begun = begun-at bytes read.scenes so_far.next h.start read.counted h.begun;
        faulty = h.faulty;
      },
    )
board-refused bytes so_far (Refused fault) h =
    let read = h.refused.0 in (
      so_far.next,
      fault,
      refl,
      record {
        scenes = read.scenes;
        start = h.start;
        within = h.within;
        lead = scenes-lead bytes (drop h.start bytes) h.texts read.scenes read.say h.lead;
        counted = read.counted;
        begun = inr h.begun;
        faulty = fault-at bytes h.start h.text h.rest fault h.stands h.refused.1;
      },
    )
board-refused bytes so_far (Extra place) h = absurd (false≢true h.full)

-- ---- one scene
pub one-read : (bytes : List ℕ) (scene : Scene) → HasTexts bytes (one_seen (Some scene)) → HasScenes bytes (scene ∷ [])
one-read bytes scene h = record {
  some = λ none. cc;
  rest = drop h.start bytes;
  lead = scenes-lead bytes (drop h.start bytes) h.texts (scene ∷ []) h.behind.read h.behind.lead;
  space = h.space;
}

-- the offset behind no text is the first
at-front : (bytes : List ℕ) (texts : List (List ℕ)) (start : ℕ) → start ≤ length bytes → texts ≡ []
    → TextsLead bytes texts (drop start bytes) → start ≡ 0
at-front bytes texts start within none lead =
    let same : bytes ≡ drop start bytes = subst (λ ts. TextsLead bytes ts (drop start bytes)) none lead in
    omega (arith, within, ap length same, length-drop start bytes)

no-texts : (texts : List (List ℕ)) → SayScenes texts [] → texts ≡ []
no-texts [] say = refl
no-texts (text ∷ texts) say = absurd say

pub one-refused : (bytes : List ℕ) (scene : Option Scene) (stopped : Stopped SceneFault)
    → IsStopped bytes (one_seen scene) stopped → IsOneRefusal bytes (refusal_of 1 stopped)
one-refused bytes None (Faulty fault) h =
    let front = at-front bytes h.texts h.start h.behind.within (no-texts h.texts h.behind.read) h.behind.lead in
    inl (Json fault, refl, subst (λ at. IsSceneFaultAt bytes at (Json fault)) front h.faulty)
one-refused bytes (Some scene) (Faulty fault) h = absurd (false≢true (sym h.takes))
one-refused bytes scene (Refused fault) h =
    let front = at-front bytes h.texts h.start h.within h.refused.0 h.lead in
    inl (
      fault,
      refl,
      subst (λ at. IsSceneFaultAt bytes at fault) front
          (fault-at bytes h.start h.text h.rest fault h.stands h.refused.1),
    )
one-refused bytes None (Extra place) h = absurd (false≢true h.full)
one-refused bytes (Some scene) (Extra place) h =
    let lead = scenes-lead bytes (drop h.start bytes) h.texts (scene ∷ []) h.behind.read h.behind.lead in
    inr (
      place,
      refl,
      record {
        scene = scene;
        after = h.start;
        lead = subst (IsSceneAt bytes scene) lead.2 lead.1;
        behind = h.is_first;
        more = h.more;
      },
    )

-- a text behind others isn't the first
pub later-number : (n m : ℕ) → n ≡ m + 1 → 1 ≤ m → (n == 1) ≡ false
later-number n m next some = grind (arith, nat_tests)
