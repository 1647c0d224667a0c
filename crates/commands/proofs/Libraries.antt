-- The library of a library, of libraries and of the same items; and an item that is inserted is pasted as a clip.
use Rattle.std.proofs.Common.{◌≡◌, ◌≢◌, ◌↔◌, ℕ, ◌+◌, ◌≤◌, List, [], ◌∷◌, ◌++◌, None, Result, Ok, true, length, drop, refl, sym, ap, ◌∙◌, subst, subst₂, append-nil, append_assoc, length-append, arith}
use Rattle.std.specs.List.{concat}
use Rattle.std.proofs.Math.Seq.{drop-append_seam}
use Rattle.std.proofs.lemmas.List.Elements.{All-contains}
use Rattle.json_text.specs.Characters.{is_blank}
use Rattle.json_text.specs.Value.{Stands}
use Rattle.input_texts.specs.Texts.{TextsLead}
use Rattle.library.specs.Inserting.{clip_of, clip_text}
use Rattle.library.specs.Libraries.{HaveItems, IsLibraryOfAll}
use Rattle.library.specs.Reading.{IsLibraryOf, IsWholeItem}
use Rattle.library.specs.declared.item.Item.{Item}
use Rattle.library.proofs.CallerLemmas.{StandFor, Stands-behind_blank, best-stand, have-append, item-clip, library-own, library-same_items, library-stand, library-whole, object-before, object-first, stand-append, written-read}
use Rattle.scene_file.specs.declared.scene.Scene.{Scene}
use Rattle.scene_file.proofs.CallerLemmas.{scene-before}
use Rattle.commands.specs.Again.{AreAnswers}
use Rattle.commands.specs.Answers.{IsAnswer}
use Rattle.commands.specs.Faults.{newline}
use Rattle.commands.specs.Fronts.{HasFront}
use Rattle.commands.specs.Input.{HasScenes}
use Rattle.commands.specs.Libraries.{HasLibrary, HoldSameItems}
use Rattle.commands.specs.Pastes.{HasSceneAndClip}
use Rattle.commands.specs.Shelves.{HasSceneAndLibrary, HasTexts, IsBestOfId, IsShelved}
use Rattle.commands.specs.declared.status.InputRefusal.{InputRefusal}
use Rattle.commands.specs.declared.words.Insertion.{Insertion}
use Rattle.commands.specs.declared.words.ProgramCommand.TheVariants.{Insert, Library, Paste}
use Rattle.commands.proofs.InsertOnce.{item-inserted, of-item}
use Rattle.commands.proofs.PasteOnce.{clip-pasted, of-clip}
use Rattle.commands.proofs.ShelfExists.{shelf-answered}
use Rattle.commands.proofs.ShelfOnce.{shelved-once, texts-once}

-- ---- inputs one behind the other
leads-before : (bytes rest more : List ℕ) (texts : List (List ℕ)) (items : List Item) → HaveItems texts items
    → TextsLead bytes texts rest → TextsLead (bytes ++ more) texts (rest ++ more)
leads-before bytes rest more [] items have lead = ap (λ b. b ++ more) lead
leads-before bytes rest more (text ∷ texts) items (own, others, all, is, have) (next, stands, lead) = (
  next ++ more,
  object-before bytes text next more is.members is.object stands,
  leads-before next rest more texts others have lead,
)

leads-behind : (blank bytes rest : List ℕ) (texts : List (List ℕ)) → is_blank blank ≡ true → texts ≢ []
    → TextsLead bytes texts rest → TextsLead (blank ++ bytes) texts rest
leads-behind blank bytes rest [] space some lead = absurd (some refl)
leads-behind blank bytes rest (text ∷ texts) space some (next, stands, lead) =
    (next, Stands-behind_blank blank bytes text next space stands, lead)

leads-join : (bytes rest last : List ℕ) (texts others : List (List ℕ)) → TextsLead bytes texts rest
    → TextsLead rest others last → TextsLead bytes (texts ++ others) last
leads-join bytes rest last [] others lead more = subst (λ b. TextsLead b others last) (sym lead) more
leads-join bytes rest last (text ∷ texts) others (next, stands, lead) more =
    (next, stands, leads-join next rest last texts others lead more)

texts-some : (texts others : List (List ℕ)) → texts ≢ [] → texts ++ others ≢ []
texts-some [] others some e = some refl
texts-some (text ∷ texts) others some e = cc

texts-append : (bytes more : List ℕ) (texts others : List (List ℕ)) (items : List Item) → HaveItems texts items
    → HasTexts bytes texts → HasTexts more others → HasTexts (bytes ++ more) (texts ++ others)
texts-append bytes more texts others items have holds also = record {
  some = texts-some texts others holds.some;
  rest = also.rest;
  lead = leads-join (bytes ++ more) (holds.rest ++ more) also.rest texts others
      (leads-before bytes holds.rest more texts items have holds.lead)
      (leads-behind holds.rest more also.rest others holds.space also.some also.lead);
  space = also.space;
}

-- ---- the library of a library
-- what was written is one library text
written-holds : (bytes text : List ℕ) (is : IsShelved bytes text) → HasTexts text (is.written ∷ [])
written-holds bytes text is =
    let read = written-read is.texts is.written is.library in
    subst (λ t. HasTexts t (is.written ∷ [])) (sym is.ended) (record {
      some = λ e. cc;
      rest = newline;
      lead = (newline, object-first is.written newline read.members read.object, refl);
      space = refl;
    })

own-shelved : (bytes text : List ℕ) → IsShelved bytes text → IsShelved text text
own-shelved bytes text is = record {
  texts = is.written ∷ [];
  holds = written-holds bytes text is;
  written = is.written;
  library = library-own is.texts is.written is.library;
  ended = is.ended;
}

pub library-its_own : (bytes text other : List ℕ) → IsAnswer Library bytes (Ok text)
    → IsAnswer Library text (Ok other) ↔ (other ≡ text)
library-its_own bytes text other is =
    let own = own-shelved bytes text is in
    (λ also. shelved-once text other text also own, λ e. subst (IsShelved text) (sym e) own)

-- ---- the library of libraries
-- An input and a text hold library texts, and the items of the text stand for those of the input.
record Stand (input text : List ℕ) : Type 0 where
  pub texts : List (List ℕ)
  pub others : List (List ℕ)
  pub items : List Item
  pub news : List Item
  pub input_holds : HasTexts input texts
  pub text_holds : HasTexts text others
  pub have : HaveItems texts items
  pub read : HaveItems others news
  pub stand : StandFor news items

library-stands : (input text : List ℕ) → IsShelved input text → Stand input text
library-stands input text is = record {
  texts = is.texts;
  others = is.written ∷ [];
  items = is.library.items;
  news = is.library.best;
  input_holds = is.holds;
  text_holds = written-holds input text is;
  have = is.library.read;
  read = (
    is.library.best,
    [],
    sym (append-nil is.library.best),
    written-read is.texts is.written is.library,
    refl,
  );
  stand = best-stand is.library.items is.library.best is.library.are_best;
}

libraries-stand : (input text : List ℕ) (inputs texts : List (List ℕ)) → IsAnswer Library input (Ok text)
    → AreAnswers Library inputs texts → Stand (concat (input ∷ inputs)) (concat (text ∷ texts))
libraries-stand input text [] [] is are =
    subst₂ Stand (sym (append-nil input)) (sym (append-nil text)) (library-stands input text is)
libraries-stand input text [] (other ∷ texts) is are = absurd are
libraries-stand input text (more ∷ inputs) [] is are = absurd are
libraries-stand input text (more ∷ inputs) (other ∷ texts) is are =
    let first = library-stands input text is in
    let second = libraries-stand more other inputs texts are.0 are.1 in
    record {
      texts = first.texts ++ second.texts;
      others = first.others ++ second.others;
      items = first.items ++ second.items;
      news = first.news ++ second.news;
      input_holds = texts-append input (concat (more ∷ inputs)) first.texts second.texts first.items first.have
          first.input_holds second.input_holds;
      text_holds = texts-append text (concat (other ∷ texts)) first.others second.others first.news first.read
          first.text_holds second.text_holds;
      have = have-append first.texts second.texts first.items second.items first.have second.have;
      read = have-append first.others second.others first.news second.news first.read second.read;
      stand = stand-append first.items second.items first.news second.news first.stand second.stand;
    }

stand-shelved : (input text written : List ℕ) → Stand input text → IsShelved text written → IsShelved input written
stand-shelved input text written s is =
    let texts = texts-once text is.texts s.others is.library.items s.news is.holds is.library.read s.text_holds s.read in
    record {
      texts = s.texts;
      holds = s.input_holds;
      written = is.written;
      library = library-stand s.texts s.others s.items s.news is.written s.have s.read s.stand
          (subst (λ ts. IsLibraryOfAll ts is.written) texts is.library);
      ended = is.ended;
    }

pub libraries-stand_for : (inputs libraries : List (List ℕ)) (text : List ℕ) → AreAnswers Library inputs libraries
    → IsAnswer Library (concat libraries) (Ok text) ↔ IsAnswer Library (concat inputs) (Ok text)
libraries-stand_for [] [] text are = (λ is. is, λ is. is)
libraries-stand_for [] (library ∷ libraries) text are = absurd are
libraries-stand_for (input ∷ inputs) [] text are = absurd are
libraries-stand_for (input ∷ inputs) (library ∷ libraries) text are =
    let all = concat (input ∷ inputs) in
    let made_of = concat (library ∷ libraries) in
    let stand = libraries-stand input library inputs libraries are.0 are.1 in
    let made = shelf-answered made_of stand.others stand.news stand.text_holds stand.read in (
      stand-shelved all made_of text stand,
      λ is. subst (IsShelved made_of) (shelved-once all made.0 text (stand-shelved all made_of made.0 stand made.1) is)
          made.1,
    )

-- ---- the same items
pub same_items-same_library : (bytes others text : List ℕ) → HoldSameItems bytes others
    → IsAnswer Library bytes (Ok text) → IsAnswer Library others (Ok text)
same_items-same_library bytes others text h is =
    let texts = texts-once bytes is.texts h.texts is.library.items h.same.items is.holds is.library.read h.bytes_hold
    h.same.texts_have in
    record {
      texts = h.other_texts;
      holds = h.others_hold;
      written = is.written;
      library = library-same_items h.texts h.other_texts is.written h.same
          (subst (λ ts. IsLibraryOfAll ts is.written) texts is.library);
      ended = is.ended;
    }

-- ---- a scene and a text behind it
front-of : (first more text : List ℕ) (scene : Scene) → HasScenes first (scene ∷ []) → HasTexts more (text ∷ [])
    → HasFront (first ++ more) scene text None
front-of first more text scene has also =
    let (next, at, end) = has.lead in
    let (rest, stands, last) = also.lead in
    let front = first ++ (stands.blank ++ stands.value) in
    let parts : first ++ more ≡ front ++ rest =
    ap (λ b. first ++ b) (stands.parts ∙ sym (append_assoc stands.blank stands.value rest))
    ∙ sym (append_assoc first (stands.blank ++ stands.value) rest) in
    let behind : drop (length front) (first ++ more) ≡ rest =
    ap (drop (length front)) parts ∙ drop-append_seam front rest in
    record {
      next = next ++ more;
      first = scene-before first scene next more at;
      after = length front;
      within = omega (arith, ap length parts, length-append front rest);
      second = subst (Stands (next ++ more) text) (sym behind)
          (Stands-behind_blank next more text rest (ap is_blank end ∙ has.space) stands);
      behind = ap is_blank (behind ∙ last) ∙ also.space;
    }

pub inserts-are_pastes : (insertion : Insertion) (first library : List ℕ) (scene : Scene) (items : List Item)
    (item : Item) (answer : Result (List ℕ) InputRefusal)
    → HasScenes first (scene ∷ []) → HasLibrary library items → IsBestOfId items insertion.item item
    → IsAnswer (Insert insertion) (first ++ library) answer
    ↔ IsAnswer (Paste insertion.prefix) (first ++ clip_text item.elements) answer
inserts-are_pastes insertion first library scene items item answer has (text, holds, read) best =
    let whole = All-contains IsWholeItem items item (library-whole text items read) best.0.among in
    let clip = item-clip item whole in
    let written = clip_text item.elements in
    let alone : HasTexts written (written ∷ []) =
    subst (λ b. HasTexts b (written ∷ [])) (append-nil written) (record {
      some = λ e. cc;
      rest = [];
      lead = ([], object-first written [] clip.members clip.object, refl);
      space = refl;
    }) in
    let inserts : HasSceneAndLibrary (first ++ library) scene items =
    (text, front-of first library text scene has holds, read) in
    let pastes : HasSceneAndClip (first ++ written) scene (clip_of item) =
    (written, front-of first written written scene has alone, clip) in (
      λ is. clip-pasted insertion.prefix (first ++ written) scene (clip_of item) pastes answer
          (of-item insertion (first ++ library) scene items item inserts best answer is),
      λ is. item-inserted insertion (first ++ library) scene items item inserts best answer
          (of-clip insertion.prefix (first ++ written) scene (clip_of item) pastes answer is),
    )
