-- Texts, one after the other.
use Rattle.std.proofs.Common.{◌≡◌, inl, inr, ℕ, ◌+◌, ◌<◌, List, [], ◌∷◌, ◌++◌, true, false, refl, sym, ap, subst, ◌∙◌, length, drop, arith, length-append, length-drop, append-nil, append_assoc, subst₂, Option, None, Some}
use Rattle.std.specs.Prelude.{is_none, is_some}
use Rattle.std.specs.List.{prefix_len}
use Rattle.std.proofs.lemmas.Bool.{false≢true, both_ways}
use Rattle.std.proofs.lemmas.List.{drop-append-le, drop_all}
use Rattle.json_text.specs.Characters.{is_blank, is_space}
use Rattle.json_text.specs.Value.{Stands}
use Rattle.json_reader.specs.Faults.{IsFirstFault}
use Rattle.json_reader.specs.Feeding.{Feeding, IsAt, behind_space}
use Rattle.json_reader.specs.declared.fault.JsonFault.{JsonFault}
use Rattle.json_reader.specs.declared.fault.JsonFault.TheVariants.{Syntax}
use Rattle.json_text.proofs.CallerLemmas.{prefix-run, run-more}
use Rattle.json_reader.proofs.CallerLemmas.{behind-blank, blank-behind}
use Rattle.input_texts.specs.declared.reading.Stopped.{Stopped}
use Rattle.input_texts.specs.Texts.{Reading, TextsLead, HasReadTo, HasTexts, HasFaultBehind, HasRefusedBehind, HasExtraBehind, IsStopped, AreRead}
use Rattle.input_texts.specs.inner.Texts.{IsLed, StandsIn}
use Rattle.input_texts.proofs.Blanks.{blank-more, blank-both, stands-begun, first-more}

-- A value stands behind texts that lead up to it.
pub TextsLead-more : (bytes rest next : List ℕ) (texts : List (List ℕ)) (text : List ℕ) → TextsLead bytes texts rest
    → Stands rest text next → TextsLead bytes (texts ++ text ∷ []) next
TextsLead-more bytes rest next [] text lead stands = (next, subst (λ b. Stands b text next) (sym lead) stands, refl)
TextsLead-more bytes rest next (first ∷ texts) text (middle, at, lead) stands =
    (middle, at, TextsLead-more middle rest next texts text lead stands)

-- ---- where a feed stands behind texts
module _ {F : Type 0} (stream left : List ℕ) (feed : Feeding) (reader : Reading F) (l : IsLed stream left feed reader)
  where
    -- what is left, whatever follows
    pub parts_there : (more : List ℕ) → drop l.start (stream ++ more) ≡ drop l.start stream ++ more
    parts_there more = drop-append-le l.start stream more l.at.within

    pub read_to : (more : List ℕ) → HasReadTo (stream ++ more) reader l.texts l.start
    read_to more = record {
      read = l.read;
      within = omega (arith, l.at.within, length-append stream more);
      lead = subst (TextsLead (stream ++ more) l.texts) (sym (parts_there more)) (l.lead more);
    }

    -- nothing but white space was used behind the last text that is taken
    pub skipped_there : reader.is_full ≡ true → is_blank l.at.stretch ≡ true
    skipped_there full = behind-blank l.at.stretch (l.at.kept ∙ l.skipped full)

    pub blank_there : reader.is_full ≡ true → is_blank left ≡ true → is_blank (drop l.start stream) ≡ true
    blank_there full space = ap is_blank l.at.parts ∙ blank-both l.at.stretch left (skipped_there full) space

    pub extra_there : reader.is_full ≡ true → prefix_len is_space left < length left → (more : List ℕ)
        → HasExtraBehind (stream ++ more) reader (feed.used + prefix_len is_space left)
    extra_there full less more =
        let stretch = l.at.stretch in
        let parts : drop l.start (stream ++ more) ≡ stretch ++ (left ++ more) =
        parts_there more ∙ ap (λ x. x ++ more) l.at.parts ∙ append_assoc stretch left more in
        let width : l.start + (length stretch + length left) ≡ length stream =
        omega (arith, l.at.within, length-drop l.start stream, ap length l.at.parts, length-append stretch left) in
        let first : prefix_len is_space (drop l.start (stream ++ more)) ≡ length stretch + prefix_len is_space left =
        ap (prefix_len is_space) parts ∙ prefix-run is_space stretch (left ++ more) (skipped_there full)
        ∙ ap (λ n. length stretch + n) (first-more left more less) in
        record {
          texts = l.texts;
          start = l.start;
          behind = read_to more;
          full = full;
          begun = run-more (drop l.start (stream ++ more)) (omega (
            arith,
            first,
            less,
            ap length parts,
            length-append stretch (left ++ more),
            length-append left more,
          ));
          is_first = omega (arith, first, width, l.at.counted);
          more = omega (arith, less, width, l.at.counted, length-append stream more);
        }

    pub faulty_there : reader.is_full ≡ false → (fault : JsonFault) → (is_blank (drop l.start stream) ≡ false)
        × ((more : List ℕ) → IsFirstFault (stream ++ more) l.start fault)
        → (more : List ℕ) → HasFaultBehind (stream ++ more) reader fault
    faulty_there takes fault found more = record {
      texts = l.texts;
      start = l.start;
      behind = read_to more;
      takes = takes;
      begun = inr (ap is_blank (parts_there more) ∙ blank-more (drop l.start stream) more found.0);
      faulty = found.1 more;
    }

    -- ---- what a call of a feed leaves
    pub led_on : (after : List ℕ) (new : Feeding) → IsAt stream l.start after new
        → (reader.is_full ≡ true → new.rest ≡ []) → IsLed stream after new reader
    led_on after new at skipped =
        record { texts = l.texts; read = l.read; start = l.start; at = at; lead = l.lead; skipped = skipped }

    abbrev pub HasEnded : List ℕ → Feeding → List ℕ → Type 0
    HasEnded after new text =
        (next : ℕ) × IsAt stream next after new
        × ((more : List ℕ) → Stands (drop l.start stream ++ more) text (drop next stream ++ more))

    pub led_text : (after : List ℕ) (new : Feeding) (text : List ℕ) (now : Reading F) → HasEnded after new text
        → now.has_read (l.texts ++ text ∷ []) → new.rest ≡ [] → IsLed stream after new now
    led_text after new text now found read emptied = record {
      texts = l.texts ++ text ∷ [];
      read = read;
      start = found.0;
      at = found.1;
      lead = λ more. TextsLead-more (stream ++ more) (drop l.start stream ++ more) (drop found.0 stream ++ more) l.texts
          text (l.lead more) (found.2 more);
      skipped = λ full. emptied;
    }

    pub refused_there : (text : List ℕ) (now : Reading F) (fault : F) (rest more : List ℕ)
        → Stands (drop l.start stream ++ more) text rest → now.refuses l.texts text fault
        → HasRefusedBehind (stream ++ more) now fault
    refused_there text now fault rest more found refused =
        let stands : Stands (drop l.start (stream ++ more)) text rest =
        subst (λ b. Stands b text rest) (sym (parts_there more)) found in
        record {
          texts = l.texts;
          start = l.start;
          within = (read_to more).within;
          lead = (read_to more).lead;
          text = text;
          rest = rest;
          stands = stands;
          begun = stands-begun (drop l.start (stream ++ more)) text rest stands;
          refused = refused;
        }

-- ---- where white space alone is used behind the last text that is taken
module _ {F : Type 0} (stream piece : List ℕ) (feed : Feeding) (reader : Reading F) (full : reader.is_full ≡ true)
    (space : is_blank piece ≡ true) (l : IsLed stream piece feed reader) where
  nothing_stands : (text rest : List ℕ) → Stands (drop l.start stream ++ []) text rest → ⊥
  nothing_stands text rest s =
      both_ways (is_blank (drop l.start stream ++ [])) (stands-begun (drop l.start stream ++ []) text rest s)
      (ap is_blank (append-nil (drop l.start stream)) ∙ blank_there stream piece feed reader l full space)

  pub skipped_fault : {X : Type 0} → is_blank (drop l.start stream) ≡ false → X
  skipped_fault begun =
      absurd (both_ways (is_blank (drop l.start stream)) begun (blank_there stream piece feed reader l full space))

  pub skipped_on : (after : List ℕ) (new : Feeding) (value : Option (List ℕ))
      → (value ≡ None → IsAt stream l.start after new)
      → (value ≡ None → new ≡ record {
        rest = behind_space (feed.rest ++ piece);
        used = feed.used + length piece;
        fault = None;
      })
      → ((text : List ℕ) → value ≡ Some text → (next : ℕ) × IsAt stream next after new
      × ((more : List ℕ) → Stands (drop l.start stream ++ more) text (drop next stream ++ more)))
      → IsLed stream after new reader
  skipped_on after new None going kept ended =
      led_on stream piece feed reader l after new (going refl) (λ _.
      ap (λ (f : Feeding). f.rest) (kept refl) ∙ ap (λ x. behind_space (x ++ piece)) (l.skipped full)
      ∙ blank-behind piece space)
  skipped_on after new (Some text) going kept ended =
      let found = ended text refl in absurd (nothing_stands text _ (found.2 []))

-- ---- at the end of the stream
module _ {F : Type 0} (stream : List ℕ) (feed : Feeding) (reader : Reading F) (l : IsLed stream [] feed reader) where
  pub read_all_to : HasReadTo stream reader l.texts l.start
  read_all_to =
      subst (λ bytes. HasReadTo bytes reader l.texts l.start) (append-nil stream) (read_to stream [] feed reader l [])

  pub ended_full : reader.is_full ≡ true → reader.needs_text ≡ false → HasTexts stream reader
  ended_full full enough = record {
    texts = l.texts;
    start = l.start;
    behind = read_all_to;
    space =
        blank_there stream [] feed reader l full refl;
    enough = enough;
  }

  pub ended_blank : is_blank (drop l.start stream) ≡ true → reader.needs_text ≡ false → HasTexts stream reader
  ended_blank space enough =
      record { texts = l.texts; start = l.start; behind = read_all_to; space = space; enough = enough }

  pub ended_missing : reader.is_full ≡ false → reader.needs_text ≡ true → (place : ℕ)
      → IsFirstFault stream l.start (Syntax place) → HasFaultBehind stream reader (Syntax place)
  ended_missing takes needs place faulty =
      record {
        texts = l.texts;
        start = l.start;
        behind = read_all_to;
        takes = takes;
        begun = inl needs;
        faulty =
            faulty;
      }

  pub ended_faulty : reader.is_full ≡ false → (fault : JsonFault) → (is_blank (drop l.start stream) ≡ false)
      × IsFirstFault stream l.start fault → HasFaultBehind stream reader fault
  ended_faulty takes fault found =
      record {
        texts = l.texts;
        start = l.start;
        behind = read_all_to;
        takes = takes;
        begun = inr found.0;
        faulty =
            found.1;
      }

  pub ended_refused : (text : List ℕ) (now : Reading F) (fault : F) → Stands (drop l.start stream) text []
      → now.refuses l.texts text fault → HasRefusedBehind stream now fault
  ended_refused text now fault found refused =
      subst (λ bytes. HasRefusedBehind bytes now fault) (append-nil stream)
      (refused_there stream [] feed reader l text now fault [] []
      (subst (λ b. Stands b text []) (sym (append-nil (drop l.start stream))) found) refused)

  pub ended_text : (text : List ℕ) (now : Reading F) → Stands (drop l.start stream) text []
      → now.has_read (l.texts ++ text ∷ []) → now.needs_text ≡ false → HasTexts stream now
  ended_text text now found read enough =
      let none : drop (length stream) stream ≡ [] = drop_all (length stream) stream (omega arith) in
      let lead : TextsLead stream (l.texts ++ text ∷ []) [] =
      TextsLead-more stream (drop l.start stream) [] l.texts text read_all_to.lead found in
      record {
        texts = l.texts ++ text ∷ [];
        start = length stream;
        behind = record {
          read = read;
          within = omega arith;
          lead =
              subst (TextsLead stream (l.texts ++ text ∷ [])) (sym none) lead;
        };
        space = ap is_blank none;
        enough = enough;
      }

-- ---- a stream that goes on
module _ {F : Type 0} (stream piece : List ℕ) (feed : Feeding) (reader : Reading F) where
  pub stands_more : (stop : Option (Stopped F)) → StandsIn stream [] feed reader stop
      → StandsIn (stream ++ piece) piece feed reader stop
  stands_more None l =
      let at = l.at in
      let parts : drop l.start (stream ++ piece) ≡ drop l.start stream ++ piece =
      drop-append-le l.start stream piece at.within in
      record {
        texts = l.texts;
        read = l.read;
        start = l.start;
        at = record {
          within = omega (arith, at.within, length-append stream piece);
          stretch = at.stretch;
          parts = parts ∙ ap (λ x. x ++ piece) (at.parts ∙ append-nil at.stretch);
          kept = at.kept;
          counted = omega (arith, at.counted, length-append stream piece);
          sound = at.sound;
        };
        lead = λ more. subst₂ (λ x y. TextsLead x l.texts y) (sym (append_assoc stream piece more))
            (sym (ap (λ x. x ++ more) parts ∙ append_assoc (drop l.start stream) piece more)) (l.lead (piece ++ more));
        skipped = l.skipped;
      }
  stands_more (Some why) h =
      λ more. subst (λ x. IsStopped x reader why) (sym (append_assoc stream piece more)) (h (piece ++ more))

  pub used_so_far : (stop : Option (Stopped F)) → StandsIn stream [] feed reader stop → stop ≡ None
      → feed.used ≡ length stream
  used_so_far None l e = omega (arith, l.at.counted)
  used_so_far (Some s) h e = cc

  -- what stopped it stands, whatever is left
  pub stands_stopped : (left : List ℕ) (stop : Option (Stopped F)) → is_none stop ≡ false
      → StandsIn stream left feed reader stop → StandsIn stream [] feed reader stop
  stands_stopped left None e h = absurd (false≢true (sym e))
  stands_stopped left (Some why) e h = h

-- what stopped it is the answer at the stream's end, and so is nothing where the reader is full
pub stands_ended : {F : Type 0} (stream : List ℕ) (feed : Feeding) (reader : Reading F) (stop : Option (Stopped F))
    → is_some stop ≡ true → StandsIn stream [] feed reader stop → AreRead stream reader stop
stands_ended stream feed reader None e h = absurd (false≢true e)
stands_ended stream feed reader (Some why) e h = subst (λ bytes. IsStopped bytes reader why) (append-nil stream) (h [])

pub stands_full : {F : Type 0} (stream : List ℕ) (feed : Feeding) (reader : Reading F) (stop : Option (Stopped F))
    → is_some stop ≡ false → reader.is_full ≡ true → reader.needs_text ≡ false
    → StandsIn stream [] feed reader stop → HasTexts stream reader
stands_full stream feed reader None e full enough l = ended_full stream feed reader l full enough
stands_full stream feed reader (Some why) e full enough h = absurd (false≢true (sym e))

pub none_of : {F : Type 0} (stop : Option (Stopped F)) → is_none stop ≡ true → stop ≡ None
none_of None e = refl
none_of (Some s) e = absurd (false≢true e)
