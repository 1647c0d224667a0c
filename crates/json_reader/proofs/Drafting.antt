-- What is written of an object grows by whole members.
use Rattle.std.proofs.Common.{◌≡◌, ℕ, ◌+◌, ◌-◌, List, [], ◌∷◌, ◌++◌, length, take, flat_map, refl, sym, ap, ap₂, subst, ◌∙◌, arith, append_assoc, append-nil, length-append, take_all}
use Rattle.std.proofs.lemmas.List.{map-append, drop_at, take_at}
use Rattle.std.proofs.lemmas.Grind.{flat_map-append}
use Rattle.std.proofs.lemmas.List.Elements.{All-push}
use Rattle.std.proofs.Math.Seq.{take-append_seam}
use Rattle.json_text.specs.Compact.{Member, collapsed}
use Rattle.json_reader.specs.inner.Drafts.{Drafted, fresh, grown, named, parted, closed, pair_text, pairs_text, placed_to, IsWhole}
use Rattle.json_reader.specs.inner.Places.{cut, entry, entries, IsPlaced, AreWithin, MemberPlace}

-- what stands between two others
cut-there : (a b c : List ℕ) (start end : ℕ) → start ≡ length a → end ≡ length (a ++ b)
    → cut (a ++ (b ++ c)) (record { start = start; end = end }) ≡ b
cut-there a b c start end low high =
    let size : end - start ≡ length b = omega (arith, length-append a b) in
    ap₂ (λ (n : ℕ) (xs : List ℕ). take n xs) size (drop_at a (b ++ c) start (sym low)) ∙ take-append_seam b c

-- members, each with a comma behind it
abbrev pub commas : List Member → List ℕ
commas ms = flat_map (λ (member : Member). pair_text member ++ 44 ∷ []) ms

commas-pairs : (m : Member) (ms : List Member) → commas (m ∷ ms) ≡ pairs_text (m ∷ ms) ++ 44 ∷ []
commas-pairs m [] = append-nil (pair_text m ++ 44 ∷ [])
commas-pairs m (k ∷ ms) = ap (λ xs. (pair_text m ++ 44 ∷ []) ++ xs) (commas-pairs k ms) ∙ simp append_assoc

-- without the last comma
pub commas_popped : (ms : List Member) (text : List ℕ) (size : ℕ) → text ≡ commas ms → size ≡ length text
    → take (size - 1) text ≡ pairs_text ms
commas_popped [] text size is all = rw is (take_all (size - 1) [] (omega arith))
commas_popped (m ∷ ms) text size is all =
    rw (is, commas-pairs m ms) (take_at (pairs_text (m ∷ ms)) (44 ∷ []) (size - 1)
    (omega (arith, ap length (is ∙ commas-pairs m ms), length-append (pairs_text (m ∷ ms)) (44 ∷ []))))

pub ruleset text_steps = (commas_popped, take_all)

-- These members are written, each with a comma behind it, and stand there whatever is written behind them.
pub record IsRow (done : List Member) (d : Drafted) : Type 0 where
  pub level : d.level ≡ 0
  pub from : d.from ≡ length d.text
  pub written : d.text ≡ commas done
  pub there : (more : List ℕ) → AreWithin (length (d.text ++ more)) d.places
      × (entries (d.text ++ more) d.places ≡ done)

pub row_none : IsRow [] fresh
row_none =
    record { level = refl; from = refl; written = refl; there = λ more. (λ i p high. absurd (omega arith), refl) }

-- behind the name of a member, and behind its value
abbrev pub labelled : Drafted → List ℕ → Drafted
labelled d name = grown (named (length (d.text ++ name)) (grown d name)) (58 ∷ [])

module _ (done : List Member) (d : Drafted) (row : IsRow done d) (name value : List ℕ) where
  abbrev now : Drafted
  now = grown (labelled d name) value

  abbrev all : List Member
  all = done ++ (name, value) ∷ []

  abbrev places : List MemberPlace
  places = placed_to (length now.text) now

  abbrev place : MemberPlace
  place = record {
    name = record { start = d.from; end = length (d.text ++ name) };
    value =
        record { start = length (d.text ++ name) + 1; end = length now.text };
  }

  stand : (more : List ℕ) → AreWithin (length (now.text ++ more)) places × (entries (now.text ++ more) places ≡ all)
  stand more =
      let text = now.text ++ more in
      let parts : text ≡ d.text ++ (name ++ (58 ∷ value ++ more)) = simp append_assoc in
      let before = row.there (name ++ (58 ∷ value ++ more)) in
      let named_so : cut text place.name ≡ name =
      ap (λ xs. cut xs place.name) parts ∙ cut-there d.text name (58 ∷ value ++ more) _ _ row.from refl in
      let valued : cut text place.value ≡ value =
      ap (λ xs. cut xs place.value) (append_assoc ((d.text ++ name) ++ 58 ∷ []) value more)
      ∙ cut-there ((d.text ++ name) ++ 58 ∷ []) value more _ _ (omega (arith, length-append (d.text ++ name) (58 ∷ [])))
      refl in (
        All-push (IsPlaced (length text)) d.places place (rw parts before.0)
            (omega (
              arith,
              row.from,
              length-append d.text name,
              length-append now.text more,
              length-append ((d.text ++ name) ++ 58 ∷ []) value,
              length-append (d.text ++ name) (58 ∷ []),
            )),
        map-append (entry text) d.places (place ∷ [])
            ∙ rw (named_so, valued) (ap (λ ms. ms ++ (name, value) ∷ []) (ap (λ xs. entries xs d.places) parts
            ∙ before.1)),
      )

  written : now.text ++ 44 ∷ [] ≡ commas all
  written = ap (λ xs. (((xs ++ name) ++ 58 ∷ []) ++ value) ++ 44 ∷ []) row.written
      ∙ simp (append_assoc, append-nil, flat_map-append)

  stands : AreWithin (length now.text) places × (entries now.text places ≡ all)
  stands = rw append-nil at (stand [])

  pub whole : IsWhole now
  whole = record {
    within = stands.0;
    written =
        grind (
          arith,
          take_at now.text (44 ∷ []),
          length-append now.text (44 ∷ []),
          commas_popped all _ _ written refl,
          stands.1,
        );
  }

  pub closed_so : closed now ≡ pairs_text (collapsed all)
  closed_so = ap (λ ms. pairs_text (collapsed ms)) stands.1

  pub row_more : IsRow all (grown (parted (length now.text) now) (44 ∷ []))
  row_more = record {
    level = row.level;
    from = omega (arith, length-append now.text (44 ∷ []));
    written = written;
    there = λ more. subst (λ xs. AreWithin (length xs) places
        × (entries xs places ≡ all)) (sym (append_assoc now.text (44 ∷ []) more)) (stand (44 ∷ more));
  }
