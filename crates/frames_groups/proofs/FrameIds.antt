-- A set of the ids of the frames so far, after one element more.
use Rattle.std.proofs.Common.{◌≡◌, ℕ, Bool, true, false, cond, ◌&&◌, ◌||◌, List, [], ◌∷◌, ◌++◌, bytes_eq, nat_cmp, refl, sym, ap, ◌∙◌}
use Rattle.std.specs.BTreeSet.{BTreeSet, contains, Updates}
use Rattle.std.specs.Cmp.Lexicographic.{slice_cmp, nat_list_eq_equiv, texts_ties}
use Rattle.std.proofs.lemmas.List.Folds.{list_any-append}
use Rattle.elem.specs.ElementValue.{ElementValue}
use Rattle.frames_groups.specs.Frames.{is_frame, is_frame_of, has_frame}

-- the set has the ids of the frames among the elements
abbrev pub HasFrames : BTreeSet (List ℕ) → List ElementValue → Type 0
HasFrames frames elements = (id : List ℕ) → contains (slice_cmp nat_cmp) frames id ≡ has_frame elements id

joined : (same among : Bool) → cond same true among ≡ (among || ((true && same) || false))
joined true true = refl
joined true false = refl
joined false true = refl
joined false false = refl

alone : (among : Bool) → among ≡ (among || (false || false))
alone true = refl
alone false = refl

pub HasFrames-frame : (frames new : BTreeSet (List ℕ)) (elements : List ElementValue) (e : ElementValue) (id : List ℕ)
    → HasFrames frames elements → Updates (slice_cmp nat_cmp) frames new id true → id ≡ e.id → is_frame e ≡ true
    → HasFrames new (elements ++ e ∷ [])
HasFrames-frame frames new elements e id has updates own frame other =
    let same = bytes_eq other e.id in
    updates.0 other
    ∙ ap (λ b. cond b true (contains (slice_cmp nat_cmp) frames other)) (sym (texts_ties id other)
    ∙ nat_list_eq_equiv.symm id other ∙ ap (bytes_eq other) own)
    ∙ ap (cond same true) (has other)
    ∙ joined same (has_frame elements other)
    ∙ ap (λ b. has_frame elements other || ((b && same) || false)) (sym frame)
    ∙ sym (list_any-append (is_frame_of other) elements (e ∷ []))

pub HasFrames-other : (frames : BTreeSet (List ℕ)) (elements : List ElementValue) (e : ElementValue)
    → HasFrames frames elements → is_frame e ≡ false → HasFrames frames (elements ++ e ∷ [])
HasFrames-other frames elements e has none other =
    has other ∙ alone (has_frame elements other)
    ∙ ap (λ b. has_frame elements other || ((b && bytes_eq other e.id) || false)) (sym none)
    ∙ sym (list_any-append (is_frame_of other) elements (e ∷ []))
