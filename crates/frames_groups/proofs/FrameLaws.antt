-- Settled frame names: what they name, and what stays.
use Rattle.std.proofs.Common.{◌≡◌, ℕ, suc, Bool, true, false, cond, not, ◌&&◌, ◌||◌, List, [], ◌∷◌, filter, Contains, inl, inr, arith, Option, Some, None, IfSome, Any, map, bytes_eq, refl, sym, ap, ◌∙◌}
use Rattle.std.specs.List.{list_any}
use Rattle.std.specs.Option.{option_map_or}
use Rattle.std.proofs.lemmas.Bool.{and_parts, both_ways, cases_Bool, cond-true, cond-false, not-true, cond_both, false_from_ne_true}
use Rattle.std.proofs.lemmas.List.Elements.{All-map, All-weaker}
use Rattle.std.proofs.lemmas.List.Folds.{Any-from_list_any, list_any-from_Any}
use Rattle.std.proofs.lemmas.Slice.Eq.{bytes_eq-Decides}
use Rattle.elem.specs.ElementValue.{ElementValue}
use Rattle.frames_groups.specs.Frames.{is_frame, is_frame_of, has_frame, keeps_frame, without_frame, framed, frames_settled, NameFrames}
use Rattle.frames_groups.proofs.Lists.{map-agree, map-map, map-same, list_any-map}

-- ---- the list's frames stay
same_frame : (id : List ℕ) (e : ElementValue) (kept : Bool) → is_frame_of id (cond kept e (without_frame e))
    ≡ is_frame_of id e
same_frame id e true = refl
same_frame id e false = refl

has_frame-settled : (elements : List ElementValue) (id : List ℕ)
    → has_frame (frames_settled elements) id ≡ has_frame elements id
has_frame-settled elements id =
    list_any-map (is_frame_of id) (framed (has_frame elements)) elements
    (λ e. same_frame id e (keeps_frame (has_frame elements) e))

-- ---- settling again changes nothing
module _ (names_frame : List ℕ → Bool) where
  framed-without : (e : ElementValue) (b : Bool) → cond (b && false) (without_frame e) (without_frame (without_frame e))
      ≡ without_frame e
  framed-without e true = refl
  framed-without e false = refl

  framed-framed : (e : ElementValue) → framed names_frame (framed names_frame e) ≡ framed names_frame e
  framed-framed e = go (keeps_frame names_frame e) refl
    where
      go : (kept : Bool) → keeps_frame names_frame e ≡ kept → framed names_frame (cond kept e (without_frame e))
          ≡ cond kept e (without_frame e)
      go true h = cond-true (keeps_frame names_frame e) e (without_frame e) h
      go false h = framed-without e (not (is_frame e))

  without_frame-framed : (e : ElementValue) → without_frame (framed names_frame e) ≡ without_frame e
  without_frame-framed e = go (keeps_frame names_frame e)
    where
      go : (kept : Bool) → without_frame (cond kept e (without_frame e)) ≡ without_frame e
      go true = refl
      go false = refl

pub frames_settled-settled : (elements : List ElementValue)
    → frames_settled (frames_settled elements) ≡ frames_settled elements
frames_settled-settled elements =
    let names = has_frame elements in
    ap (λ h. map (framed h) (frames_settled elements)) (λ i id. has_frame-settled elements id i)
    ∙ map-map (framed names) (framed names) elements
    ∙ map-agree (λ e. framed names (framed names e)) (framed names) elements (framed-framed names)

pub frames_settled-others : (elements : List ElementValue)
    → map without_frame (frames_settled elements) ≡ map without_frame elements
frames_settled-others elements =
    let names = has_frame elements in
    map-map without_frame (framed names) elements
    ∙ map-agree (λ e. without_frame (framed names e)) without_frame elements (without_frame-framed names)

-- ---- frame names name frames
module _ (elements : List ElementValue) where
  -- a frame of the list of this id
  abbrev HasFrame : List ℕ → Type 0
  HasFrame id = Any (λ (frame : ElementValue). (is_frame frame ≡ true) × (frame.id ≡ id)) elements

  is_there : (id : List ℕ) → has_frame elements id ≡ true → HasFrame id
  is_there id h =
      let (k, frame, within, at, of) = Any-from_list_any (is_frame_of id) elements h in
      let parts = and_parts (is_frame frame) (bytes_eq id frame.id) of in
      (k, frame, within, at, (parts.0, sym ((bytes_eq-Decides id frame.id).0 parts.1)))

  is_known : (id : List ℕ) → HasFrame id → has_frame elements id ≡ true
  is_known id (k, frame, within, at, (is, same)) =
      list_any-from_Any (is_frame_of id) elements
      (k, frame, within, at, ap (λ b. b && bytes_eq id frame.id) is ∙ (bytes_eq-Decides id frame.id).1 (sym same))

-- a frame name of an element names a frame of the list
abbrev NamesFrame : List ElementValue → ElementValue → Type 0
NamesFrame elements e = IfSome e.frame (λ id. (is_frame e ≡ false) × HasFrame elements id)

names_frame : (elements : List ElementValue) (e : ElementValue)
    → NamesFrame (frames_settled elements) (framed (has_frame elements) e)
names_frame elements e = go (keeps_frame (has_frame elements) e) refl
  where
    settled : List ElementValue
    settled = frames_settled elements

    named : (name : Option (List ℕ)) → option_map_or (has_frame elements) name false ≡ true
        → IfSome name (λ id. HasFrame settled id)
    named None h = tt
    named (Some id) h = is_there settled id (has_frame-settled elements id ∙ h)

    both : (name : Option (List ℕ)) → is_frame e ≡ false → IfSome name (λ id. HasFrame settled id)
        → IfSome name (λ id. (is_frame e ≡ false) × HasFrame settled id)
    both None f h = tt
    both (Some id) f h = (f, h)

    go : (kept : Bool) → keeps_frame (has_frame elements) e ≡ kept → NamesFrame settled (cond kept e (without_frame e))
    go true h =
        let parts = and_parts (not (is_frame e)) (option_map_or (has_frame elements) e.frame false) h in
        both e.frame (not-true (is_frame e) parts.0) (named e.frame parts.1)
    go false h = tt

pub NameFrames-settled : (elements : List ElementValue) → NameFrames (frames_settled elements)
NameFrames-settled elements =
    let settled = frames_settled elements in
    All-map (NamesFrame settled) (framed (has_frame elements)) elements (λ k d l. names_frame elements _)

-- ---- where they do, nothing changes
without_none : (e : ElementValue) → None ≡ e.frame → without_frame e ≡ e
without_none e h = ap (λ name. record e { frame = name }) h

framed-named : (elements : List ElementValue) (e : ElementValue) → NamesFrame elements e
    → framed (has_frame elements) e ≡ e
framed-named elements e h = go e.frame refl h
  where
    names : List ℕ → Bool
    names = has_frame elements

    go : (name : Option (List ℕ)) → e.frame ≡ name → IfSome name (λ id. (is_frame e ≡ false) × HasFrame elements id)
        → framed names e ≡ e
    go None is h =
        cond_both (keeps_frame names e) e (without_frame e) (λ x. x ≡ e) (λ _. refl) (λ _. without_none e (sym is))
    go (Some id) is h =
        cond-true (keeps_frame names e) e (without_frame e)
        (ap (λ name. not (is_frame e) && option_map_or names name false) is
        ∙ ap (λ b. not b && names id) h.0 ∙ is_known elements id h.1)

pub frames_settled-named : (elements : List ElementValue) → NameFrames elements → frames_settled elements ≡ elements
frames_settled-named elements h =
    map-same (framed (has_frame elements)) elements
    (All-weaker (NamesFrame elements) (λ e. framed (has_frame elements) e ≡ e) (framed-named elements) elements h)

-- ---- some of the elements, with the frames that are named
any-kept : (p q : ElementValue → Bool) (elements : List ElementValue)
    → ((e : ElementValue) → Contains elements e → q e ≡ true → p e ≡ true)
    → list_any q (filter p elements) ≡ list_any q elements
any-kept p q [] h = refl
any-kept p q (e ∷ elements) h =
    let rest = any-kept p q elements (λ other there. h other (suc there.0, omega (arith, there.1), there.2)) in
    elim (cases_Bool (p e)) [
      | inl t ↦ ap (list_any q) (cond-true (p e) (e ∷ filter p elements) (filter p elements) t)
          ∙ ap (λ b. q e || b) rest
      | inr f ↦
          ap (list_any q) (cond-false (p e) (e ∷ filter p elements) (filter p elements) f) ∙ rest
          ∙ ap (λ b. b || list_any q elements)
          (sym (false_from_ne_true (q e) (λ t. both_ways (p e) f (h e (0, omega arith, refl) t))))
    ]

pub framed-among : (elements : List ElementValue) (among : ElementValue → Bool) (e : ElementValue)
    → ((frame : ElementValue) → Contains elements frame → is_frame frame ≡ true → e.frame ≡ Some frame.id
    → among frame ≡ true)
    → framed (has_frame (filter among elements)) e ≡ framed (has_frame elements) e
framed-among elements among e has =
    ap (λ b. cond (not (is_frame e) && b) e (without_frame e)) (named e.frame refl) where
      named : (o : Option (List ℕ)) → e.frame ≡ o → option_map_or (has_frame (filter among elements)) o false
          ≡ option_map_or (has_frame elements) o false
      named None is = refl
      named (Some id) is =
          any-kept among (is_frame_of id) elements
          (λ frame there h.
          let parts = and_parts (is_frame frame) (bytes_eq id frame.id) h in
          has frame there parts.0 (is ∙ ap Some ((bytes_eq-Decides id frame.id).0 parts.1)))
