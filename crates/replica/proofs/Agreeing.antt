-- What agrees with what was stored, and that it is shown the same but for stamps.
use Rattle.std.proofs.Common.{◌≡◌, ℕ, true, false, cond, not, List, [], ◌∷◌, map, Option, Some, None, Contains, refl, sym, ap, ◌∙◌, subst}
use Rattle.std.specs.Option.{option_map}
use Rattle.std.proofs.lemmas.Bool.{false≢true}
use Rattle.std.proofs.lemmas.Option.{none-some, same_Some}
use Rattle.frac_keys.specs.Rising.{are_rising}
use Rattle.json_text.proofs.CallerLemmas.{Contains-map, Contains-to_map}
use Rattle.elem.specs.ElementValue.{ElementValue}
use Rattle.elem.specs.Order.{unstamped, has_id}
use Rattle.elem_store.specs.Updates.{element_of, ids_of}
use Rattle.elem_store.proofs.CallerLemmas.{Contains-filter, filter-Contains, find-Some, member}
use Rattle.delta.proofs.CallerLemmas.{same_members}
use Rattle.view.specs.Shown.{is_live, live_elements, shown}
use Rattle.view.proofs.CallerLemmas.{live_elements-rise, stamps-play_no_part}
use Rattle.replica.specs.Back.{AgreesWith}
use Rattle.replica.proofs.Leading.{SameAs, bare_of, some-bare}

pub agrees-itself : (elements : List ElementValue) → AgreesWith elements elements
agrees-itself elements = record {
  each = λ id e h. (e, h, refl);
  others = λ id e none some. absurd (none-some e (sym none ∙ some));
}

pub agrees-same : (old now others : List ElementValue) → AgreesWith old now → SameAs now others → AgreesWith old others
agrees-same old now others agrees same = record {
  each = λ id e h.
      let own = agrees.each id e h in
      let other =
      some-bare (element_of others id) (unstamped own.0) (sym (same id) ∙ ap (option_map unstamped) own.1) in
      (other.0, other.1, other.2 ∙ own.2);
  others = λ id e none some.
      let own = some-bare (element_of now id) (unstamped e) (same id ∙ ap (option_map unstamped) some) in
      sym (ap (λ (x : ElementValue). x.deleted) own.2) ∙ agrees.others id own.0 none own.1;
}

-- ---- lists that are the same but for stamps
pub find-unstamped : (id : List ℕ) (es : List ElementValue) → bare_of es id ≡ element_of (map unstamped es) id
find-unstamped id [] = refl
find-unstamped id (e ∷ es) =
    elim (has_id id e) as (λ b. option_map unstamped (cond b (Some e) (element_of es id))
    ≡ cond b (Some (unstamped e)) (element_of (map unstamped es) id)) [
      | true ↦ refl
      | false ↦ find-unstamped id es
    ]

pub same-bare : (a b : List ElementValue) → map unstamped a ≡ map unstamped b → SameAs a b
same-bare a b same id = find-unstamped id a ∙ ap (λ es. element_of es id) same ∙ sym (find-unstamped id b)

-- ---- what is shown
pub ids-unstamped : (es : List ElementValue) → ids_of (map unstamped es) ≡ ids_of es
ids-unstamped [] = refl
ids-unstamped (e ∷ es) = ap (λ ids. e.id ∷ ids) (ids-unstamped es)

bare-rise : (es : List ElementValue) → are_rising (ids_of es) ≡ true
    → are_rising (ids_of (map unstamped (live_elements es))) ≡ true
bare-rise es rise = ap are_rising (ids-unstamped (live_elements es)) ∙ live_elements-rise es rise

module _ (old now : List ElementValue) (rise : are_rising (ids_of old) ≡ true) (rise' : are_rising (ids_of now) ≡ true)
    (agrees : AgreesWith old now) where
  on : (u : ElementValue) → Contains (map unstamped (live_elements old)) u
      → Contains (map unstamped (live_elements now)) u
  on u c =
      let of = Contains-map unstamped (live_elements old) u c in
      let own = filter-Contains is_live old of.0 of.1 in
      let other = agrees.each of.0.id of.0 (member None None old of.0 rise own.0) in
      let there = (find-Some (has_id of.0.id) now other.0 other.1).0 in
      let live : is_live other.0 ≡ true = ap (λ (x : ElementValue). not x.deleted) other.2 ∙ own.1 in
      subst (Contains (map unstamped (live_elements now))) (other.2 ∙ of.2)
      (Contains-to_map unstamped (live_elements now) other.0 (Contains-filter is_live now other.0 there live))

  back : (u : ElementValue) → Contains (map unstamped (live_elements now)) u
      → Contains (map unstamped (live_elements old)) u
  back u c =
      let of = Contains-map unstamped (live_elements now) u c in
      let own = filter-Contains is_live now of.0 of.1 in
      let there = member None None now of.0 rise' own.0 in
      go of.0 of.2 own.1 there (element_of old of.0.id) refl
    where
      go : (e : ElementValue) → unstamped e ≡ u → is_live e ≡ true → element_of now e.id ≡ Some e
          → (o : Option ElementValue) → element_of old e.id ≡ o → Contains (map unstamped (live_elements old)) u
      go e same live there None h =
          absurd (false≢true (sym (ap not (agrees.others e.id e h there)) ∙ live))
      go e same live there (Some was) h =
          let other = agrees.each e.id was h in
          let here : other.0 ≡ e = same_Some other.0 e (sym other.1 ∙ there) in
          let alike : unstamped was ≡ unstamped e = sym other.2 ∙ ap unstamped here in
          let was_live : is_live was ≡ true = ap (λ (x : ElementValue). not x.deleted) alike ∙ live in
          subst (Contains (map unstamped (live_elements old))) (alike ∙ same)
          (Contains-to_map unstamped (live_elements old) was
          (Contains-filter is_live old was (find-Some (has_id e.id) old was h).0 was_live))

  pub live-same : map unstamped (live_elements now) ≡ map unstamped (live_elements old)
  live-same = same_members (λ (e : ElementValue). e.id) (map unstamped (live_elements now))
      (map unstamped (live_elements old)) (bare-rise now rise') (bare-rise old rise) back on

  pub looks-same : map unstamped (shown (live_elements now)) ≡ map unstamped (shown (live_elements old))
  looks-same = stamps-play_no_part (live_elements now) (live_elements old) live-same
