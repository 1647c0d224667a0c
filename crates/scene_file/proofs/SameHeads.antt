-- The joined head of the same heads in another order.
use Rattle.std.proofs.Common.{◌≡◌, ◌↔◌, ℕ, false, inl, inr, List, [], ◌∷◌, Option, Some, None, All, Contains, IfSome, refl, sym, ap, ◌∙◌, subst, arith}
use Rattle.std.specs.List.{flat_map}
use Rattle.std.specs.Str.{IsUtf8}
use Rattle.std.proofs.lemmas.Bool.{cases_Bool, cond-true, cond-false}
use Rattle.std.proofs.lemmas.List.Elements.{All-contains, Contains-append_left, Contains-append_right, Contains-append_cases}
use Rattle.std.proofs.lemmas.Option.{same_Some}
use Rattle.json_text.specs.Characters.{quote}
use Rattle.json_text.specs.Members.{pairs}
use Rattle.frac_keys.specs.Keys.{bytes_less}
use Rattle.frac_keys.proofs.CallerLemmas.{bytes-neither, bytes-below, bytes_less_itself, bytes_less-asym}
use Rattle.scene_json.proofs.CallerLemmas.{quote-once}
use Rattle.elem_store.proofs.CallerLemmas.{Contains-head, Contains-cons, Contains-cases}
use Rattle.file_table.proofs.CallerLemmas.{AreLeastEntries-moved}
use Rattle.scene_file.specs.Heads.{Heading, lesser_source, least_source, settings_of, files_of, IsJoinedHead, IsLeastSource, HaveSameHeads}
use Rattle.scene_file.specs.Whole.{IsWholeHead}
use Rattle.scene_file.proofs.WholeScenes.{least-whole}

-- ---- lists that are joined

in-parts : {X Y : Type 0} (f : X → List Y) (xs : List X) (x : X) (y : Y) → Contains xs x → Contains (f x) y
    → Contains (flat_map f xs) y
in-parts f [] x y h k = absurd (omega (arith, h.1))
in-parts f (first ∷ xs) x y h k = elim (Contains-cases first xs x h) [
  | inl e ↦ Contains-append_left (f first) (flat_map f xs) y (subst (λ z. Contains (f z) y) (sym e) k)
  | inr later ↦ Contains-append_right (f first) (flat_map f xs) y (in-parts f xs x y later k)
]

part-of : {X Y : Type 0} (f : X → List Y) (xs : List X) (y : Y) → Contains (flat_map f xs) y → (x : X) × Contains xs x
    × Contains (f x) y
part-of f [] y h = absurd (omega (arith, h.1))
part-of f (first ∷ xs) y h = elim (Contains-append_cases (f first) (flat_map f xs) y h) [
  | inl here ↦ (first, Contains-head first xs, here)
  | inr there ↦ let found = part-of f xs y there in (found.0, Contains-cons first xs found.0 found.1, found.2)
]

parts-moved : {X Y : Type 0} (f : X → List Y) (xs ys : List X) → ((x : X) → Contains xs x ↔ Contains ys x) → (y : Y)
    → Contains (flat_map f xs) y ↔ Contains (flat_map f ys) y
parts-moved f xs ys same y = (
  λ h. let found = part-of f xs y h in in-parts f ys found.0 y ((same found.0).0 found.1) found.2,
  λ h. let found = part-of f ys y h in in-parts f xs found.0 y ((same found.0).1 found.1) found.2,
)

-- ---- the least source
pub least-none : (heads : List Heading) → least_source heads ≡ None → (head : Heading) → Contains heads head
    → head.source ≡ None
least-none [] h head c = absurd (omega (arith, c.1))
least-none (first ∷ heads) h head c = go (least-none heads) first.source (least_source heads) refl refl h
  where
    go : (least_source heads ≡ None → (head : Heading) → Contains heads head → head.source ≡ None)
        → (o p : Option (List ℕ)) → first.source ≡ o → least_source heads ≡ p → lesser_source o p ≡ None
        → head.source ≡ None
    go none None p own rest is = elim (Contains-cases first heads head c) [
      | inl e ↦ ap (λ (x : Heading). x.source) (sym e) ∙ own
      | inr later ↦ none (rest ∙ is) head later
    ]
    go none (Some a) None own rest is = cc
    go none (Some a) (Some b) own rest is = elim (cases_Bool (bytes_less (quote b) (quote a))) [
      | inl t ↦ absurd (let some : Some b ≡ None = sym (cond-true _ (Some b) (Some a) t) ∙ is in cc)
      | inr f ↦ absurd (let some : Some a ≡ None = sym (cond-false _ (Some b) (Some a) f) ∙ is in cc)
    ]

pub none-least : (heads : List Heading) → ((head : Heading) → Contains heads head → head.source ≡ None)
    → least_source heads ≡ None
none-least [] h = refl
none-least (first ∷ heads) h =
    ap (λ o. lesser_source o (least_source heads)) (h first (Contains-head first heads))
    ∙ none-least heads (λ head c. h head (Contains-cons first heads head c))

pub least-is : (heads : List Heading) (source : List ℕ) → least_source heads ≡ Some source → IsLeastSource heads source
least-is [] source h = absurd (cc)
least-is (first ∷ heads) source h = go (least-is heads) first.source (least_source heads) refl refl h
  where
    -- the first head's source, where it is the least
    first_is : (a : List ℕ) → first.source ≡ Some a → a ≡ source
        → ((head : Heading) (other : List ℕ) → Contains heads head → head.source ≡ Some other
        → bytes_less (quote other) (quote a) ≡ false) → IsLeastSource (first ∷ heads) source
    first_is a own same above = subst (IsLeastSource (first ∷ heads)) same (record {
      among = (first, Contains-head first heads, own);
      least = λ head other c from. elim (Contains-cases first heads head c) [
        | inl e ↦
            let one : other ≡ a = same_Some _ _ (sym from ∙ ap (λ (x : Heading). x.source) (sym e) ∙ own) in
            subst (λ t. bytes_less (quote t) (quote a) ≡ false) (sym one) (bytes_less_itself (quote a))
        | inr later ↦ above head other later from
      ];
    })

    -- that of the others, where it is
    later_is : (is : IsLeastSource heads source)
        → ((a : List ℕ) → first.source ≡ Some a → bytes_less (quote a) (quote source) ≡ false)
        → IsLeastSource (first ∷ heads) source
    later_is is above = record {
      among = (is.among.0, Contains-cons first heads is.among.0 is.among.1, is.among.2);
      least = λ head other c from. elim (Contains-cases first heads head c) [
        | inl e ↦ above other (ap (λ (x : Heading). x.source) e ∙ from)
        | inr later ↦ is.least head other later from
      ];
    }

    go : ((source : List ℕ) → least_source heads ≡ Some source → IsLeastSource heads source) → (o p : Option (List ℕ))
        → first.source ≡ o → least_source heads ≡ p → lesser_source o p ≡ Some source
        → IsLeastSource (first ∷ heads) source
    go again None p own rest is =
        later_is (again source (rest ∙ is)) (λ a own'. absurd (let some : None ≡ Some a = sym own ∙ own' in cc))
    go again (Some a) None own rest is =
        first_is a own (same_Some _ _ is) (λ head other c from. absurd (let some : None ≡ Some other =
        sym (least-none heads rest head c) ∙ from in cc))
    go again (Some a) (Some b) own rest is = elim (cases_Bool (bytes_less (quote b) (quote a))) [
      | inl t ↦
          let same : b ≡ source = same_Some _ _ (sym (cond-true _ (Some b) (Some a) t) ∙ is) in
          later_is (again source (rest ∙ ap Some same))
          (λ x own'.
          let one : x ≡ a = same_Some _ _ (sym own' ∙ own) in
          subst (λ z. bytes_less (quote z) (quote source) ≡ false) (sym one)
          (subst (λ z. bytes_less (quote a) (quote z) ≡ false) same (bytes_less-asym (quote b) (quote a) t)))
      | inr f ↦
          let same : a ≡ source = same_Some _ _ (sym (cond-false _ (Some b) (Some a) f) ∙ is) in
          let later = again b rest in
          first_is a own same (λ head other c from. bytes-below (quote a) (quote b) (quote other) f
          (later.least head other c from))
    ]

least-moved : (heads others : List Heading) → All IsWholeHead heads → HaveSameHeads heads others
    → least_source heads ≡ least_source others
least-moved heads others whole same = go (least_source heads) (least_source others) refl refl
  where
    go : (o p : Option (List ℕ)) → least_source heads ≡ o → least_source others ≡ p
        → least_source heads ≡ least_source others
    go None p is other = is ∙ sym (none-least others (λ head c. least-none heads is head ((same head).1 c)))
    go (Some a) None is other =
        is ∙ sym (sym (none-least heads (λ head c. least-none others other head ((same head).0 c))) ∙ is) ∙ sym other
    go (Some a) (Some b) is other =
        let mine = least-is heads a is in
        let theirs = least-is others b other in
        let back = (same theirs.among.0).1 theirs.among.1 in
        let first = mine.least theirs.among.0 b back theirs.among.2 in
        let second = theirs.least mine.among.0 a ((same mine.among.0).0 mine.among.1) mine.among.2 in
        let quotes = bytes-neither (quote a) (quote b) second first in
        let text : IsUtf8 a = subst (λ o. IfSome o IsUtf8) is (least-whole heads whole) in
        let other_text : IsUtf8 b = subst (λ o. IfSome o IsUtf8) theirs.among.2
        (All-contains IsWholeHead heads theirs.among.0 whole back).source in
        is ∙ ap Some (quote-once a b text other_text quotes) ∙ sym other

pub joined-moved : (heads others : List Heading) (head : Heading) → All IsWholeHead heads → HaveSameHeads heads others
    → IsJoinedHead heads head → IsJoinedHead others head
joined-moved heads others head whole same is = record {
  source = is.source ∙ least-moved heads others whole same;
  app_state = AreLeastEntries-moved (settings_of heads) (settings_of others) (pairs head.app_state)
      (parts-moved (λ (head : Heading). pairs head.app_state) heads others same) is.app_state;
  files = AreLeastEntries-moved (files_of heads) (files_of others) head.files
      (parts-moved (λ (head : Heading). head.files) heads others same) is.files;
}
