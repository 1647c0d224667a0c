-- The library of several texts.
use Rattle.std.proofs.Common.{◌≡◌, ℕ, List, [], ◌∷◌, ◌++◌, None, All, Contains, map, refl, sym, ap, ap₂, subst, ◌∙◌, append_assoc, append-nil, arith}
use Rattle.std.proofs.lemmas.List.Elements.{All-append, All-contains, All-contains_itself, All-weaker}
use Rattle.library.specs.Best.{AreBest, HaveSameItems, IsBest}
use Rattle.library.specs.Items.{item_text, library_text}
use Rattle.library.specs.Libraries.{HaveItems, HaveSameItemsIn, IsLibraryOfAll}
use Rattle.library.specs.Reading.{IsItemIn, IsLibraryOf, IsWholeItem}
use Rattle.library.specs.declared.item.Item.{Item}
use Rattle.library.proofs.BestLaws.{AreBest-best, StandFor, best-alike, best-back, best-exist, best-stand, library-same, stand-append, stand-best, IsTied}
use Rattle.library.proofs.ItemOnce.{item-once}
use Rattle.library.proofs.LibraryOnce.{library-once}
use Rattle.library.proofs.OrderLaws.{better-neither}
use Rattle.library.proofs.Rising.{same_along}
use Rattle.library.proofs.Whole.{items-whole, library-back}

-- ---- whole items
pub library-whole : (text : List ℕ) (items : List Item) → IsLibraryOf text items → All IsWholeItem items
library-whole text items is = items-whole is.values items is.read

-- whole items with one text are one
text-one : (item other : Item) → IsWholeItem item → IsWholeItem other → item_text item ≡ item_text other → item ≡ other
text-one item other one two same =
    item-once (item_text item) item other one (subst (λ text. IsItemIn text other) (sym same) two)

-- of whole items one alone is the best of its id
pub best-one : (items : List Item) (item other : Item) → All IsWholeItem items → IsBest items item → IsBest items other
    → item.id ≡ other.id → item ≡ other
best-one items item other whole one two e =
    text-one item other (All-contains IsWholeItem items item whole one.among)
    (All-contains IsWholeItem items other whole two.among)
    (better-neither item other (two.unbeaten item one.among e) (one.unbeaten other two.among (sym e))).1

map-self : (items : List Item) → map (λ (item : Item). item) items ≡ items
map-self [] = refl
map-self (item ∷ items) = ap (λ xs. item ∷ xs) (map-self items)

-- the best of whole items depend on their set alone
pub best-same : (items others best news : List Item) → HaveSameItems items others → All IsWholeItem items
    → AreBest items best → AreBest others news → best ≡ news
best-same items others best news same whole h k =
    let R = λ (x y : Item). IsBest items x × IsBest items y × IsTied x y in
    sym (map-self best)
    ∙ same_along (λ (item : Item). item) R
    (λ x y t. text-one x y (All-contains IsWholeItem items x whole t.0.among)
    (All-contains IsWholeItem items y whole t.1.among) (better-neither x y t.2.0 t.2.1).1)
    None None best news h.ordered k.ordered (best-alike items others best news same h k)
    (best-back items others best news same h k)
    ∙ map-self news

whole-best : (items best : List Item) → All IsWholeItem items → AreBest items best → All IsWholeItem best
whole-best items best whole h =
    All-weaker (Contains best) IsWholeItem
    (λ item c. All-contains IsWholeItem items item whole (h.each_is_best item c).among) best
    (All-contains_itself best)

-- ---- the items of texts
pub have-append : (texts others : List (List ℕ)) (items more : List Item) → HaveItems texts items → HaveItems others more
    → HaveItems (texts ++ others) (items ++ more)
have-append [] others items more one two = subst (λ xs. HaveItems others (xs ++ more)) (sym one) two
have-append (text ∷ texts) others items more (own, rest, all, is, one) two = (
  own,
  rest ++ more,
  ap (λ xs. xs ++ more) all ∙ append_assoc own rest more,
  is,
  have-append texts others rest more one two,
)

have-once : (texts : List (List ℕ)) (items others : List Item) → HaveItems texts items → HaveItems texts others
    → items ≡ others
have-once [] items others one two = one ∙ sym two
have-once (text ∷ texts) items others (own, rest, all, is, one) (own', rest', all', is', two) =
    all ∙ (ap₂ (λ xs ys. xs ++ ys) (library-once text own own' is is') (have-once texts rest rest' one two) ∙ sym all')

have-whole : (texts : List (List ℕ)) (items : List Item) → HaveItems texts items → All IsWholeItem items
have-whole [] items one = subst (All IsWholeItem) (sym one) (λ k d l. absurd (omega arith))
have-whole (text ∷ texts) items (own, rest, all, is, one) =
    subst (All IsWholeItem) (sym all) (All-append IsWholeItem own rest (library-whole text own is)
    (have-whole texts rest one))

-- ---- libraries of texts
pub library-of_set : (texts others : List (List ℕ)) (output other : List ℕ) → HaveSameItemsIn texts others
    → IsLibraryOfAll texts output → IsLibraryOfAll others other → output ≡ other
library-of_set texts others output other same one two =
    let first = have-once texts same.items one.items same.texts_have one.read in
    let second = have-once others same.other_items two.items same.others_have two.read in
    one.output_is
    ∙ library-same one.items two.items one.best two.best
    (subst (λ xs. HaveSameItems xs two.items) first (subst (HaveSameItems same.items) second same.same))
    one.are_best two.are_best
    ∙ sym two.output_is

-- texts of libraries have a library
pub library-exists : (texts : List (List ℕ)) (items : List Item) → HaveItems texts items → (output : List ℕ)
    × IsLibraryOfAll texts output
library-exists texts items have =
    let best = best-exist items in (
      library_text best.0,
      record { items = items; read = have; best = best.0; are_best = best.1; output_is = refl },
    )

-- and texts with the same items have the same one
pub library-same_items : (texts others : List (List ℕ)) (output : List ℕ) → HaveSameItemsIn texts others
    → IsLibraryOfAll texts output → IsLibraryOfAll others output
library-same_items texts others output same is =
    let theirs = library-exists others same.other_items same.others_have in
    subst (IsLibraryOfAll others) (sym (library-of_set texts others output theirs.0 same is theirs.1)) theirs.1

itself : (items : List Item) → HaveSameItems items items
itself items = record { in_others = λ item c. c; in_items = λ item c. c }

-- texts have one library at most
pub library_of-once : (texts : List (List ℕ)) (output other : List ℕ) → IsLibraryOfAll texts output
    → IsLibraryOfAll texts other → output ≡ other
library_of-once texts output other one two =
    library-of_set texts texts output other (record {
      items = one.items;
      other_items = one.items;
      texts_have = one.read;
      others_have = one.read;
      same = itself one.items;
    }) one two

-- a library that is written is a text, which is read as its items
pub written-read : (texts : List (List ℕ)) (output : List ℕ) (is : IsLibraryOfAll texts output) → IsLibraryOf output is.best
written-read texts output is =
    subst (λ text. IsLibraryOf text is.best) (sym is.output_is)
    (library-back is.best (whole-best is.items is.best (have-whole texts is.items is.read) is.are_best))

-- items that stand for those of texts have the library of these
pub library-stand : (texts others : List (List ℕ)) (items news : List Item) (output : List ℕ) → HaveItems texts items
    → HaveItems others news → StandFor news items → IsLibraryOfAll others output → IsLibraryOfAll texts output
library-stand texts others items news output have read stand is = record {
  items = items;
  read = have;
  best = is.best;
  are_best = stand-best items news is.best stand
      (subst (λ xs. AreBest xs is.best) (have-once others is.items news is.read read) is.are_best);
  output_is = is.output_is;
}

pub libraries-join : (texts others : List (List ℕ)) (output other all : List ℕ) → IsLibraryOfAll texts output
    → IsLibraryOfAll others other → IsLibraryOfAll (output ∷ other ∷ []) all → IsLibraryOfAll (texts ++ others) all
libraries-join texts others output other all one two =
    library-stand (texts ++ others) (output ∷ other ∷ []) (one.items ++ two.items) (one.best ++ two.best) all
    (have-append texts others one.items two.items one.read two.read) (
      one.best,
      two.best,
      refl,
      written-read texts output one,
      (
        two.best,
        [],
        sym (append-nil two.best),
        written-read others other two,
        refl,
      ),
    ) (stand-append one.items two.items one.best two.best (best-stand one.items one.best one.are_best)
    (best-stand two.items two.best two.are_best))

pub library-own : (texts : List (List ℕ)) (output : List ℕ) → IsLibraryOfAll texts output
    → IsLibraryOfAll (output ∷ []) output
library-own texts output is = record {
  items = is.best;
  read = (is.best, [], sym (append-nil is.best), written-read texts output is, refl);
  best = is.best;
  are_best = AreBest-best is.items is.best is.are_best;
  output_is = is.output_is;
}

pub library-only : (texts : List (List ℕ)) (output other : List ℕ) → IsLibraryOfAll texts output
    → IsLibraryOfAll (output ∷ []) other → other ≡ output
library-only texts output other one two = library_of-once (output ∷ []) other output two (library-own texts output one)
