-- The libraries that a reader has read, and what stops it.
use Rattle.std.proofs.Common.{◌≡◌, ◌⊎◌, inl, inr, ℕ, ◌+◌, ◌==◌, List, [], ◌∷◌, ◌++◌, true, false, refl, sym, ap, ◌∙◌, length, drop, arith, length-append, append_assoc, append-nil}
use Rattle.std.proofs.lemmas.Bool.{false≢true}
use Rattle.std.proofs.lemmas.Bool.Decides.{nat_tests}
use Rattle.json_text.specs.Characters.{is_blank}
use Rattle.input_texts.specs.Texts.{HasTexts as AreTexts, IsStopped}
use Rattle.input_texts.specs.declared.reading.Stopped.{Stopped}
use Rattle.input_texts.specs.declared.reading.Stopped.TheVariants.{Faulty, Refused, Extra}
use Rattle.library.specs.Best.{AreBest}
use Rattle.library.specs.Libraries.{HaveItems}
use Rattle.library.specs.Reading.{IsLibraryOf}
use Rattle.library.specs.declared.fault.LibFault.{LibFault}
use Rattle.library.specs.declared.item.Item.{Item}
use Rattle.commands.specs.Shelves.{HasTexts, IsShelfRefusal}
use Rattle.commands.specs.inner.Shelves.{SayShelf, ShelfSoFar, shelf_refusal_of, shelf_seen}

pub have-more : (texts : List (List ℕ)) (items : List Item) (text : List ℕ) (own : List Item) → HaveItems texts items
    → IsLibraryOf text own → HaveItems (texts ++ text ∷ []) (items ++ own)
have-more [] items text own none is = (own, [], ap (λ all. all ++ own) none ∙ sym (append-nil own), is, refl)
have-more (first ∷ texts) items text own (some, others, all, read, have) is = (
  some,
  others ++ own,
  ap (λ xs. xs ++ own) all ∙ append_assoc some others own,
  read,
  have-more texts others text own have is,
)

pub shelf-more : (texts : List (List ℕ)) (text : List ℕ) (own : List Item) (old new : ShelfSoFar) → SayShelf texts old
    → IsLibraryOf text own
    → ((others : List Item) → AreBest others old.best → AreBest (others ++ own) new.best) → new.next ≡ old.next + 1
    → SayShelf (texts ++ text ∷ []) new
shelf-more texts text own old new read is best counted = record {
  items = read.items ++ own;
  read = have-more texts read.items text own read.read is;
  are_best = best read.items read.are_best;
  counted = omega (arith, counted, read.counted, length-append texts (text ∷ []));
}

none-read : (texts : List (List ℕ)) (next : ℕ) → next ≡ length texts + 1 → (next == 1) ≡ true → texts ≡ []
none-read [] next counted first = refl
none-read (text ∷ texts) next counted first = absurd (omega (arith, counted, one-of next first))
  where
    one-of : (n : ℕ) → (n == 1) ≡ true → n ≡ 1
    one-of n e = grind (arith, nat_tests)

some-read : (texts : List (List ℕ)) (next : ℕ) → next ≡ length texts + 1 → (next == 1) ≡ false → texts ≡ [] → ⊥
some-read texts next counted later none =
    false≢true (sym later ∙ ap (λ n. n == 1) (counted ∙ ap (λ (xs : List (List ℕ)). length xs + 1) none))

pub shelf-read : (bytes : List ℕ) (so_far : ShelfSoFar) → AreTexts bytes (shelf_seen so_far)
    → (texts : List (List ℕ)) × (items : List Item) × HasTexts bytes texts × HaveItems texts items
    × AreBest items so_far.best
shelf-read bytes so_far h =
    let read = h.behind.read in (
      h.texts,
      read.items,
      record {
        some = some-read h.texts so_far.next read.counted h.enough;
        rest = drop h.start bytes;
        lead = h.behind.lead;
        space = h.space;
      },
      read.read,
      read.are_best,
    )

begun-at : (texts : List (List ℕ)) (next : ℕ) (more : List ℕ) → next ≡ length texts + 1 → ((next == 1) ≡ true)
    ⊎ (is_blank more ≡ false) → (texts ≡ []) ⊎ (is_blank more ≡ false)
begun-at texts next more counted (inl needs) = inl (none-read texts next counted needs)
begun-at texts next more counted (inr begun) = inr begun

pub shelf-refused : (bytes : List ℕ) (so_far : ShelfSoFar) (stopped : Stopped LibFault)
    → IsStopped bytes (shelf_seen so_far) stopped → IsShelfRefusal bytes (shelf_refusal_of so_far.next stopped)
shelf-refused bytes so_far (Faulty fault) h =
    let read = h.behind.read in
    inl (
      so_far.next,
      fault,
      refl,
      (
        h.start,
        length h.texts,
        read.counted,
        record {
          texts = h.texts;
          items = read.items;
          read = read.read;
          within = h.behind.within;
          lead = h.behind.lead;
          counted = refl;
          begun = begun-at h.texts so_far.next (drop h.start bytes) read.counted h.begun;
        },
        h.faulty,
      ),
    )
shelf-refused bytes so_far (Refused fault) h =
    let read = h.refused.0 in
    inr (
      so_far.next,
      fault,
      refl,
      (
        h.start,
        length h.texts,
        read.counted,
        record {
          texts = h.texts;
          items = read.items;
          read = read.read;
          within = h.within;
          lead = h.lead;
          counted = refl;
          begun = inr h.begun;
        },
        (h.text, h.rest, h.stands, h.refused.1),
      ),
    )
shelf-refused bytes so_far (Extra place) h = absurd (false≢true h.full)
