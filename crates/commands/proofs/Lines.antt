-- Lines on files, one after the other.
use Rattle.std.proofs.Common.{◌≡◌, ℕ, ◌+◌, ◌<◌, List, [], ◌∷◌, ◌++◌, length, take, get_or, codes, refl, sym, ap, subst, ◌∙◌, append_assoc, append-nil}
use Rattle.std.proofs.lemmas.List.{take_more, map-append}
use Rattle.json_text.specs.Characters.{quote}
use Rattle.json_text.specs.Compact.{Member as Pair}
use Rattle.json_text.specs.Members.{pair_of, pairs}
use Rattle.json_text.specs.declared.text.Member.{Member}
use Rattle.commands.specs.Faults.{newline}
use Rattle.commands.specs.Pictures.{AreLines, IsToldOfPicture}

line-parts : (name told rest : List ℕ) → (quote name ++ (codes " " ++ (told ++ newline))) ++ rest ≡ quote name
    ++ (codes " " ++ (told ++ (newline ++ rest)))
line-parts name told rest =
    append_assoc (quote name) _ rest
    ∙ ap (λ x. quote name ++ x) (append_assoc (codes " ") (told ++ newline) rest
    ∙ ap (λ x. codes " " ++ x) (append_assoc told newline rest))

-- One line more stands behind those that are there.
pub AreLines-more : (files : List Pair) (lines : List ℕ) (file : Pair) (told : List ℕ) → AreLines files lines
    → IsToldOfPicture file.1 told
    → AreLines (files ++ file ∷ []) (lines ++ (quote file.0 ++ (codes " " ++ (told ++ newline))))
AreLines-more [] lines file told are is = (
  told,
  [],
  is,
  refl,
  ap (λ x. x ++ (quote file.0 ++ (codes " " ++ (told ++ newline)))) are
      ∙ (sym (append-nil _) ∙ line-parts file.0 told []),
)
AreLines-more (first ∷ files) lines file told (words, rest, also, more, made) is =
    let line = quote file.0 ++ (codes " " ++ (told ++ newline)) in (
      words,
      rest ++ line,
      also,
      AreLines-more files rest file told more is,
      ap (λ x. x ++ line) made
          ∙ (append_assoc (quote first.0) _ line
          ∙ ap (λ x. quote first.0 ++ x) (append_assoc (codes " ") _ line
          ∙ ap (λ x. codes " " ++ x) (append_assoc words _ line
          ∙ ap (λ x. words ++ x) (append_assoc newline rest line)))),
    )

-- The lines on the files so far and on one more.
pub lines-next : (files : List Member) (i : ℕ) (file : Member) (lines new told : List ℕ) → i < length files
    → file ≡ get_or files i file → AreLines (pairs (take i files)) lines
    → IsToldOfPicture file.value told → new ≡ lines ++ (quote file.name ++ (codes " " ++ (told ++ newline)))
    → AreLines (pairs (take (i + 1) files)) new
lines-next files i file lines new told within at are is made =
    let next : take (i + 1) files ≡ take i files ++ file ∷ [] =
    take_more files i file within ∙ ap (λ f. take i files ++ f ∷ []) (sym at) in
    let all : pairs (take i files) ++ pair_of file ∷ [] ≡ pairs (take (i + 1) files) =
    sym (ap pairs next ∙ map-append pair_of (take i files) (file ∷ [])) in
    subst (λ ps. AreLines ps new) all (subst (AreLines (pairs (take i files) ++ pair_of file ∷ [])) (sym made)
    (AreLines-more (pairs (take i files)) lines (pair_of file) told are is))
