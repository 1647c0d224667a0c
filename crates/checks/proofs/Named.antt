-- A set of the files that elements name, after one element more.
use Rattle.std.proofs.Common.{◌≡◌, ℕ, Bool, true, false, cond, ◌||◌, List, [], ◌∷◌, ◌++◌, Some, None, bytes_eq, nat_cmp, refl, sym, ap, ◌∙◌, append-nil}
use Rattle.std.specs.BTreeSet.{BTreeSet, contains, Updates}
use Rattle.std.specs.Cmp.Lexicographic.{slice_cmp, nat_list_eq_equiv, texts_ties}
use Rattle.std.specs.List.{list_any, cons_option}
use Rattle.std.proofs.lemmas.List.Elements.{filter_map-append}
use Rattle.std.proofs.lemmas.List.Folds.{list_any-append}
use Rattle.elem.specs.ElementValue.{ElementValue}
use Rattle.file_table.specs.References.{references}
use Rattle.checks.specs.inner.Named.{AreNamed}

references-more : (elements : List ElementValue) (e : ElementValue)
    → references (elements ++ e ∷ []) ≡ references elements ++ cons_option e.file []
references-more elements e = filter_map-append (λ (d : ElementValue). d.file) elements (e ∷ [])

pub named-none : (named : BTreeSet (List ℕ)) (elements : List ElementValue) (e : ElementValue) → e.file ≡ None
    → AreNamed named elements → AreNamed named (elements ++ e ∷ [])
named-none named elements e none are id =
    are id
    ∙ ap (list_any (bytes_eq id)) (sym (references-more elements e
    ∙ (ap (λ o. references elements ++ cons_option o []) none ∙ append-nil (references elements))))

either : (same among : Bool) → cond same true among ≡ (among || (same || false))
either true true = refl
either true false = refl
either false true = refl
either false false = refl

pub named-some : (named new : BTreeSet (List ℕ)) (elements : List ElementValue) (e : ElementValue) (file : List ℕ)
    → e.file ≡ Some file → Updates (slice_cmp nat_cmp) named new file true → AreNamed named elements
    → AreNamed new (elements ++ e ∷ [])
named-some named new elements e file some updates are id =
    updates.0 id
    ∙ (ap (λ b. cond b true (contains (slice_cmp nat_cmp) named id)) (sym (texts_ties file id)
    ∙ nat_list_eq_equiv.symm file id)
    ∙ (ap (cond (bytes_eq id file) true) (are id)
    ∙ (either (bytes_eq id file) (list_any (bytes_eq id) (references elements))
    ∙ (sym (list_any-append (bytes_eq id) (references elements) (file ∷ []))
    ∙ ap (list_any (bytes_eq id)) (sym (references-more elements e
    ∙ ap (λ o. references elements ++ cons_option o []) some))))))
