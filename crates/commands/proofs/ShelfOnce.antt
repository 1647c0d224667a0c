-- Libraries are made one text, or refused for one reason.
use Rattle.std.proofs.Common.{◌≡◌, ◌⊎◌, inl, inr, ℕ, ◌+◌, List, [], ◌∷◌, ◌++◌, true, false, length, drop, Result, Ok, Err, refl, sym, ap, ap₂, subst, ◌∙◌}
use Rattle.std.proofs.lemmas.Bool.{both_ways}
use Rattle.json_text.specs.Characters.{is_blank}
use Rattle.json_text.specs.Value.{Stands}
use Rattle.json_text.proofs.CallerLemmas.{Stands-once, drop-once}
use Rattle.json_reader.specs.Faults.{IsFirstFault}
use Rattle.json_reader.specs.declared.fault.JsonFault.{JsonFault}
use Rattle.input_texts.specs.Texts.{TextsLead}
use Rattle.library.specs.Libraries.{HaveItems, IsLibraryOfAll}
use Rattle.library.specs.Reading.{IsLibFault, IsLibraryOf}
use Rattle.library.specs.declared.fault.LibFault.{LibFault}
use Rattle.library.specs.declared.item.Item.{Item}
use Rattle.library.proofs.CallerLemmas.{lib_fault-once, library-faultless, library_of-once}
use Rattle.scene_file.specs.Reading.{IsSceneFaultAt}
use Rattle.scene_file.specs.declared.fault.SceneFault.TheVariants.{Json}
use Rattle.scene_file.proofs.CallerLemmas.{Stands-no_blank, fault-once}
use Rattle.commands.specs.Answers.{IsAnswer}
use Rattle.commands.specs.Faults.{newline}
use Rattle.commands.specs.Shelves.{HasFaultyLibrary, HasFaultyValue, HasLibrariesTo, HasTexts, IsShelfRefusal, IsShelved}
use Rattle.commands.specs.declared.status.InputRefusal.{InputRefusal}
use Rattle.commands.specs.declared.status.InputRefusal.TheVariants as refusal
use Rattle.commands.specs.declared.words.ProgramCommand.TheVariants.{Library}

-- no library stands at the front
abbrev HasNone : List ℕ → Type 0
HasNone bytes = (text rest : List ℕ) (items : List Item) → Stands bytes text rest → IsLibraryOf text items → ⊥

blank-none : (bytes : List ℕ) → is_blank bytes ≡ true → HasNone bytes
blank-none bytes blank text rest items stands is = Stands-no_blank bytes text rest stands blank

-- Libraries behind which none stands are determined, and so is what follows them.
leads-once : (bytes rest end : List ℕ) (texts others : List (List ℕ)) (items news : List Item) → HaveItems texts items
    → HaveItems others news
    → TextsLead bytes texts rest → TextsLead bytes others end → HasNone rest → HasNone end → (texts ≡ others)
    × (rest ≡ end)
leads-once bytes rest end [] [] items news have also lead other none last = (refl, sym lead ∙ other)
leads-once bytes rest end [] (u ∷ us) items news have (own, more, all, read, haves) lead (
  next,
  stands,
  leads,
) none last =
    absurd (subst HasNone (sym lead) none u next own stands read)
leads-once bytes rest end (t ∷ ts) [] items news (own, more, all, read, haves) also (next, stands, leads) lead none
    last =
    absurd (subst HasNone (sym lead) last t next own stands read)
leads-once bytes rest end (t ∷ ts) (u ∷ us) items news (own, more, all, read, haves) (
  its,
  others,
  whole,
  is,
  have,
) (next, stands, lead) (after, here, leads) none last =
    let same = Stands-once stands here in
    let both = leads-once after rest end ts us more others haves have (subst (λ b. TextsLead b ts rest) same.1 lead)
    leads none last in
    (ap₂ (λ x xs. x ∷ xs) same.0 both.0, both.1)

-- ---- places
fault-none : (bytes : List ℕ) (at : ℕ) (fault : JsonFault) → IsFirstFault bytes at fault → HasNone (drop at bytes)
fault-none bytes at fault is text rest items stands read = is.faulty text rest stands

library-none : (bytes : List ℕ) (at : ℕ) (text rest : List ℕ) (fault : LibFault) → Stands (drop at bytes) text rest
    → IsLibFault text fault → HasNone (drop at bytes)
library-none bytes at text rest fault stands faulty other end items also read =
    library-faultless text items (subst (λ t. IsLibraryOf t items) (sym (Stands-once stands also).0) read) fault faulty

-- The libraries up to two places behind which none stands end at one place.
record AreOne (start other count number : ℕ) : Type 0 where
  pub places : start ≡ other
  pub counts : count ≡ number

places-once : (bytes : List ℕ) (start other count number : ℕ) → HasLibrariesTo bytes start count
    → HasLibrariesTo bytes other number → HasNone (drop start bytes) → HasNone (drop other bytes)
    → AreOne start other count number
places-once bytes start other count number one two none last =
    let both = leads-once bytes (drop start bytes) (drop other bytes) one.texts two.texts one.items two.items one.read
    two.read one.lead two.lead none last in
    record {
      places = drop-once bytes start other one.within two.within both.1;
      counts = one.counted ∙ (ap (λ (ts : List (List ℕ)). length ts) both.0 ∙ sym two.counted);
    }

-- ---- refusals
value-once : (bytes : List ℕ) (n m : ℕ) (f g : JsonFault) → HasFaultyValue bytes n f → HasFaultyValue bytes m g
    → (n ≡ m) × (f ≡ g)
value-once bytes n m f g (start, count, is, to, faulty) (other, number, also, too, wrong) =
    let same = places-once bytes start other count number to too (fault-none bytes start f faulty)
    (fault-none bytes other g wrong) in
    let faults : Json f ≡ Json g = fault-once bytes other (Json f) (Json g)
    (subst (λ at. IsSceneFaultAt bytes at (Json f)) same.places faulty) wrong in
    (is ∙ (ap (λ k. k + 1) same.counts ∙ sym also), cc)

library-once : (bytes : List ℕ) (n m : ℕ) (f g : LibFault) → HasFaultyLibrary bytes n f → HasFaultyLibrary bytes m g
    → (n ≡ m) × (f ≡ g)
library-once bytes n m f g (start, count, is, to, (text, rest, stands, faulty)) (
  other,
  number,
  also,
  too,
  (word, end, here, wrong),
) =
    let same = places-once bytes start other count number to too (library-none bytes start text rest f stands faulty)
    (library-none bytes other word end g here wrong) in
    let texts = (Stands-once (subst (λ at. Stands (drop at bytes) text rest) same.places stands) here).0 in (
      is ∙ (ap (λ k. k + 1) same.counts ∙ sym also),
      lib_fault-once word f g (subst (λ t. IsLibFault t f) texts faulty) wrong,
    )

value-library : (bytes : List ℕ) (n m : ℕ) (f : JsonFault) (g : LibFault) → HasFaultyValue bytes n f
    → HasFaultyLibrary bytes m g → ⊥
value-library bytes n m f g (start, count, is, to, faulty) (other, number, also, too, (word, end, here, wrong)) =
    let same = places-once bytes start other count number to too (fault-none bytes start f faulty)
    (library-none bytes other word end g here wrong) in
    (subst (λ at. IsFirstFault bytes at f) same.places faulty).faulty word end here

shelf-refusal-once : (bytes : List ℕ) (f g : InputRefusal) → IsShelfRefusal bytes f → IsShelfRefusal bytes g → f ≡ g
shelf-refusal-once bytes f g (inl (n, fault, is, faulty)) (inl (m, other, also, wrong)) =
    let same = value-once bytes n m fault other faulty wrong in is
    ∙ (ap₂ (λ k (j : JsonFault). refusal.Text k (Json j)) same.0 same.1 ∙ sym also)
shelf-refusal-once bytes f g (inl (n, fault, is, faulty)) (inr (m, other, also, wrong)) =
    absurd (value-library bytes n m fault other faulty wrong)
shelf-refusal-once bytes f g (inr (n, fault, is, faulty)) (inl (m, other, also, wrong)) =
    absurd (value-library bytes m n other fault wrong faulty)
shelf-refusal-once bytes f g (inr (n, fault, is, faulty)) (inr (m, other, also, wrong)) =
    let same = library-once bytes n m fault other faulty wrong in is ∙ (ap₂ refusal.Library same.0 same.1 ∙ sym also)

-- libraries that are all of an input are not followed by a fault
none-behind : (bytes text : List ℕ) (start count : ℕ) → IsShelved bytes text → HasLibrariesTo bytes start count
    → HasNone (drop start bytes) → ⊥
none-behind bytes text start count is to none =
    let both = leads-once bytes is.holds.rest (drop start bytes) is.texts to.texts is.library.items to.items
    is.library.read to.read is.holds.lead to.lead
    (blank-none is.holds.rest is.holds.space) none in
    by both.0 both.1 to.begun
  where
    by : is.texts ≡ to.texts → is.holds.rest ≡ drop start bytes → (to.texts ≡ [])
        ⊎ (is_blank (drop start bytes) ≡ false) → ⊥
    by texts rest (inl empty) = is.holds.some (texts ∙ empty)
    by texts rest (inr more) = both_ways (is_blank (drop start bytes)) more (sym (ap is_blank rest) ∙ is.holds.space)

shelf-none : (bytes text : List ℕ) (f : InputRefusal) → IsShelved bytes text → IsShelfRefusal bytes f → ⊥
shelf-none bytes text f is (inl (n, fault, also, (start, count, counted, to, faulty))) =
    none-behind bytes text start count is to (fault-none bytes start fault faulty)
shelf-none bytes text f is (inr (n, fault, also, (start, count, counted, to, (word, rest, stands, faulty)))) =
    none-behind bytes text start count is to (library-none bytes start word rest fault stands faulty)

-- an input that is libraries is one list of them
pub texts-once : (bytes : List ℕ) (texts others : List (List ℕ)) (items news : List Item) → HasTexts bytes texts
    → HaveItems texts items → HasTexts bytes others → HaveItems others news → texts ≡ others
texts-once bytes texts others items news holds have also read =
    (leads-once bytes holds.rest also.rest texts others items news have read holds.lead also.lead
    (blank-none holds.rest holds.space) (blank-none also.rest also.space)).0

pub shelved-once : (bytes text other : List ℕ) → IsShelved bytes text → IsShelved bytes other → text ≡ other
shelved-once bytes text other one two =
    let texts = texts-once bytes one.texts two.texts one.library.items two.library.items one.holds one.library.read
    two.holds two.library.read in
    one.ended
    ∙ (ap (λ t. t ++ newline) (library_of-once two.texts one.written two.written
    (subst (λ ts. IsLibraryOfAll ts one.written) texts one.library) two.library) ∙ sym two.ended)

pub shelf-once : (bytes : List ℕ) (answer other : Result (List ℕ) InputRefusal) → IsAnswer Library bytes answer
    → IsAnswer Library bytes other → answer ≡ other
shelf-once bytes (Ok a) (Ok b) is also = ap Ok (shelved-once bytes a b is also)
shelf-once bytes (Ok a) (Err g) is also = absurd (shelf-none bytes a g is also)
shelf-once bytes (Err f) (Ok b) is also = absurd (shelf-none bytes b f also is)
shelf-once bytes (Err f) (Err g) is also = ap Err (shelf-refusal-once bytes f g is also)
