-- What the parts of an element are read as.
use Rattle.std.proofs.Common.{◌≡◌, ◌≢◌, ◌<◌, ℕ, suc, List, [], ◌∷◌, ◌++◌, length, take, get_or, Bool, false, Option, Some, None, Result, Err, refl, ap, subst, ◌∙◌, inl, inr, codes, bytes_eq}
use Rattle.std.specs.List.{AllByRecursion, list_any}
use Rattle.std.proofs.lemmas.Bool.{or_from}
use Rattle.json_text.proofs.CallerLemmas.{bytes_eq-apart, take-next}
use Rattle.json_text.specs.Characters.{quote}
use Rattle.json_text.specs.Compact.{Member as Pair, object_text}
use Rattle.json_text.specs.Tree.{null_word}
use Rattle.board_base.specs.declared.stop.Stop.{Stop}
use Rattle.board_base.specs.declared.stop.Stop.TheVariants.{Fault, Memory}
use Rattle.elem.specs.declared.kind.Kind.{Kind}
use Rattle.elem.specs.declared.kind.Role.{Role}
use Rattle.elem.specs.declared.kind.Role.TheVariants as roles
use Rattle.elem.specs.declared.parts.BoundRef.{BoundRef}
use Rattle.elem.specs.Facts.{known_names}
use Rattle.elem.specs.Forms.{Find, IsKindName, IsText, IsTextOrNull, IsKeyOrNull, IsListingEntry, AreListingEntries, IsBindingOrNull}
use Rattle.elem.specs.Said.{is_named, IsOwn}
use Rattle.elem.specs.Texts.{role_name}
use Rattle.elem_read.specs.Faults.{Lacks, LacksOwn, Fails, place_of, Passes, IsFirst}
use Rattle.elem_read.specs.inner.Parts.{Reads, TakesEntry}
use Rattle.elem_read.specs.declared.fault.ElemFault.{ElemFault}
use Rattle.elem_read.specs.declared.fault.ElemFault.TheVariants.{Index}
use Rattle.elem_read.proofs.Firsts.{first-at, own-fails}

pub no-role : (found : Option (List ℕ)) → (found ≡ Some (quote (codes "arrow")) → ⊥)
    → (found ≡ Some (quote (codes "text")) → ⊥) → (role : Role) → IsText found (role_name role) → ⊥
no-role found arrow text roles.Arrow is = arrow is.1
no-role found arrow text roles.Text is = text is.1

-- what is no key and no text
no-key : (found : Option (List ℕ)) → Lacks (IsTextOrNull found) → (key : Option (List ℕ)) → IsKeyOrNull found key → ⊥
no-key found lacks None (inl null) = lacks None null
no-key found lacks None (inr (text, is, other)) = lacks (Some text) is
no-key found lacks (Some key) is = lacks (Some key) is.0

pub index-fails : (found : Option (List ℕ)) (stop : Stop ElemFault) → Reads (IsTextOrNull found) Index (Err stop)
    → Reads (IsKeyOrNull found) Index (Err stop)
index-fails found (Fault other) is = (is.0, no-key found is.1)
index-fails found Memory is = tt

-- one item more
pub entries-push : (items : List (List ℕ)) (entries : List BoundRef) (item : List ℕ) (entry : BoundRef)
    → AreListingEntries items entries → IsListingEntry item entry
    → AreListingEntries (items ++ item ∷ []) (entries ++ entry ∷ [])
entries-push [] entries item entry are is = inl (entry, [], ap (λ es. es ++ entry ∷ []) are, is, refl)
entries-push (i ∷ items) entries item entry (inl (e, others, same, one, more)) is =
    inl (e, others ++ entry ∷ [], ap (λ es. es ++ entry ∷ []) same, one, entries-push items others item entry more is)
entries-push (i ∷ items) entries item entry (inr (none, more)) is =
    inr (none, entries-push items entries item entry more is)

pub entries-drop : (items : List (List ℕ)) (entries : List BoundRef) (item : List ℕ) → AreListingEntries items entries
    → Lacks (IsListingEntry item) → AreListingEntries (items ++ item ∷ []) entries
entries-drop [] entries item are lacks = inr (lacks, are)
entries-drop (i ∷ items) entries item (inl (e, others, same, one, more)) lacks =
    inl (e, others, same, one, entries-drop items others item more lacks)
entries-drop (i ∷ items) entries item (inr (none, more)) lacks = inr (none, entries-drop items entries item more lacks)

pub entries-more : (items : List (List ℕ)) (i : ℕ) (item : List ℕ) (old new : List BoundRef) → i < length items
    → item ≡ get_or items i item → AreListingEntries (take i items) old
    → TakesEntry item old new → AreListingEntries (take (suc i) items) new
entries-more items i item old new within here are (inl (entry, is, e)) =
    rw (take-next items i item within here, e) (entries-push (take i items) old item entry are is)
entries-more items i item old new within here are (inr (lacks, e)) =
    rw (take-next items i item within here, e) (entries-drop (take i items) old item are lacks)

-- ---- bindings
pub no-binding : (found : Option (List ℕ)) (value : List ℕ) → found ≡ Some value → value ≢ null_word
    → ((members : List Pair) → value ≢ object_text members) → Lacks (IsBindingOrNull found)
no-binding found value is other none None (inl (inl missing)) = cc
no-binding found value is other none None (inl (inr null)) = let same : value ≡ null_word = cc in other same
no-binding found value is other none None (inr one) =
    let e = one.found_is in let same : value ≡ one.value = cc in none one.members (same ∙ one.object.spelled)
no-binding found value is other none (Some binding) one =
    let e = one.found_is in let same : value ≡ one.value = cc in none one.members (same ∙ one.object.spelled)

-- ---- the element of all parts
pub own-at : {A : Type 0} (own named : Bool) (IsForm : Option (List ℕ) → Option A
    → Type 0) (found : Option (List ℕ)) (part : Option A) → own ≡ named → IsOwn own IsForm found part
    → IsOwn named IsForm found part
own-at own named IsForm found part e is = subst (λ (o : Bool). IsOwn o IsForm found part) e is

abbrev pub stopped : {F : Type 0} (A : Type 0) → Stop F → Result A (Stop F)
stopped A stop = Err stop

pub stop-same : {F : Type 0} (A : Type 0) (a b : Stop F) → stopped A a ≡ stopped A b → a ≡ b
stop-same A a b e = cc

-- a part of one kind alone that can't be read
pub own-first : {A : Type 0} (find : Find) (name member : List ℕ) (IsForm : Option (List ℕ) → Option A
    → Type 0) (kind : Kind) (known fault : ElemFault) (stop : Stop ElemFault) (own : Bool) → own ≡ is_named name kind
    → IsKindName (find (codes "type")) kind → Reads (IsOwn own IsForm (find member)) known (Err stop)
    → stop ≡ Fault fault → Passes (place_of known) find → (LacksOwn find name IsForm member → Fails known find)
    → IsFirst find fault
own-first find name member IsForm kind known fault stop own e is read same before fails =
    let P = λ (o : Bool). Reads (IsOwn o IsForm (find member)) known (Err stop) in
    first-at find (IsOwn (is_named name kind) IsForm (find member)) (IsOwn (is_named name kind) IsForm (find member))
    known fault stop (subst P e read) same before
    (λ lacks. fails (own-fails find name member IsForm kind is lacks))

all-apart : (name : List ℕ) (words : List (List ℕ)) → AllByRecursion (λ word. name ≢ word) words
    → list_any (bytes_eq name) words ≡ false
all-apart name [] others = refl
all-apart name (word ∷ words) others =
    or_from (bytes_eq name word) (list_any (bytes_eq name) words) (bytes_eq-apart name word others.0)
    (all-apart name words others.1)

pub other-kind : (name : List ℕ) → name ≢ codes "rectangle" → name ≢ codes "diamond" → name ≢ codes "ellipse"
    → name ≢ codes "arrow" → name ≢ codes "line" → name ≢ codes "freedraw" → name ≢ codes "text" → name ≢ codes "image"
    → name ≢ codes "frame" → name ≢ codes "magicframe" → name ≢ codes "iframe" → name ≢ codes "embeddable"
    → name ≢ codes "selection" → list_any (bytes_eq name) known_names ≡ false
other-kind name a b c d e f g h i j k l m =
    all-apart name known_names (a, (b, (c, (d, (e, (f, (g, (h, (i, (j, (k, (l, (m, tt)))))))))))))
