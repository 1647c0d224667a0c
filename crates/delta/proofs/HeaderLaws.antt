-- The scalar header members by their names.
use Rattle.std.proofs.Common.{◌≡◌, ◌≢◌, ℕ, Bool, true, false, ◌||◌, List, Option, Some, None, inl, inr, codes, bytes_eq, if◌then◌else◌, refl, sym, ap, ◌∙◌}
use Rattle.std.specs.List.{list_any}
use Rattle.std.proofs.lemmas.Bool.{cases_Bool, false≢true, or_parts}
use Rattle.std.proofs.lemmas.Option.{none-some, same_Some}
use Rattle.json_text.proofs.CallerLemmas.{bytes_eq-true, bytes_eq-same, bytes_eq-apart}
use Rattle.json_text.specs.declared.text.Member.{Member}
use Rattle.elem.specs.declared.kind.Kind.{Kind}
use Rattle.elem.specs.declared.kind.Kind.TheVariants.{Rectangle, Diamond, Ellipse, Arrow, Line, Freedraw, Text, Image, Frame, Magicframe, Iframe, Embeddable, Other}
use Rattle.elem.specs.ElementValue.{ElementValue}
use Rattle.elem.specs.Facts.{is_header, own_names}
use Rattle.delta.specs.declared.header.Header.{Header}
use Rattle.delta.specs.declared.header.Header.TheVariants as headers
use Rattle.delta.specs.Facts.{other_names}
use Rattle.delta.specs.Headers.{own_header, header_named, scalar_text, value_named, scalar_at}
use Rattle.delta.specs.inner.Kept.{IsHeaderSet, IsScalarSet}

-- the name of a header member
abbrev pub header_name : Header → List ℕ
header_name headers.Deleted = codes "isDeleted"
header_name headers.Index = codes "index"
header_name headers.Frame = codes "frameId"
header_name headers.Container = codes "containerId"
header_name headers.StartBinding = codes "startBinding"
header_name headers.EndBinding = codes "endBinding"
header_name headers.File = codes "fileId"

tested : (n : List ℕ) (k h : Header) (rest : Option Header) → (rest ≡ Some h → n ≡ header_name h)
    → (if bytes_eq n (header_name k) then Some k else rest) ≡ Some h → n ≡ header_name h
tested n k h rest later e =
    elim (cases_Bool (bytes_eq n (header_name k))) [
      | inl t ↦ bytes_eq-true n (header_name k) t
          ∙ ap header_name (same_Some k h (sym (ap (λ b. if b then Some k else rest) t) ∙ e))
      | inr f ↦ later (sym (ap (λ b. if b then Some k else rest) f) ∙ e)
    ]

pub own-named : (kind : Kind) (n : List ℕ) (h : Header) → own_header kind n ≡ Some h → n ≡ header_name h
own-named Text n h e = tested n headers.Container h None (λ e. absurd (none-some h e)) e
own-named Arrow n h e =
    tested n headers.StartBinding h _ (tested n headers.EndBinding h None (λ e. absurd (none-some h e))) e
own-named Image n h e = tested n headers.File h None (λ e. absurd (none-some h e)) e
own-named Rectangle n h e = absurd (none-some h e)
own-named Diamond n h e = absurd (none-some h e)
own-named Ellipse n h e = absurd (none-some h e)
own-named Line n h e = absurd (none-some h e)
own-named Freedraw n h e = absurd (none-some h e)
own-named Frame n h e = absurd (none-some h e)
own-named Magicframe n h e = absurd (none-some h e)
own-named Iframe n h e = absurd (none-some h e)
own-named Embeddable n h e = absurd (none-some h e)
own-named (Other name) n h e = absurd (none-some h e)

pub named : (kind : Kind) (n : List ℕ) (h : Header) → header_named kind n ≡ Some h → n ≡ header_name h
named kind n h e =
    tested n headers.Deleted h _ (tested n headers.Index h _ (tested n headers.Frame h _ (own-named kind n h))) e

pub named-once : (kind : Kind) (n m : List ℕ) (h : Header) → header_named kind n ≡ Some h → header_named kind m ≡ Some h
    → n ≡ m
named-once kind n m h e f = named kind n h e ∙ sym (named kind m h f)

-- ---- header members are no further members
-- whether it is the name of a scalar header member
own-tested : (kind : Kind) (n : List ℕ) → own_header kind n ≡ None → list_any (bytes_eq n) (own_names kind) ≡ false
own-tested Text n e = only n (codes "containerId") headers.Container e
  where
    only : (n c : List ℕ) (h : Header) → (if bytes_eq n c then Some h else None) ≡ None
        → (bytes_eq n c || false) ≡ false
    only n c h e = elim (cases_Bool (bytes_eq n c)) [
      | inl t ↦ absurd (none-some h (sym (sym (ap (λ b. if b then Some h else None) t) ∙ e)))
      | inr f ↦ ap (λ b. b || false) f
    ]
own-tested Image n e = only n (codes "fileId") headers.File e
  where
    only : (n c : List ℕ) (h : Header) → (if bytes_eq n c then Some h else None) ≡ None
        → (bytes_eq n c || false) ≡ false
    only n c h e = elim (cases_Bool (bytes_eq n c)) [
      | inl t ↦ absurd (none-some h (sym (sym (ap (λ b. if b then Some h else None) t) ∙ e)))
      | inr f ↦ ap (λ b. b || false) f
    ]
own-tested Arrow n e =
    elim (cases_Bool (bytes_eq n (codes "startBinding"))) [
      | inl t ↦ absurd (none-some headers.StartBinding
          (sym
          (sym
          (ap (λ b. if b then Some headers.StartBinding
          else (if bytes_eq n (codes "endBinding") then Some headers.EndBinding else None)) t) ∙ e)))
      | inr f ↦
          let e' =
          sym
          (ap (λ b. if b then Some headers.StartBinding else (if bytes_eq n (codes "endBinding") then Some
          headers.EndBinding else None)) f) ∙ e in
          elim (cases_Bool (bytes_eq n (codes "endBinding"))) [
            | inl t ↦ absurd (none-some headers.EndBinding
                (sym (sym (ap (λ b. if b then Some headers.EndBinding else None) t) ∙ e')))
            | inr g ↦ ap (λ b. b || (bytes_eq n (codes "endBinding") || false)) f ∙ ap (λ b. b || false) g
          ]
    ]
own-tested Rectangle n e = refl
own-tested Diamond n e = refl
own-tested Ellipse n e = refl
own-tested Line n e = refl
own-tested Freedraw n e = refl
own-tested Frame n e = refl
own-tested Magicframe n e = refl
own-tested Iframe n e = refl
own-tested Embeddable n e = refl
own-tested (Other name) n e = refl

untested : (b : Bool) (k : Header) (rest : Option Header) → (if b then Some k else rest) ≡ None → (b ≡ false)
    × (rest ≡ None)
untested true k rest e = absurd (none-some k (sym e))
untested false k rest e = (refl, e)

-- a name that is neither of a scalar header member nor of a member that is no scalar is of a further member
pub not-header : (kind : Kind) (n : List ℕ) → list_any (bytes_eq n) other_names ≡ false → header_named kind n ≡ None
    → is_header kind n ≡ false
not-header kind n free e =
    let deleted = untested (bytes_eq n (codes "isDeleted")) headers.Deleted _ e in
    let index = untested (bytes_eq n (codes "index")) headers.Index _ deleted.1 in
    let frame = untested (bytes_eq n (codes "frameId")) headers.Frame _ index.1 in
    let own = own-tested kind n frame.1 in
    let o1 = or_parts (bytes_eq n (codes "id")) _ free in
    let o2 = or_parts (bytes_eq n (codes "type")) _ o1.1 in
    let o3 = or_parts (bytes_eq n (codes "groupIds")) _ o2.1 in
    let o4 = or_parts (bytes_eq n (codes "boundElements")) _ o3.1 in
    let o5 = or_parts (bytes_eq n (codes "version")) _ o4.1 in
    let o6 = or_parts (bytes_eq n (codes "versionNonce")) _ o5.1 in
    let o7 = or_parts (bytes_eq n (codes "updated")) _ o6.1 in
    rw (o1.0, o2.0, o5.0, o6.0, o7.0, deleted.0, index.0, o3.0, frame.0, o4.0, own) refl

-- ---- an element of which one scalar was set
pub header_kept : (e : ElementValue) (rest : List Member) (h : Header)
    → scalar_text (record e { rest = rest }) h ≡ scalar_text e h
header_kept e rest headers.Deleted = refl
header_kept e rest headers.Index = refl
header_kept e rest headers.Frame = refl
header_kept e rest headers.Container = refl
header_kept e rest headers.StartBinding = refl
header_kept e rest headers.EndBinding = refl
header_kept e rest headers.File = refl

pub IsScalarSet-header : (old new : ElementValue) (name : List ℕ) (h : Header) (v : List ℕ)
    → header_named old.kind name ≡ Some h → IsHeaderSet old new h v → IsScalarSet old new name (Some v)
IsScalarSet-header old new name h v mine set = record {
  stamp = set.stamp;
  groups = set.groups;
  bound = set.bound;
  scalars = λ other. ap (λ kind. scalar_at new other (header_named kind other)) set.stamp.kind
      ∙ each other (header_named old.kind other) refl;
}
  where
    each : (other : List ℕ) (o : Option Header) → header_named old.kind other ≡ o
        → scalar_at new other o ≡ (if bytes_eq other name then Some v else scalar_at old other o)
    each other None is =
        ap (value_named other) set.rest
        ∙ sym (ap (λ b. if b then Some v else value_named other old.rest)
        (bytes_eq-apart other name (λ e. none-some h (sym is ∙ ap (header_named old.kind) e ∙ mine))))
    each other (Some k) is =
        elim (cases_Bool (bytes_eq other name)) [
          | inl t ↦
              let same : k ≡ h =
              same_Some k h (sym is ∙ ap (header_named old.kind) (bytes_eq-true other name t) ∙ mine) in
              ap (λ x. Some (scalar_text new x)) same ∙ ap Some set.text
              ∙ sym (ap (λ b. if b then Some v else Some (scalar_text old k)) t)
          | inr f ↦
              let apart : k ≢ h = λ e. false≢true (sym f
              ∙ ap (λ n. bytes_eq n name) (named-once old.kind other name h (is ∙ ap Some e) mine)
              ∙ bytes_eq-same name) in
              ap Some (set.others k apart) ∙ sym (ap (λ b. if b then Some v else Some (scalar_text old k)) f)
        ]
