-- Whether two elements are the same is decided.
use Rattle.std.proofs.Common.{◌≡◌, ◌≢◌, ◌⊎◌, inl, inr, ℕ, Bool, true, false, List, [], ◌∷◌, Option, Some, None, codes, bytes_eq, if◌then◌else◌, refl, sym, ap, ◌∙◌}
use Rattle.std.proofs.lemmas.Bool.Decides.{eqb_tells}
use Rattle.json_text.specs.declared.text.Member.{Member}
use Rattle.elem.specs.declared.kind.Kind.{Kind}
use Rattle.elem.specs.declared.kind.Kind.TheVariants.{Rectangle, Diamond, Ellipse, Arrow, Line, Freedraw, Text, Image, Frame, Magicframe, Iframe, Embeddable, Other}
use Rattle.elem.specs.declared.kind.Role.{Role}
use Rattle.elem.specs.declared.kind.Role.TheVariants as roles
use Rattle.elem.specs.declared.parts.BoundRef.{BoundRef}
use Rattle.elem.specs.declared.parts.Binding.{Binding}
use Rattle.elem.specs.ElementValue.{ElementValue}
use Rattle.elem.specs.Texts.{kind_name}

abbrev Decided : {A : Type 0} → A → A → Type 0
Decided a b = (a ≡ b) ⊎ (a ≢ b)

-- what has all that another type tells of it
retracted : {A B : Type 0} (to : A → B) (back : B → A) → ((a : A) → back (to a) ≡ a) → ((x y : B) → Decided x y)
    → (a b : A) → Decided a b
retracted to back is decide a b = elim (decide (to a) (to b)) [
  | inl e ↦ inl (sym (is a) ∙ (ap back e ∙ is b))
  | inr n ↦ inr (λ p. n (ap to p))
]

both : {A B : Type 0} → ((x y : A) → Decided x y) → ((x y : B) → Decided x y) → (p q : A × B) → Decided p q
both {A} {B} first second p q = elim (first p.0 q.0) [
  | inl e ↦ elim (second p.1 q.1) [
    | inl f ↦ inl (λ i. (e i, f i))
    | inr n ↦ inr (λ r. n (ap (λ (x : A × B). x.1) r))
  ]
  | inr n ↦ inr (λ r. n (ap (λ (x : A × B). x.0) r))
]

abbrev head_or : {A : Type 0} → A → List A → A
head_or x [] = x
head_or x (y ∷ ys) = y

abbrev tail_of : {A : Type 0} → List A → List A
tail_of [] = []
tail_of (y ∷ ys) = ys

lists : {A : Type 0} → ((x y : A) → Decided x y) → (xs ys : List A) → Decided xs ys
lists decide [] [] = inl refl
lists decide [] (y ∷ ys) = inr (λ e. cc)
lists decide (x ∷ xs) [] = inr (λ e. cc)
lists {A} decide (x ∷ xs) (y ∷ ys) = elim (decide x y) [
  | inl e ↦ elim (lists decide xs ys) [
    | inl f ↦ inl (λ i. e i ∷ f i)
    | inr n ↦ inr (λ r. n (ap tail_of r))
  ]
  | inr n ↦ inr (λ r. n (ap (head_or x) r))
]

abbrev value_or : {A : Type 0} → A → Option A → A
value_or x None = x
value_or x (Some y) = y

options : {A : Type 0} → ((x y : A) → Decided x y) → (x y : Option A) → Decided x y
options decide None None = inl refl
options decide None (Some y) = inr (λ e. cc)
options decide (Some x) None = inr (λ e. cc)
options decide (Some x) (Some y) = elim (decide x y) [
  | inl e ↦ inl (ap Some e)
  | inr n ↦ inr (λ r. n (ap (value_or x) r))
]

numbers : (a b : ℕ) → Decided a b
numbers a b = elim (eqb_tells a b) [ inl h ↦ inl h.1 | inr h ↦ inr h.1 ]

bytes : (a b : List ℕ) → Decided a b
bytes = lists numbers

truths : (a b : Bool) → Decided a b
truths true true = inl refl
truths true false = inr (λ e. cc)
truths false true = inr (λ e. cc)
truths false false = inl refl

abbrev is_other_kind : Kind → Bool
is_other_kind (Other name) = true
is_other_kind Rectangle = false
is_other_kind Diamond = false
is_other_kind Ellipse = false
is_other_kind Arrow = false
is_other_kind Line = false
is_other_kind Freedraw = false
is_other_kind Text = false
is_other_kind Image = false
is_other_kind Frame = false
is_other_kind Magicframe = false
is_other_kind Iframe = false
is_other_kind Embeddable = false

abbrev kind_named : List ℕ → Kind
kind_named name =
    if bytes_eq name (codes "rectangle") then Rectangle
    else (if bytes_eq name (codes "diamond") then Diamond
    else (if bytes_eq name (codes "ellipse") then Ellipse
    else (if bytes_eq name (codes "arrow") then Arrow
    else (if bytes_eq name (codes "line") then Line
    else (if bytes_eq name (codes "freedraw") then Freedraw
    else (if bytes_eq name (codes "text") then Text
    else (if bytes_eq name (codes "image") then Image
    else (if bytes_eq name (codes "frame") then Frame
    else (if bytes_eq name (codes "magicframe") then Magicframe
    else (if bytes_eq name (codes "iframe") then Iframe else Embeddable))))))))))

abbrev kind_back : List ℕ × Bool → Kind
kind_back p = if p.1 then Other p.0 else kind_named p.0

kind_is : (kind : Kind) → kind_back (kind_name kind, is_other_kind kind) ≡ kind
kind_is (Other name) = refl
kind_is Rectangle = refl
kind_is Diamond = refl
kind_is Ellipse = refl
kind_is Arrow = refl
kind_is Line = refl
kind_is Freedraw = refl
kind_is Text = refl
kind_is Image = refl
kind_is Frame = refl
kind_is Magicframe = refl
kind_is Iframe = refl
kind_is Embeddable = refl

kinds : (a b : Kind) → Decided a b
kinds = retracted (λ kind. (kind_name kind, is_other_kind kind)) kind_back kind_is (both bytes truths)

abbrev is_arrow_role : Role → Bool
is_arrow_role roles.Arrow = true
is_arrow_role roles.Text = false

abbrev role_back : Bool → Role
role_back b = if b then roles.Arrow else roles.Text

role_is : (role : Role) → role_back (is_arrow_role role) ≡ role
role_is roles.Arrow = refl
role_is roles.Text = refl

entries : (a b : BoundRef) → Decided a b
entries =
    retracted (λ (e : BoundRef). (e.id, e.role)) (λ p. record { id = p.0; role = p.1 }) (λ e. refl)
    (both bytes (retracted is_arrow_role role_back role_is truths))

members : (a b : Member) → Decided a b
members =
    retracted (λ (m : Member). (m.name, m.value)) (λ p. record { name = p.0; value = p.1 }) (λ m. refl)
    (both bytes bytes)

bindings : (a b : Binding) → Decided a b
bindings =
    retracted (λ (b : Binding). (b.target, b.rest)) (λ p. record { target = p.0; rest = p.1 }) (λ b. refl)
    (both bytes (lists members))

-- the members of an element, in three parts
abbrev Stamped : Type 0
Stamped = List ℕ × (Kind × (ℕ × (ℕ × (ℕ × Bool))))

abbrev Placed : Type 0
Placed = Option (List ℕ) × (List (List ℕ) × (Option (List ℕ) × List BoundRef))

abbrev Linked : Type 0
Linked = Option (List ℕ) × (Option Binding × (Option Binding × (Option (List ℕ) × List Member)))

abbrev parts_of : ElementValue → Stamped × (Placed × Linked)
parts_of e = (
  (e.id, (e.kind, (e.version, (e.nonce, (e.updated, e.deleted))))),
  ((e.index, (e.groups, (e.frame, e.bound))), (e.container, (e.start_binding, (e.end_binding, (e.file, e.rest))))),
)

abbrev drawn_back : Stamped × (Placed × Linked) → ElementValue
drawn_back p = record {
  id = p.0.0;
  kind = p.0.1.0;
  version = p.0.1.1.0;
  nonce = p.0.1.1.1.0;
  updated = p.0.1.1.1.1.0;
  deleted = p.0.1.1.1.1.1;
  index = p.1.0.0;
  groups = p.1.0.1.0;
  frame = p.1.0.1.1.0;
  bound = p.1.0.1.1.1;
  container = p.1.1.0;
  start_binding = p.1.1.1.0;
  end_binding = p.1.1.1.1.0;
  file = p.1.1.1.1.1.0;
  rest = p.1.1.1.1.1.1;
}

pub elements-decided : (a b : ElementValue) → Decided a b
elements-decided =
    retracted parts_of drawn_back (λ e. refl)
    (both (both bytes (both kinds (both numbers (both numbers (both numbers truths)))))
    (both (both (options bytes) (both (lists bytes) (both (options bytes) (lists entries))))
    (both (options bytes) (both (options bindings) (both (options bindings) (both (options bytes) (lists members)))))))
