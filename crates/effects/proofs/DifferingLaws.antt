-- Elements of one id, kind and file differ outside the stamp exactly if they are told to.
use Rattle.std.proofs.Common.{◌≡◌, Bool, true, false, Option, Some, None, bytes_eq, refl, sym, ap, ◌∙◌, subst}
use Rattle.std.specs.Cmp.Lexicographic.{pointwise, pointwise_decides, bytes_decides}
use Rattle.std.specs.Option.{option_eq}
use Rattle.std.proofs.lemmas.Bool.{false≢true, and_parts, and_from, not-false}
use Rattle.json_text.specs.declared.text.Member.{Member}
use Rattle.elem.specs.declared.kind.Role.{Role}
use Rattle.elem.specs.declared.kind.Role.TheVariants.{Arrow, Text}
use Rattle.elem.specs.declared.parts.BoundRef.{BoundRef}
use Rattle.elem.specs.declared.parts.Binding.{Binding}
use Rattle.elem.specs.ElementValue.{ElementValue}
use Rattle.elem.specs.Order.{unstamped}
use Rattle.elem.specs.Listings.{same_listing_entry, same_role}
use Rattle.effects.specs.Differing.{differs, same_truth, same_member, same_binding}

-- the test tells whether two are the same
abbrev Decided : {X : Type 0} → (X → X → Bool) → Type 0
Decided {X} E = (x y : X) → (E x y ≡ true → x ≡ y) × (x ≡ y → E x y ≡ true)

truth : Decided same_truth
truth x y = (same x y, λ e. subst (λ z. same_truth x z ≡ true) e (own x))
  where
    own : (x : Bool) → same_truth x x ≡ true
    own true = refl
    own false = refl

    same : (x y : Bool) → same_truth x y ≡ true → x ≡ y
    same true y h = sym h
    same false true h = absurd (false≢true h)
    same false false h = refl

module _ {X : Type 0} (E : X → X → Bool) (d : Decided E) where
  option : Decided (option_eq E)
  option x y = (same x y, λ e. subst (λ z. option_eq E x z ≡ true) e (own x))
    where
      own : (x : Option X) → option_eq E x x ≡ true
      own None = refl
      own (Some x) = (d x x).1 refl

      same : (x y : Option X) → option_eq E x y ≡ true → x ≡ y
      same None None h = refl
      same None (Some y) h = absurd (false≢true h)
      same (Some x) None h = absurd (false≢true h)
      same (Some x) (Some y) h = ap Some ((d x y).0 h)

role : Decided same_role
role x y = (same x y, λ e. subst (λ z. same_role x z ≡ true) e (own x))
  where
    own : (x : Role) → same_role x x ≡ true
    own Arrow = refl
    own Text = refl

    same : (x y : Role) → same_role x y ≡ true → x ≡ y
    same Arrow Arrow h = refl
    same Arrow Text h = absurd (false≢true h)
    same Text Arrow h = absurd (false≢true h)
    same Text Text h = refl

entry : Decided same_listing_entry
entry x y = (
  same,
  λ e. subst (λ (z : BoundRef). same_listing_entry x z ≡ true) e
      (and_from _ _ ((role x.role x.role).1 refl) ((bytes_decides x.id x.id).1 refl)),
)
  where
    same : same_listing_entry x y ≡ true → x ≡ y
    same h =
        let parts = and_parts (same_role x.role y.role) (bytes_eq x.id y.id) h in
        let r = (role x.role y.role).0 parts.0 in
        let n = (bytes_decides x.id y.id).0 parts.1 in
        λ i. record { id = n i; role = r i }

member : Decided same_member
member x y = (
  same,
  λ e. subst (λ (z : Member). same_member x z ≡ true) e
      (and_from _ _ ((bytes_decides x.name x.name).1 refl) ((bytes_decides x.value x.value).1 refl)),
)
  where
    same : same_member x y ≡ true → x ≡ y
    same h =
        let parts = and_parts (bytes_eq x.name y.name) (bytes_eq x.value y.value) h in
        let n = (bytes_decides x.name y.name).0 parts.0 in
        let v = (bytes_decides x.value y.value).0 parts.1 in
        λ i. record { name = n i; value = v i }

binding : Decided same_binding
binding x y = (
  same,
  λ e. subst (λ (z : Binding). same_binding x z ≡ true) e
      (and_from _ _ ((bytes_decides x.target x.target).1 refl) ((pointwise_decides member x.rest x.rest).1 refl)),
)
  where
    same : same_binding x y ≡ true → x ≡ y
    same h =
        let parts = and_parts (bytes_eq x.target y.target) (pointwise same_member x.rest y.rest) h in
        let t = (bytes_decides x.target y.target).0 parts.0 in
        let r = (pointwise_decides member x.rest y.rest).0 parts.1 in
        λ i. record { target = t i; rest = r i }

-- where nothing differs the two are the same but for the stamp
pub same-where-not : (a b : ElementValue) → a.id ≡ b.id → a.kind ≡ b.kind → a.file ≡ b.file → differs a b ≡ false
    → unstamped a ≡ unstamped b
same-where-not a b id kind file h =
    let deleted = and_parts (same_truth a.deleted b.deleted) _ (not-false _ h) in
    let index = and_parts (option_eq bytes_eq a.index b.index) _ deleted.1 in
    let groups = and_parts (pointwise bytes_eq a.groups b.groups) _ index.1 in
    let frame = and_parts (option_eq bytes_eq a.frame b.frame) _ groups.1 in
    let bound = and_parts (pointwise same_listing_entry a.bound b.bound) _ frame.1 in
    let container = and_parts (option_eq bytes_eq a.container b.container) _ bound.1 in
    let start = and_parts (option_eq same_binding a.start_binding b.start_binding) _ container.1 in
    let end' =
    and_parts (option_eq same_binding a.end_binding b.end_binding) (pointwise same_member a.rest b.rest) start.1 in
    let d = (truth a.deleted b.deleted).0 deleted.0 in
    let i' = (option bytes_eq bytes_decides a.index b.index).0 index.0 in
    let g = (pointwise_decides bytes_decides a.groups b.groups).0 groups.0 in
    let f = (option bytes_eq bytes_decides a.frame b.frame).0 frame.0 in
    let l = (pointwise_decides entry a.bound b.bound).0 bound.0 in
    let c = (option bytes_eq bytes_decides a.container b.container).0 container.0 in
    let s = (option same_binding binding a.start_binding b.start_binding).0 start.0 in
    let n = (option same_binding binding a.end_binding b.end_binding).0 end'.0 in
    let r = (pointwise_decides member a.rest b.rest).0 end'.1 in
    λ i. record {
      id = id i;
      kind = kind i;
      version = 0;
      nonce = 0;
      updated = 0;
      deleted = d i;
      index = i' i;
      groups = g i;
      frame = f i;
      bound = l i;
      container = c i;
      start_binding = s i;
      end_binding = n i;
      file = file i;
      rest = r i;
    }

differs-itself : (a : ElementValue) → differs a a ≡ false
differs-itself a =
    rw (
      (truth a.deleted a.deleted).1 refl,
      (option bytes_eq bytes_decides a.index a.index).1 refl,
      (pointwise_decides bytes_decides a.groups a.groups).1 refl,
      (option bytes_eq bytes_decides a.frame a.frame).1 refl,
      (pointwise_decides entry a.bound a.bound).1 refl,
      (option bytes_eq bytes_decides a.container a.container).1 refl,
      (option same_binding binding a.start_binding a.start_binding).1 refl,
      (option same_binding binding a.end_binding a.end_binding).1 refl,
      (pointwise_decides member a.rest a.rest).1 refl,
    ) refl

-- where the two are the same but for the stamp nothing differs
pub differs-not : (a b : ElementValue) → unstamped a ≡ unstamped b → differs a b ≡ false
differs-not a b same = sym (ap (differs (unstamped a)) same) ∙ differs-itself a
