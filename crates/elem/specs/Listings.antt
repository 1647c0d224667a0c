-- When two entries of listings are the same: they are told apart exactly. These laws stand in
-- specs/, since an `impl` that compares entries gives them.
use Rattle.std.proofs.Common.{◌≡◌, Bool, true, false, ◌&&◌, bytes_eq, refl}
use Rattle.std.proofs.lemmas.Bool.{and_parts, and_from, false≢true}
use Rattle.json_text.proofs.CallerLemmas.{bytes_eq-true, bytes_eq-same}
use Rattle.elem.specs.declared.kind.Role.{Role}
use Rattle.elem.specs.declared.kind.Role.TheVariants.{Arrow, Text}
use Rattle.elem.specs.declared.parts.BoundRef.{BoundRef}

abbrev pub same_role : Role → Role → Bool
same_role Arrow Arrow = true
same_role Arrow Text = false
same_role Text Arrow = false
same_role Text Text = true

-- whether two entries are the same
abbrev pub same_listing_entry : BoundRef → BoundRef → Bool
same_listing_entry entry other = same_role entry.role other.role && bytes_eq entry.id other.id

roles-exact : (a b : Role) → same_role a b ≡ true → a ≡ b
roles-exact Arrow Arrow h = refl
roles-exact Text Text h = refl
roles-exact Arrow Text h = absurd (false≢true h)
roles-exact Text Arrow h = absurd (false≢true h)

roles-same : (a : Role) → same_role a a ≡ true
roles-same Arrow = refl
roles-same Text = refl

pub same_listing_entry-exact : (a b : BoundRef) → same_listing_entry a b ≡ true → a ≡ b
same_listing_entry-exact a b h =
    let parts = and_parts (same_role a.role b.role) (bytes_eq a.id b.id) h in
    let role = roles-exact a.role b.role parts.0 in
    let id = bytes_eq-true a.id b.id parts.1 in
    λ i. record { id = id i; role = role i }

pub same_listing_entry-same : (a : BoundRef) → same_listing_entry a a ≡ true
same_listing_entry-same a =
    and_from (same_role a.role a.role) (bytes_eq a.id a.id) (roles-same a.role)
    (bytes_eq-same a.id)
