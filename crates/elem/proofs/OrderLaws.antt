-- What `beats` is: a strict order by version, nonce and text.
use Rattle.std.proofs.Common.{◌≡◌, true, false, sym, subst, arith}
use Rattle.std.proofs.lemmas.Bool.Decides.{nat_tests}
use Rattle.frac_keys.proofs.CallerLemmas.{bytes-below, bytes-neither, bytes_less-asym, bytes_less-trans, bytes_less_itself}
use Rattle.elem.specs.ElementValue.{ElementValue}
use Rattle.elem.specs.Order.{text_less, beats}
use Rattle.elem.specs.Texts.{element_text}

-- ---- the order of texts
less-same : (a : ElementValue) → text_less a a ≡ false
unfolding text_less
less-same a = bytes_less_itself (element_text a)

-- No element has a text that is less than that of an equal one.
pub same-not_less : (a b : ElementValue) → a ≡ b → false ≡ text_less a b
same-not_less a b same = sym (subst (λ x. text_less x b ≡ false) (sym same) (less-same b))

less-asym : (a b : ElementValue) → text_less a b ≡ true → text_less b a ≡ false
unfolding text_less
less-asym a b less = bytes_less-asym (element_text a) (element_text b) less

less-trans : (a b c : ElementValue) → text_less a b ≡ true → text_less b c ≡ true → text_less a c ≡ true
unfolding text_less
less-trans a b c first second = bytes_less-trans (element_text a) (element_text b) (element_text c) first second

less-neither : (a b : ElementValue) → text_less a b ≡ false → text_less b a ≡ false → element_text a ≡ element_text b
unfolding text_less
less-neither a b first second = bytes-neither (element_text a) (element_text b) first second

less-below : (a b c : ElementValue) → text_less b a ≡ false → text_less c b ≡ false → text_less c a ≡ false
unfolding text_less
less-below a b c first second = bytes-below (element_text a) (element_text b) (element_text c) first second

-- ---- the order of updates
-- No element beats itself.
pub beats-same : (e : ElementValue) → beats e e ≡ false
beats-same e = let same = less-same e in grind (arith, nat_tests)

-- Of two elements one at most beats the other.
pub beats-asym : (a b : ElementValue) → beats a b ≡ true → beats b a ≡ false
beats-asym a b first = let text = less-asym a b in grind (arith, nat_tests)

-- What beats an element beats all that it beats.
pub beats-trans : (a b c : ElementValue) → beats a b ≡ true → beats b c ≡ true → beats a c ≡ true
beats-trans a b c first second = let text = less-trans a b c in grind (arith, nat_tests)

-- What doesn't beat an element beats none that beat it.
pub beats-below : (a b c : ElementValue) → beats b a ≡ false → beats c b ≡ false → beats c a ≡ false
beats-below a b c first second = let text = less-below a b c in grind (arith, nat_tests)

-- Where neither beats the other, their versions, their nonces and their texts are equal.
pub beats-neither : (a b : ElementValue) → beats a b ≡ false → beats b a ≡ false → (a.version ≡ b.version)
    × (a.nonce ≡ b.nonce) × (element_text a ≡ element_text b)
beats-neither a b first second =
    let versions : a.version ≡ b.version = grind (arith, nat_tests) in
    let nonces : a.nonce ≡ b.nonce = grind (arith, nat_tests) in
    let less : text_less a b ≡ false = grind (arith, nat_tests) in
    let more : text_less b a ≡ false = grind (arith, nat_tests) in
    (versions, nonces, less-neither a b less more)
