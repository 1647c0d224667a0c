-- What `is_better` is: a strict order by the time and the text.
use Rattle.std.proofs.Common.{◌≡◌, true, false, arith}
use Rattle.std.proofs.lemmas.Bool.Decides.{nat_tests}
use Rattle.frac_keys.proofs.CallerLemmas.{bytes-below, bytes-neither, bytes_less-asym, bytes_less_itself, bytes_less-trans}
use Rattle.library.specs.Best.{is_better, text_less}
use Rattle.library.specs.Items.{item_text}
use Rattle.library.specs.declared.item.Item.{Item}

-- ---- the order of texts
less-same : (a : Item) → text_less a a ≡ false
unfolding text_less
less-same a = bytes_less_itself (item_text a)

less-asym : (a b : Item) → text_less a b ≡ true → text_less b a ≡ false
unfolding text_less
less-asym a b less = bytes_less-asym (item_text a) (item_text b) less

less-trans : (a b c : Item) → text_less a b ≡ true → text_less b c ≡ true → text_less a c ≡ true
unfolding text_less
less-trans a b c first second = bytes_less-trans (item_text a) (item_text b) (item_text c) first second

less-neither : (a b : Item) → text_less a b ≡ false → text_less b a ≡ false → item_text a ≡ item_text b
unfolding text_less
less-neither a b first second = bytes-neither (item_text a) (item_text b) first second

less-below : (a b c : Item) → text_less b a ≡ false → text_less c b ≡ false → text_less c a ≡ false
unfolding text_less
less-below a b c first second = bytes-below (item_text a) (item_text b) (item_text c) first second

-- ---- the order of items
-- No item is better than itself.
pub better-same : (a : Item) → is_better a a ≡ false
better-same a = let same = less-same a in grind (arith, nat_tests)

-- Of two items one at most is better.
pub better-asym : (a b : Item) → is_better a b ≡ true → is_better b a ≡ false
better-asym a b first = let text = less-asym a b in grind (arith, nat_tests)

-- What is better than an item is better than all that it is better than.
pub better-trans : (a b c : Item) → is_better a b ≡ true → is_better b c ≡ true → is_better a c ≡ true
better-trans a b c first second = let text = less-trans a b c in grind (arith, nat_tests)

-- What isn't better than an item isn't better than one that is as good.
pub better-below : (a b c : Item) → is_better b a ≡ false → is_better c b ≡ false → is_better c a ≡ false
better-below a b c first second = let text = less-below a b c in grind (arith, nat_tests)

-- Where neither is better, they were made at the same time and have one text.
pub better-neither : (a b : Item) → is_better a b ≡ false → is_better b a ≡ false → (a.created ≡ b.created)
    × (item_text a ≡ item_text b)
better-neither a b first second =
    let times : a.created ≡ b.created = grind (arith, nat_tests) in
    let less : text_less a b ≡ false = grind (arith, nat_tests) in
    let more : text_less b a ≡ false = grind (arith, nat_tests) in
    (times, less-neither a b less more)
