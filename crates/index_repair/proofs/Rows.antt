-- The definitions at worked rows.
use Rattle.std.proofs.Common.{◌≡◌, [], ◌∷◌, ◌++◌, Some, None, refl, replicate}
use Rattle.std.specs.Prelude.{codes}
use Rattle.frac_keys.specs.Digits.{digit_value, digit_byte}
use Rattle.frac_keys.specs.Keys.{digit_count}
use Rattle.frac_keys.specs.Between.{midpoint_above, midpoint_beside, midpoint, carried, stepped, next_head, previous_head, key_above, key_below, key_inside, keys_above, keys_below, keys_inside}
use Rattle.index_repair.specs.Repair.{kept, repaired_below, repaired}

nothing : repaired [] ≡ []
unfolding repaired_below keys_above
nothing = refl

without_key : repaired (None ∷ None ∷ None ∷ []) ≡ codes "a0" ∷ codes "a1" ∷ codes "a2" ∷ []
unfolding repaired_below keys_above key_above carried stepped digit_value digit_byte digit_count
without_key = refl

equal : repaired (Some (codes "a0") ∷ Some (codes "a0") ∷ Some (codes "a0") ∷ []) ≡ codes "a0" ∷ codes "a1" ∷ codes "a2"
    ∷ []
unfolding repaired_below keys_above keys_below key_above carried stepped digit_value digit_byte digit_count
equal = refl

falling : repaired (Some (codes "a2") ∷ Some (codes "a1") ∷ Some (codes "a0") ∷ []) ≡ codes "a2" ∷ codes "a3"
    ∷ codes "a4" ∷ []
unfolding repaired_below keys_above keys_below key_above carried stepped digit_value digit_byte digit_count
falling = refl

greedy : kept (Some (codes "a5") ∷ Some (codes "a1") ∷ Some (codes "a2") ∷ []) ≡ Some (codes "a5") ∷ None ∷ None ∷ []
greedy = refl

between : repaired (Some (codes "a1") ∷ Some (codes "a1") ∷ Some (codes "a2") ∷ []) ≡ codes "a1" ∷ codes "a1V"
    ∷ codes "a2" ∷ []
unfolding repaired_below keys_above keys_below keys_inside key_inside midpoint midpoint_above midpoint_beside carried
    stepped digit_value digit_byte digit_count
between = refl

top : repaired (Some (replicate 27 122) ∷ None ∷ []) ≡ replicate 27 122 ∷ (replicate 27 122 ++ codes "V") ∷ []
unfolding repaired_below keys_above keys_below key_above midpoint_above carried stepped next_head digit_value digit_byte
    digit_count
top = refl

-- with a key above
below_a_key : repaired_below (Some (codes "a2")) (Some (codes "a1") ∷ Some (codes "a1") ∷ Some (codes "a1") ∷ [])
    ≡ codes "a1" ∷ codes "a1G" ∷ codes "a1V" ∷ []
unfolding repaired_below keys_above keys_below keys_inside key_inside midpoint midpoint_above midpoint_beside carried
    stepped digit_value digit_byte digit_count
below_a_key = refl

all_below_a_key : repaired_below (Some (codes "a0")) (None ∷ None ∷ []) ≡ codes "Zy" ∷ codes "Zz" ∷ []
unfolding repaired_below keys_above keys_below key_below carried stepped previous_head digit_value digit_byte
    digit_count
all_below_a_key = refl
