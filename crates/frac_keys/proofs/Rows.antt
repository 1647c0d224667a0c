-- The definitions at worked rows.
use Rattle.std.specs.Prelude.{◌≡◌, true, false, [], ◌∷◌, ◌++◌, Some, None, refl, codes, replicate, map}
use Rattle.frac_keys.specs.Digits.{digit_value, digit_byte}
use Rattle.frac_keys.specs.Keys.{digit_count, is_key, smallest_integer}
use Rattle.frac_keys.specs.Between.{midpoint_above, midpoint_beside, midpoint, carried, stepped, next_head, previous_head, key_above, key_below, key_inside, key_between, keys_above, keys_below, keys_inside, keys_between}

-- the rows of the published library
published : (key_between None None ≡ codes "a0")
    × (key_between None (Some (codes "a0")) ≡ codes "Zz")
    × (key_between (Some (codes "a0")) None ≡ codes "a1")
    × (key_between (Some (codes "a0")) (Some (codes "a1")) ≡ codes "a0V")
    × (key_between (Some (codes "a0V")) (Some (codes "a1")) ≡ codes "a0l")
    × (key_between (Some (codes "Zz")) (Some (codes "a0")) ≡ codes "ZzV")
    × (key_between (Some (codes "Zz")) (Some (codes "a1")) ≡ codes "a0")
    × (key_between None (Some (codes "Y00")) ≡ codes "Xzzz")
    × (key_between (Some (codes "bzz")) None ≡ codes "c000")
    × (key_between (Some (codes "a0")) (Some (codes "a0V")) ≡ codes "a0G")
    × (key_between (Some (codes "b125")) (Some (codes "b129")) ≡ codes "b127")
    × (key_between None (Some (codes "b999")) ≡ codes "b99")
unfolding digit_value digit_byte digit_count midpoint_above midpoint_beside midpoint carried stepped next_head
    previous_head key_above key_below key_inside
published = (refl, refl, refl, refl, refl, refl, refl, refl, refl, refl, refl, refl)

-- the last integer parts of both ends
outermost : (key_between None (Some (codes "A00000000000000000000000001")) ≡ smallest_integer ++ codes "V")
    × (key_between (Some (replicate 27 122)) None ≡ replicate 27 122 ++ codes "V")
unfolding digit_value digit_byte digit_count midpoint_above midpoint_beside midpoint carried stepped next_head
    previous_head key_above key_below key_inside
outermost = (refl, refl)

many : (keys_between (Some (codes "a0")) (Some (codes "a1")) 3 ≡ map codes ("a0G" ∷ "a0V" ∷ "a0l" ∷ []))
    × (keys_between None None 2 ≡ codes "a0" ∷ codes "a1" ∷ [])
    × (keys_between None (Some (codes "a0")) 2 ≡ codes "Zy" ∷ codes "Zz" ∷ [])
unfolding digit_value digit_byte digit_count midpoint_above midpoint_beside midpoint carried stepped next_head
    previous_head key_above key_below key_inside keys_above keys_below keys_inside
many = (refl, refl, refl)

read : (map is_key (codes "a0" ∷ codes "a0V" ∷ (smallest_integer ++ codes "V") ∷ []) ≡ true ∷ true ∷ true ∷ [])
    × (map is_key (smallest_integer ∷ codes "a00" ∷ codes "a" ∷ codes "" ∷ codes "0" ∷ codes "a1!" ∷ [])
    ≡ replicate 6 false)
unfolding is_key digit_count
read = (refl, refl)
