-- Open brackets as the digits of a number in base 2.
use Rattle.std.proofs.Common.{◌≡◌, ℕ, zero, suc, ◌+◌, ◌*◌, ◌/◌, ◌%◌, ◌==◌, ◌^◌, ◌<◌, ◌≤◌, length, refl, ap, arith}
use native.Mathlib.Nat.{pow-suc, pow-le-pow_right}
use Rattle.json_reader.specs.inner.Brackets.{kinds_of}
use Rattle.json_reader.specs.inner.Machine.{are_square}

pub kinds_count : (n d : ℕ) → length (kinds_of n d) ≡ n
kinds_count zero d = refl
kinds_count (suc n) d = ap suc (kinds_count n (d / 2))

pub room : (n d : ℕ) → d < 2 ^ n → length (kinds_of n d) < 128 → (length (kinds_of n d) ≡ n) × (d * 2 + 1 < 2 ^ 128)
room n d low few =
    let some : 0 < 2 = omega arith in
    let within : suc n ≤ 128 = omega (arith, few, kinds_count n d) in
    let most : 2 ^ suc n ≤ 2 ^ 128 = pow-le-pow_right {n = 2} some within in
    (kinds_count n d, omega (arith, pow-suc 2 n, most, low))

square_digits : (n d : ℕ) → (d % 4 == 0) ≡ are_square (kinds_of (suc (suc n)) d)
square_digits n d = grind arith

pub square_kinds : (n d : ℕ) → 2 ≤ n → (d % 4 == 0) ≡ are_square (kinds_of n d)
square_kinds zero d some = absurd (omega arith)
square_kinds (suc zero) d some = absurd (omega arith)
square_kinds (suc (suc n)) d some = square_digits n d
