-- A word has 32 bits.
use Rattle.std.proofs.Common.{◌<◌, ◌-◌, ◌*◌, ◌/◌, ◌%◌, ◌^◌, ℕ, bit_xor, mod-lt, div-le_self, arith}
use Rattle.std.specs.Int.{w32, rotate_right}
use Rattle.std.proofs.lemmas.Nat.{or_lt}
use Rattle.rand_pcg.specs.Lcg.{Lcg}
use Rattle.session_random.specs.Words.{next_word}

rotated-below : (n by : ℕ) → n < 2 ^ 32 → rotate_right w32 n by < 2 ^ 32
rotated-below n by below =
    or_lt 32 (n / 2 ^ (by % 32)) ((n * 2 ^ ((32 - by % 32) % 32)) % 2 ^ 32)
    (let d = div-le_self n (2 ^ (by % 32)) in omega arith) (mod-lt (n * 2 ^ ((32 - by % 32) % 32)) (omega arith))

pub word-below : (generator : Lcg) → next_word generator < 2 ^ 32
unfolding next_word
word-below generator =
    rotated-below (bit_xor (generator.state / 2 ^ 18) generator.state / 2 ^ 27 % 2 ^ 32) (generator.state / 2 ^ 59)
    (mod-lt (bit_xor (generator.state / 2 ^ 18) generator.state / 2 ^ 27) (omega arith))
