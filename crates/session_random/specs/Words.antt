-- What is drawn from a generator: PCG XSH RR 64/32 (M. E. O'Neill), as the crate rand_pcg has it;
-- which seed it begins with is that of rand_core's `seed_from_u64`.
use Rattle.std.specs.Prelude.{ℕ}
use Rattle.rand_core.specs.Pcg32Seed.{pcg32_seed}
use Rattle.rand_pcg.specs.Lcg.{Lcg}
use Rattle.rand_pcg.specs.Pcg.{pcg32, pcg32_of_seed}

-- the generator of a seed
unfoldable pub generator_of : ℕ → Lcg
generator_of seed = pcg32_of_seed (pcg32_seed 16 seed)

-- the word that is drawn next, and the generator after it
unfoldable pub next_word : Lcg → ℕ
next_word generator = (pcg32 generator).0

unfoldable pub next_generator : Lcg → Lcg
next_generator generator = (pcg32 generator).1
