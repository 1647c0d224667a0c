-- What is drawn for the events of a drill, from the generator of its seed. This project's own.
use Rattle.std.specs.Prelude.{ℕ, ◌%◌}
use Rattle.rand_pcg.specs.Lcg.{Lcg}
use Rattle.session_random.specs.Words.{next_word, next_generator}
use Rattle.workload.specs.declared.draws.Draws.{Draws}

-- the next word modulo the limit
abbrev pub draw : ℕ → Lcg → ℕ
draw limit generator = next_word generator % limit

-- the five numbers that are drawn for an event, in this order
unfoldable pub drawn : Lcg → Draws
drawn generator =
    let second = next_generator generator in
    let third = next_generator second in
    let fourth = next_generator third in
    let fifth = next_generator fourth in
    record {
      at = draw 4 generator;
      row = draw 24 second;
      element = draw 200 third;
      other = draw 200 fourth;
      capture = draw 8 fifth;
    }

-- the generator after them
unfoldable pub after_draws : Lcg → Lcg
after_draws generator =
    next_generator (next_generator (next_generator (next_generator (next_generator generator))))
