-- What a command gives becomes stored.
use Rattle.std.proofs.Common.{◌≡◌, ℕ, true, List, Ok, Contains}
use Rattle.std.proofs.lemmas.List.Elements.{All-weaker, All-contains_itself}
use Rattle.frac_keys.specs.Rising.{are_rising}
use Rattle.elem.specs.ElementValue.{ElementValue}
use Rattle.elem_store.specs.Updates.{ids_of, is_taken}
use Rattle.effects.specs.Changed.{outcome}
use Rattle.board_commands.specs.declared.command.Command.{Command}
use Rattle.effects.proofs.CallerLemmas.{given-rise, given-taken}
use Rattle.replica.specs.inner.Boards.{BecomeStored}

pub command-given : (stored shown : List ElementValue) (command : Command) (time nonce : ℕ) (given : List ElementValue)
    → are_rising (ids_of stored) ≡ true → outcome stored shown command time nonce ≡ Ok given → BecomeStored stored given
command-given stored shown command time nonce given rise told = record {
  rise = given-rise stored shown command time nonce given told rise;
  taken =
      All-weaker (Contains given) (λ e. is_taken stored e ≡ true)
      (given-taken stored shown command time nonce given told rise) given (All-contains_itself given);
}
