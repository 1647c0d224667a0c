-- A stream that a source gives, piece by piece.
use Rattle.std.proofs.Common.{◌≡◌, ℕ, ◌+◌, ◌≤◌, List, [], ◌++◌, Option, None, Some, refl, length, take, arith, length-append, length-take}
use Rattle.std.specs.Option.{option_map}
use Rattle.board_ends.specs.Ends.{SourceEnd, Gave}
use Rattle.board_ends.proofs.CallerLemmas.{Gave-more}
use Rattle.json_reader.specs.Feeding.{Feeding}
use Rattle.input_texts.specs.declared.reading.Stopped.{Stopped}
use Rattle.input_texts.specs.Texts.{Reading}
use Rattle.input_texts.specs.inner.Texts.{StandsIn}

-- A source gave so many bytes so far, and their texts were read, up to what stopped that.
pub record HasTaken {F : Type 0} (before after : SourceEnd) (used : ℕ) (feed : Feeding) (reader : Reading F)
    (stop : Option (Stopped F)) : Type 0 where
  pub stream : List ℕ
  pub width : length stream ≡ used
  pub given : Gave before after stream
  pub stands : StandsIn stream [] feed reader stop

pub Gave-none : (left : Option (List ℕ)) → left ≡ option_map (λ rest. [] ++ rest) left
Gave-none None = refl
Gave-none (Some rest) = refl

-- nothing was given
pub taken-first : {F : Type 0} (source : SourceEnd) (reader : Reading F) → reader.has_read []
    → HasTaken source source 0 (record { rest = []; used = 0; fault = None }) reader None
taken-first source reader unread = record {
  stream = [];
  width = refl;
  given = Gave-none source.left;
  stands = record {
    texts = [];
    read = unread;
    start = 0;
    at = record { within = omega arith; stretch = []; parts = refl; kept = refl; counted = refl; sound = refl };
    lead = λ more. refl;
    skipped = λ full. refl;
  };
}

-- some more was given
module _ {F : Type 0} (before middle after : SourceEnd) (used n : ℕ) (piece : List ℕ)
    (given : Gave middle after (take n piece)) where
  pub taken-more : (feed next : Feeding) (reader now : Reading F) (stop found : Option (Stopped F)) → n ≤ length piece
      → ((stream : List ℕ) → StandsIn stream [] feed reader stop → StandsIn (stream ++ take n piece) [] next now found)
      → HasTaken before middle used feed reader stop → HasTaken before after (used + n) next now found
  taken-more feed next reader now stop found within on h = record {
    stream = h.stream ++ take n piece;
    width = omega (arith, within, h.width, length-append h.stream (take n piece), length-take n piece);
    given = Gave-more before.left middle.left after.left h.stream (take n piece) h.given given;
    stands = on h.stream h.stands;
  }
