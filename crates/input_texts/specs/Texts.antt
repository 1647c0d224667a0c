-- The texts of an input that comes in pieces. This project's own.
use Rattle.std.specs.Prelude.{◌≡◌, ◌⊎◌, ℕ, ◌+◌, ◌<◌, ◌≤◌, List, [], ◌∷◌, Bool, true, false, Option, None, Some, length, drop}
use Rattle.std.specs.List.{prefix_len}
use Rattle.json_text.specs.Characters.{is_blank, is_space}
use Rattle.json_text.specs.Value.{Stands}
use Rattle.json_reader.specs.Faults.{IsFirstFault}
use Rattle.json_reader.specs.declared.fault.JsonFault.{JsonFault}
use Rattle.input_texts.specs.declared.reading.Stopped.{Stopped}
use Rattle.input_texts.specs.declared.reading.Stopped.TheVariants.{Faulty, Refused, Extra}

-- What is seen of a reader of texts: which compact texts it has read, one after the other; which
-- text it refuses behind those, and for which fault; whether it takes no further text; and whether
-- it must have one more.
pub record Reading (F : Type 0) : Type 1 where
  pub has_read : List (List ℕ) → Type 0
  pub refuses : List (List ℕ) → List ℕ → F → Type 0
  pub is_full : Bool
  pub needs_text : Bool

-- Values with these compact texts stand at the front, one after the other, each behind white space;
-- the rest follows them.
abbrev pub TextsLead : List ℕ → List (List ℕ) → List ℕ → Type 0
TextsLead bytes [] rest = bytes ≡ rest
TextsLead bytes (text ∷ texts) rest =
    (next : List ℕ) × Stands bytes text next × TextsLead next texts rest

-- The texts that the reader has read lead up to this offset.
pub record HasReadTo {F : Type 0} (bytes : List ℕ) (reader : Reading F) (texts : List (List ℕ))
    (start : ℕ) : Type 0 where
  pub read : reader.has_read texts
  pub within : start ≤ length bytes
  pub lead : TextsLead bytes texts (drop start bytes)

-- The reader has read all texts: behind them white space alone is left, and it needs no further
-- one.
pub record HasTexts {F : Type 0} (bytes : List ℕ) (reader : Reading F) : Type 0 where
  pub texts : List (List ℕ)
  pub start : ℕ
  pub behind : HasReadTo bytes reader texts start
  pub space : is_blank (drop start bytes) ≡ true
  pub enough : reader.needs_text ≡ false

-- Behind the texts that the reader has read it takes a further one, and no value stands there: this
-- is the first fault. It needs the text, or more than white space is left.
pub record HasFaultBehind {F : Type 0} (bytes : List ℕ) (reader : Reading F)
    (fault : JsonFault) : Type 0 where
  pub texts : List (List ℕ)
  pub start : ℕ
  pub behind : HasReadTo bytes reader texts start
  pub takes : reader.is_full ≡ false
  pub begun : (reader.needs_text ≡ true) ⊎ (is_blank (drop start bytes) ≡ false)
  pub faulty : IsFirstFault bytes start fault

-- Behind texts that the reader has read one stands that it refuses for this fault.
pub record HasRefusedBehind {F : Type 0} (bytes : List ℕ) (reader : Reading F)
    (fault : F) : Type 0 where
  pub texts : List (List ℕ)
  pub start : ℕ
  pub within : start ≤ length bytes
  pub lead : TextsLead bytes texts (drop start bytes)
  pub text : List ℕ
  pub rest : List ℕ
  pub stands : Stands (drop start bytes) text rest
  pub begun : is_blank (drop start bytes) ≡ false
  pub refused : reader.refuses texts text fault

-- Behind the texts that the reader has read it takes no further one, and more than white space is
-- left: behind the white space a further byte stands at this place.
pub record HasExtraBehind {F : Type 0} (bytes : List ℕ) (reader : Reading F)
    (place : ℕ) : Type 0 where
  pub texts : List (List ℕ)
  pub start : ℕ
  pub behind : HasReadTo bytes reader texts start
  pub full : reader.is_full ≡ true
  pub begun : is_blank (drop start bytes) ≡ false
  pub is_first : place ≡ start + prefix_len is_space (drop start bytes)
  pub more : place < length bytes

-- why no further text is read
abbrev pub IsStopped : {F : Type 0} → List ℕ → Reading F → Stopped F → Type 0
IsStopped bytes reader (Faulty fault) = HasFaultBehind bytes reader fault
IsStopped bytes reader (Refused fault) = HasRefusedBehind bytes reader fault
IsStopped bytes reader (Extra place) = HasExtraBehind bytes reader place

-- The reader has read all texts of the input, or this is what stopped it first.
abbrev pub AreRead : {F : Type 0} → List ℕ → Reading F → Option (Stopped F) → Type 0
AreRead bytes reader None = HasTexts bytes reader
AreRead bytes reader (Some stopped) = IsStopped bytes reader stopped
