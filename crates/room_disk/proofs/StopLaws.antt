-- What is recovered of the records of a run, wherever it was stopped.
use Rattle.std.proofs.Common.{◌≡◌, ℕ, zero, suc, ◌≤◌, List, [], ◌∷◌, ◌++◌, length, take, map, All, Result, Ok, refl, sym, ap, ◌∙◌, subst, arith}
use Rattle.std.specs.List.{AllByRecursion}
use Rattle.std.proofs.lemmas.List.Elements.{All-head, All-tail, All-take}
use Rattle.elem.specs.ElementValue.{ElementValue}
use Rattle.elem_read.specs.Reading.{IsWholeElement}
use Rattle.elem_store.specs.Updates.{AreStored}
use Rattle.elem_store.proofs.CallerLemmas.{AreStored-itself, stored-exist}
use Rattle.room_msg.specs.Texts.{message_text}
use Rattle.room_msg.specs.declared.message.Message.TheVariants.{Update}
use Rattle.scene_file.specs.Heads.{Heading}
use Rattle.scene_file.specs.Scenes.{state_text}
use Rattle.input_texts.specs.Lines.{lines_of}
use Rattle.room_disk.specs.Records.{record_of, bytes_of, update_record, opening_record, records_of}
use Rattle.room_disk.specs.Recovering.{AreKept, AreReadAs, IsRecoveredAs, Recovered, empty_head}
use Rattle.room_disk.specs.Stops.{IsOpening, HasFirst, IsAnswerTo, IsAnswerAfter}
use Rattle.room_disk.specs.declared.fault.KeepFault.{KeepFault}
use Rattle.input_texts.proofs.CallerLemmas.{NoFeed}
use Rattle.room_disk.proofs.Cuts.{IsCut, cut}
use Rattle.room_disk.proofs.Once.{kept-answer}
use Rattle.room_disk.proofs.Written.{AreReadBack, state-none, update-none, opening-read, updates-read}
use Rattle.room_disk.proofs.KeptLines.{all}

-- ---- the texts of the records
abbrev texts : Heading → List ElementValue → List (List ElementValue) → List (List ℕ)
texts head stored messages =
    state_text head stored ∷ map (λ (es : List ElementValue). message_text (Update es)) messages

ended : (messages : List (List ElementValue))
    → map record_of (map (λ (es : List ElementValue). message_text (Update es)) messages) ≡ map update_record messages
ended [] = refl
ended (m ∷ messages) = ap (λ rs. update_record m ∷ rs) (ended messages)

taken-map : (n : ℕ) (messages : List (List ElementValue))
    → take n (map (λ (es : List ElementValue). message_text (Update es)) messages)
    ≡ map (λ (es : List ElementValue). message_text (Update es)) (take n messages)
taken-map zero messages = refl
taken-map (suc n) [] = refl
taken-map (suc n) (m ∷ messages) = ap (λ ts. message_text (Update m) ∷ ts) (taken-map n messages)

map-length : (messages : List (List ElementValue))
    → length (map (λ (es : List ElementValue). message_text (Update es)) messages) ≡ length messages
map-length [] = refl
map-length (m ∷ messages) = let more = map-length messages in omega (arith, more)

records-length : (messages : List (List ElementValue)) → length (map update_record messages) ≡ length messages
records-length [] = refl
records-length (m ∷ messages) = let more = records-length messages in omega (arith, more)

all-none : (messages : List (List ElementValue)) → All (All IsWholeElement) messages
    → AllByRecursion NoFeed (map (λ (es : List ElementValue). message_text (Update es)) messages)
all-none [] whole = tt
all-none (m ∷ messages) whole = (
  update-none m (All-head (All IsWholeElement) m messages whole),
  all-none messages (All-tail (All IsWholeElement) m messages whole),
)

-- ---- what is stored
abbrev pub DoJoin : Type 0
DoJoin = (updates others elements news all : List ElementValue) → AreStored updates elements → AreStored others news
    → AreStored (elements ++ news) all → AreStored (updates ++ others) all

stored-of : DoJoin → (stored more : List ElementValue) → AreStored stored stored → (elements : List ElementValue)
    × AreStored (stored ++ more) elements × ((updates : List ElementValue) → AreStored updates stored
    → AreStored (updates ++ more) elements)
stored-of join stored more itself =
    let news = stored-exist more in
    let both = stored-exist (stored ++ news.0) in (
      both.0,
      join stored more stored news.0 both.0 itself news.1 both.1,
      λ updates are. join updates more stored news.0 both.0 are news.1 both.1,
    )

-- ---- the answer
pub nothing : (lines : List (List ℕ)) (answer : Result Recovered KeepFault) → lines ≡ [] → AreReadAs lines answer
    → answer ≡ Ok (record { head = empty_head; elements = [] })
nothing lines answer none is =
    kept-answer lines empty_head [] answer (subst (λ ls. AreKept ls empty_head []) (sym none) (refl, refl)) is

some : DoJoin → AreReadBack → (head : Heading) (stored : List ElementValue) (messages : List (List ElementValue))
    → IsOpening head stored → All (All IsWholeElement) messages
    → (n : ℕ) → n ≤ length messages → (lines : List (List ℕ)) (answer : Result Recovered KeepFault)
    → lines ≡ opening_record head stored ∷ map update_record (take n messages) → AreReadAs lines answer
    → HasFirst head stored messages n answer
some join back head stored messages opening whole n within lines answer are is =
    let found = stored-of join stored (all (take n messages)) (AreStored-itself stored opening.ordered) in
    record {
      within = within;
      elements = found.0;
      taken = found.2;
      is = kept-answer lines head found.0 answer (subst (λ ls. AreKept ls head found.0) (sym are) (record {
        scene = record { head = head; elements = stored };
        read = opening-read head stored opening.whole opening.elements opening.keys;
        is_head = refl;
        messages = take n messages;
        updates = updates-read back (take n messages) (All-take (All IsWholeElement) n messages whole);
        stored = found.1;
      })) is;
    }

pub stopped : DoJoin → AreReadBack → (head : Heading) (stored : List ElementValue) (messages : List (List ElementValue))
    (left lost : List ℕ) (answer : Result Recovered KeepFault) → IsOpening head stored
    → All (All IsWholeElement) messages → bytes_of (records_of head stored messages) ≡ left ++ lost
    → IsRecoveredAs left answer → IsAnswerAfter head stored messages left answer
stopped join back head stored messages left lost answer opening whole e is =
    by-count (cut (texts head stored messages) left lost none (ap bytes_of same ∙ e))
  where
    none : AllByRecursion NoFeed (texts head stored messages)
    none = (state-none head stored opening.whole opening.elements, all-none messages whole)

    same : map record_of (texts head stored messages) ≡ records_of head stored messages
    same = ap (λ rs. opening_record head stored ∷ rs) (ended messages)

    record-count : length (texts head stored messages) ≡ length (records_of head stored messages)
    record-count =
        let first = map-length messages in let second = records-length messages in omega (arith, first, second)

    answer-of : (n : ℕ) → n ≤ length (texts head stored messages)
        → lines_of left ≡ map record_of (take n (texts head stored messages)) → IsAnswerTo head stored messages n answer
    answer-of zero within lines = nothing (lines_of left) answer lines is
    answer-of (suc n) within lines =
        let few : n ≤ length messages = (let long = map-length messages in omega (arith, within, long)) in
        some join back head stored messages opening whole n few (lines_of left) answer
        (lines ∙ ap (λ rs. opening_record head stored ∷ rs) (ap (map record_of) (taken-map n messages)
        ∙ ended (take n messages))) is

    by-count : IsCut (texts head stored messages) left → IsAnswerAfter head stored messages left answer
    by-count c = record {
      whole = c.count;
      is = answer-of c.count c.within c.lines;
      all = λ count has. c.all count (omega (arith, has.within, record-count))
          (subst (λ rs. length (bytes_of (take count rs)) ≤ length left) (sym same) has.long);
    }
