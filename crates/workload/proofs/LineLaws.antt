-- Lines of events lead up to the last line feed.
use Rattle.std.proofs.Common.{◌≡◌, ℕ, ◌+◌, List, [], ◌∷◌, ◌++◌, flat_map, refl, sym, ap, ◌∙◌, append_assoc}
use Rattle.json_text.specs.Value.{Stands}
use Rattle.session_text.specs.Sessions.{messages_of, made_after, EventsLead}
use Rattle.session_text.specs.declared.event.Event.{Event}
use Rattle.workload.specs.Texts.{line}
use Rattle.workload.proofs.EventLaws.{IsLine}

-- Each text is read as the event at its place.
abbrev pub AreLines : ℕ → List (List ℕ) → List Event → Type 0
AreLines made [] [] = Unit {0}
AreLines made [] (event ∷ events) = ⊥
AreLines made (text ∷ texts) [] = ⊥
AreLines made (text ∷ texts) (event ∷ events) =
    IsLine made text event × AreLines (made + messages_of event) texts events

pub lines-append : (made : ℕ) (texts others : List (List ℕ)) (events more : List Event) → AreLines made texts events
    → AreLines (made_after made events) others more →
    AreLines made (texts ++ others) (events ++ more)
lines-append made [] others [] more are next = next
lines-append made [] others (event ∷ events) more are next = absurd are
lines-append made (text ∷ texts) others [] more are next = absurd are
lines-append made (text ∷ texts) others (event ∷ events) more are next =
    (are.0, lines-append (made + messages_of event) texts others events more are.1 next)

-- a text behind a line feed, before another line
line-stands : (made : ℕ) (text rest : List ℕ) (event : Event) → IsLine made text event
    → Stands (10 ∷ (line text ++ rest)) text (10 ∷ rest)
line-stands made text rest event is = record {
  blank = 10 ∷ [];
  value = text;
  parts = ap (λ (bytes : List ℕ). 10 ∷ bytes) (append_assoc text (10 ∷ []) rest);
  space = refl;
  reads = is.compact;
  ends = λ number. refl;
}

pub lines-lead : (made : ℕ) (texts : List (List ℕ)) (events : List Event) → AreLines made texts events
    → EventsLead 4 made (10 ∷ flat_map line texts) events (10 ∷ [])
lines-lead made [] [] are = refl
lines-lead made [] (event ∷ events) are = absurd are
lines-lead made (text ∷ texts) [] are = absurd are
lines-lead made (text ∷ texts) (event ∷ events) are = (
  10 ∷ flat_map line texts,
  (text, line-stands made text (flat_map line texts) event are.0, are.0.says),
  lines-lead (made + messages_of event) texts events are.1,
)

-- ---- the last line feed
abbrev before_line : List ℕ → List ℕ
before_line text = 10 ∷ text

pub behind_all : List (List ℕ) → List ℕ
behind_all texts = flat_map before_line texts

pub last-feed : (texts : List (List ℕ)) → 10 ∷ flat_map line texts ≡ behind_all texts ++ 10 ∷ []
unfolding behind_all
last-feed [] = refl
last-feed (text ∷ texts) =
    ap (λ (bytes : List ℕ). 10 ∷ bytes) (append_assoc text (10 ∷ []) (flat_map line texts)
    ∙ ap (λ (bytes : List ℕ). text ++ bytes) (last-feed texts)
    ∙ sym (append_assoc text (behind_all texts) (10 ∷ [])))
