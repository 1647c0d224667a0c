-- The parts of a report's text, appended one after the other.
use Rattle.std.proofs.Common.{◌≡◌, ℕ, List, [], ◌∷◌, ◌++◌, Option, map, codes, decimal, refl, sym, ap, ◌∙◌, append_assoc}
use Rattle.std.specs.List.{join_with_byte}
use Rattle.json_text.specs.Characters.{quote}
use Rattle.json_text.specs.Compact.{member_text, array_text, object_text}
use Rattle.effects.specs.declared.refusal.Refusal.{Refusal}
use Rattle.session.specs.declared.report.Report.{Report}
use Rattle.session.specs.declared.report.ReplicaReport.{ReplicaReport}
use Rattle.session.specs.declared.report.RefusedEvent.{RefusedEvent}
use Rattle.session.specs.Texts.{refusal_members, refusal_words, refusal_name, refused_text, replica_text, report_text}

abbrev number : List ℕ → ℕ → List ℕ
number name n = 44 ∷ member_text (name, decimal n)

joined4 : (a b c d : List ℕ) → 123 ∷ (join_with_byte 44 (a ∷ b ∷ c ∷ d ∷ []) ++ 125 ∷ []) ≡ (123 ∷ a)
    ++ ((44 ∷ b) ++ ((44 ∷ c) ++ ((44 ∷ d) ++ 125 ∷ [])))
joined4 a b c d = simp append_assoc

joined6 : (a b c d e f : List ℕ) → 123 ∷ (join_with_byte 44 (a ∷ b ∷ c ∷ d ∷ e ∷ f ∷ []) ++ 125 ∷ [])
    ≡ (123 ∷ a) ++ ((44 ∷ b) ++ ((44 ∷ c) ++ ((44 ∷ d) ++ ((44 ∷ e) ++ ((44 ∷ f) ++ 125 ∷ [])))))
joined6 a b c d e f = simp append_assoc

scene-first : (value : List ℕ) → 123 ∷ member_text (codes "scene", value) ≡ codes "{\"scene\":" ++ value
unfolding quote
scene-first value = refl

replica-parts : (report : ReplicaReport) → replica_text report
    ≡ codes "{\"scene\":" ++ (report.scene
    ++ (number (codes "taken") report.taken ++ (number (codes "stored") report.stored
    ++ (number (codes "live") report.live
    ++ (number (codes "undo") report.undo ++ (number (codes "redo") report.redo ++ 125 ∷ []))))))
unfolding replica_text object_text
replica-parts report =
    let rest = number (codes "taken") report.taken ++ (number (codes "stored") report.stored
    ++ (number (codes "live") report.live
    ++ (number (codes "undo") report.undo ++ (number (codes "redo") report.redo ++ 125 ∷ [])))) in
    joined6 (member_text (codes "scene", report.scene)) (member_text (codes "taken", decimal report.taken))
    (member_text (codes "stored", decimal report.stored))
    (member_text (codes "live", decimal report.live)) (member_text (codes "undo", decimal report.undo))
    (member_text (codes "redo", decimal report.redo))
    ∙ ap (λ x. x ++ rest) (scene-first report.scene)
    ∙ append_assoc (codes "{\"scene\":") report.scene rest

regrouped : (o a b c d e f g h : List ℕ) → (((((((o ++ a) ++ b) ++ c) ++ d) ++ e) ++ f) ++ g) ++ h ≡ o
    ++ (a ++ (b ++ (c ++ (d ++ (e ++ (f ++ (g ++ h)))))))
regrouped o a b c d e f g h = simp append_assoc

pub replica-written : (report : ReplicaReport) (o a b c d e f g h scene : List ℕ) → a ≡ o ++ codes "{\"scene\":"
    → b ≡ a ++ scene → scene ≡ report.scene
    → c ≡ b ++ number (codes "taken") report.taken → d ≡ c ++ number (codes "stored") report.stored
    → e ≡ d ++ number (codes "live") report.live
    → f ≡ e ++ number (codes "undo") report.undo → g ≡ f ++ number (codes "redo") report.redo → h ≡ g ++ 125 ∷ []
    → h ≡ o ++ replica_text report
replica-written report o a b c d e f g h scene one two is three four five six seven eight =
    eight
    ∙ ap (λ x. x ++ 125 ∷ [])
    (seven ∙ ap (λ x. x ++ number (codes "redo") report.redo)
    (six ∙ ap (λ x. x ++ number (codes "undo") report.undo)
    (five ∙ ap (λ x. x ++ number (codes "live") report.live)
    (four ∙ ap (λ x. x ++ number (codes "stored") report.stored)
    (three ∙ ap (λ x. x ++ number (codes "taken") report.taken)
    (two ∙ ap (λ x. a ++ x) is ∙ ap (λ x. x ++ report.scene) one))))))
    ∙ regrouped o (codes "{\"scene\":") report.scene (number (codes "taken") report.taken)
    (number (codes "stored") report.stored)
    (number (codes "live") report.live) (number (codes "undo") report.undo) (number (codes "redo") report.redo)
    (125 ∷ [])
    ∙ ap (λ x. o ++ x) (sym (replica-parts report))

event-first : (value : List ℕ) → 123 ∷ member_text (codes "event", value) ≡ codes "{\"event\":" ++ value
unfolding quote
event-first value = refl

-- ---- a refusal
abbrev why_text : Option Refusal → List ℕ
why_text why = join_with_byte 44 (map member_text (refusal_members why))

refusal-first : (value : List ℕ) → member_text (codes "refusal", value) ≡ codes "\"refusal\":" ++ value
unfolding quote
refusal-first value = refl

name-next : (value : List ℕ) → 44 ∷ member_text (codes "name", value) ≡ codes ",\"name\":" ++ value
unfolding quote
name-next value = refl

regrouped-why : (o a b c d : List ℕ) → (((o ++ a) ++ b) ++ c) ++ d ≡ o ++ ((a ++ b) ++ (c ++ d))
regrouped-why o a b c d = simp append_assoc

pub why-written : (why : Option Refusal) (o a b c d words : List ℕ) → a ≡ o ++ codes "\"refusal\":"
    → b ≡ a ++ quote words → words ≡ refusal_words why → c ≡ b ++ codes ",\"name\":"
    → d ≡ c ++ refusal_name why → d ≡ o ++ why_text why
why-written why o a b c d words one two is three four =
    four
    ∙ ap (λ x. x ++ refusal_name why)
    (three ∙ ap (λ x. x ++ codes ",\"name\":")
    (two ∙ ap (λ x. a ++ quote x) is ∙ ap (λ x. x ++ quote (refusal_words why)) one))
    ∙ regrouped-why o (codes "\"refusal\":") (quote (refusal_words why)) (codes ",\"name\":") (refusal_name why)
    ∙ sym (λ i. o ++ (refusal-first (quote (refusal_words why)) i ++ name-next (refusal_name why) i))

regrouped-object : (o a : List ℕ) → ((o ++ 123 ∷ []) ++ a) ++ 125 ∷ [] ≡ o ++ 123 ∷ (a ++ 125 ∷ [])
regrouped-object o a = simp append_assoc

pub refusal-written : (why : Option Refusal) (o a b c : List ℕ) → a ≡ o ++ 123 ∷ [] → b ≡ a ++ why_text why
    → c ≡ b ++ 125 ∷ [] → c ≡ o ++ object_text (refusal_members why)
unfolding object_text
refusal-written why o a b c one two three =
    three ∙ ap (λ x. x ++ 125 ∷ []) (two ∙ ap (λ x. x ++ why_text why) one) ∙ regrouped-object o (why_text why)

joined-front : (a b : List ℕ) → 123 ∷ ((a ++ 44 ∷ b) ++ 125 ∷ []) ≡ (123 ∷ a) ++ (44 ∷ (b ++ 125 ∷ []))
joined-front a b = simp append_assoc

event-parts : (event : RefusedEvent) → refused_text event ≡ codes "{\"event\":"
    ++ (decimal event.event ++ (44 ∷ (why_text event.why ++ 125 ∷ [])))
unfolding refused_text object_text
event-parts event =
    let rest = 44 ∷ (why_text event.why ++ 125 ∷ []) in
    joined-front (member_text (codes "event", decimal event.event)) (why_text event.why)
    ∙ ap (λ x. x ++ rest) (event-first (decimal event.event))
    ∙ append_assoc (codes "{\"event\":") (decimal event.event) rest

regrouped-event : (o a b c : List ℕ) → ((((o ++ a) ++ b) ++ 44 ∷ []) ++ c) ++ 125 ∷ [] ≡ o
    ++ (a ++ (b ++ (44 ∷ (c ++ 125 ∷ []))))
regrouped-event o a b c = simp append_assoc

pub event-written : (event : RefusedEvent) (o a b c d e : List ℕ) → a ≡ o ++ codes "{\"event\":"
    → b ≡ a ++ decimal event.event → c ≡ b ++ 44 ∷ [] → d ≡ c ++ why_text event.why → e ≡ d ++ 125 ∷ []
    → e ≡ o ++ refused_text event
event-written event o a b c d e one two three four five =
    five
    ∙ ap (λ x. x ++ 125 ∷ [])
    (four ∙ ap (λ x. x ++ why_text event.why)
    (three ∙ ap (λ x. x ++ 44 ∷ [])
    (two ∙ ap (λ x. x ++ decimal event.event) one)))
    ∙ regrouped-event o (codes "{\"event\":") (decimal event.event) (why_text event.why)
    ∙ ap (λ x. o ++ x) (sym (event-parts event))

replicas-first : (items : List ℕ) → 123 ∷ member_text (codes "replicas", 91 ∷ items) ≡ codes "{\"replicas\":[" ++ items
unfolding quote
replicas-first items = refl

messages-next : (value : List ℕ) → 93 ∷ 44 ∷ member_text (codes "messages", value) ≡ codes "],\"messages\":" ++ value
unfolding quote
messages-next value = refl

refused-next : (items : List ℕ) → 44 ∷ member_text (codes "refused", 91 ∷ items) ≡ codes ",\"refused\":[" ++ items
unfolding quote
refused-next items = refl

clashes-next : (value : List ℕ) → 93 ∷ 44 ∷ member_text (codes "clashes", value) ≡ codes "],\"clashes\":" ++ value
unfolding quote
clashes-next value = refl

parts4 : (f a b g c d k : List ℕ) → (f ++ (a ++ 93 ∷ [])) ++ (b ++ ((g ++ (c ++ 93 ∷ [])) ++ (d ++ k))) ≡ f
    ++ (a ++ ((93 ∷ b) ++ (g ++ (c ++ ((93 ∷ d) ++ k)))))
parts4 f a b g c d k = simp append_assoc

parts8 : (f a g b h c m d k : List ℕ) → f ++ (a ++ ((g ++ b) ++ (h ++ (c ++ ((m ++ d) ++ k))))) ≡ f
    ++ (a ++ (g ++ (b ++ (h ++ (c ++ (m ++ (d ++ k)))))))
parts8 f a g b h c m d k = simp append_assoc

report-parts : (report : Report) → report_text report
    ≡ codes "{\"replicas\":[" ++ (join_with_byte 44 (map replica_text report.replicas)
    ++ (codes "],\"messages\":" ++ (decimal report.messages
    ++ (codes ",\"refused\":[" ++ (join_with_byte 44 (map refused_text report.refused)
    ++ (codes "],\"clashes\":" ++ (decimal report.clashes ++ 125 ∷ [])))))))
unfolding report_text object_text array_text
report-parts report =
    let replicas : List ℕ = join_with_byte 44 (map replica_text report.replicas) in
    let refused : List ℕ = join_with_byte 44 (map refused_text report.refused) in
    let second : List ℕ = 44 ∷ member_text (codes "messages", decimal report.messages) in
    let fourth : List ℕ = 44 ∷ member_text (codes "clashes", decimal report.clashes) in
    joined4 (member_text (codes "replicas", array_text (map replica_text report.replicas)))
    (member_text (codes "messages", decimal report.messages))
    (member_text (codes "refused", array_text (map refused_text report.refused)))
    (member_text (codes "clashes", decimal report.clashes))
    ∙ (λ i. replicas-first (replicas ++ 93 ∷ []) i
    ++ (second ++ (refused-next (refused ++ 93 ∷ []) i ++ (fourth ++ 125 ∷ []))))
    ∙ parts4 (codes "{\"replicas\":[") replicas second (codes ",\"refused\":[") refused fourth (125 ∷ [])
    ∙ (λ i. codes "{\"replicas\":[" ++ (replicas
    ++ (messages-next (decimal report.messages) i
    ++ (codes ",\"refused\":[" ++ (refused ++ (clashes-next (decimal report.clashes) i ++ 125 ∷ []))))))
    ∙ parts8 (codes "{\"replicas\":[") replicas (codes "],\"messages\":") (decimal report.messages)
    (codes ",\"refused\":[") refused (codes "],\"clashes\":") (decimal report.clashes) (125 ∷ [])

pub report-written : (report : Report) (o a b c d e f g h j : List ℕ) (replicas : List ReplicaReport)
    (refused : List RefusedEvent) → o ≡ [] → a ≡ o ++ codes "{\"replicas\":["
    → b ≡ a ++ join_with_byte 44 (map replica_text replicas) → replicas ≡ report.replicas
    → c ≡ b ++ codes "],\"messages\":" → d ≡ c ++ decimal report.messages
    → e ≡ d ++ codes ",\"refused\":[" → f ≡ e ++ join_with_byte 44 (map refused_text refused) → refused ≡ report.refused
    → g ≡ f ++ codes "],\"clashes\":"
    → h ≡ g ++ decimal report.clashes → j ≡ h ++ 125 ∷ [] → j ≡ report_text report
report-written report o a b c d e f g h j replicas refused none one two same three four five six same' seven eight
    nine =
    nine
    ∙ ap (λ x. x ++ 125 ∷ [])
    (eight ∙ ap (λ x. x ++ decimal report.clashes)
    (seven ∙ ap (λ x. x ++ codes "],\"clashes\":")
    (six ∙ ap (λ (xs : List RefusedEvent). e ++ join_with_byte 44 (map refused_text xs)) same'
    ∙ ap (λ x. x ++ join_with_byte 44 (map refused_text report.refused))
    (five ∙ ap (λ x. x ++ codes ",\"refused\":[")
    (four ∙ ap (λ x. x ++ decimal report.messages)
    (three ∙ ap (λ x. x ++ codes "],\"messages\":")
    (two ∙ ap (λ (xs : List ReplicaReport). a ++ join_with_byte 44 (map replica_text xs)) same
    ∙ ap (λ x. x ++ join_with_byte 44 (map replica_text report.replicas))
    (one ∙ ap (λ x. x ++ codes "{\"replicas\":[") none))))))))
    ∙ regrouped-report (codes "{\"replicas\":[") (join_with_byte 44 (map replica_text report.replicas))
    (codes "],\"messages\":") (decimal report.messages)
    (codes ",\"refused\":[") (join_with_byte 44 (map refused_text report.refused)) (codes "],\"clashes\":")
    (decimal report.clashes) (125 ∷ [])
    ∙ sym (report-parts report)
  where
    regrouped-report : (a b c d e f g h k : List ℕ) → (((((((a ++ b) ++ c) ++ d) ++ e) ++ f) ++ g) ++ h) ++ k ≡ a
        ++ (b ++ (c ++ (d ++ (e ++ (f ++ (g ++ (h ++ k)))))))
    regrouped-report a b c d e f g h k = simp append_assoc
