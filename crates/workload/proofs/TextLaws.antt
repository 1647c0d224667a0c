-- The parts of a drill's texts, appended one after the other.
use Rattle.std.proofs.Common.{◌≡◌, ◌<◌, ◌≤◌, ◌^◌, ℕ, suc, List, [], ◌∷◌, ◌++◌, map, flat_map, length, get_or, codes, decimal, refl, ap, ap₂, ◌∙◌, arith, append_assoc}
use Rattle.std.specs.Int.{IsInRange}
use Rattle.std.specs.List.{join_with_byte}
use Rattle.std.proofs.lemmas.Bool.Decides.{nat_tests}
use Rattle.json_text.specs.Characters.{quote, quoted_byte}
use Rattle.json_text.specs.Compact.{member_text, array_text, object_text}
use Rattle.scene_json.proofs.CallerLemmas.{digit_of_decimal}
use Rattle.elem.specs.Texts.{kind_name}
use Rattle.board_commands.specs.declared.command.Capture.{Capture}
use Rattle.board_commands.specs.declared.command.Side.{Side}
use Rattle.session_text.specs.Forms.{capture_text, side_text}
use Rattle.workload.specs.Texts.{id_text, kind_of, numbered_element_text, set_members, order_text, change_members, step_members, delivery_text, session_header_text}
use Rattle.workload.specs.declared.deed.Order.{Order}
use Rattle.workload.specs.declared.deed.Order.TheVariants.{Create, Place, Bind, Label, Frame, Group, Delete}

-- ---- what is appended in so many parts
behind3 : (o a b c : List ℕ) → ((o ++ a) ++ b) ++ c ≡ o ++ (a ++ (b ++ c))
behind3 o a b c = simp append_assoc

within3 : (a b c d : List ℕ) → (a ++ (b ++ c)) ++ d ≡ a ++ (b ++ (c ++ d))
within3 a b c d = simp append_assoc

pub appended3 : (o p q r a b c : List ℕ) → p ≡ o ++ a → q ≡ p ++ b → r ≡ q ++ c → r ≡ o ++ (a ++ (b ++ c))
appended3 o p q r a b c one two three =
    three ∙ (ap (λ (bytes : List ℕ). bytes ++ c) (two ∙ ap (λ (bytes : List ℕ). bytes ++ b) one) ∙ behind3 o a b c)

pub appended5 : (o p q r s t a b c d e : List ℕ) → p ≡ o ++ a → q ≡ p ++ b → r ≡ q ++ c → s ≡ r ++ d → t ≡ s ++ e
    → t ≡ o ++ (a ++ (b ++ (c ++ (d ++ e))))
appended5 o p q r s t a b c d e one two three four five =
    appended3 o r s t (a ++ (b ++ c)) d e (appended3 o p q r a b c one two three) four five
    ∙ ap (λ (bytes : List ℕ). o ++ bytes) (within3 a b c (d ++ e))

pub appended7 : (o p q r s t u v a b c d e f g : List ℕ) → p ≡ o ++ a → q ≡ p ++ b → r ≡ q ++ c → s ≡ r ++ d
    → t ≡ s ++ e → u ≡ t ++ f → v ≡ u ++ g
    → v ≡ o ++ (a ++ (b ++ (c ++ (d ++ (e ++ (f ++ g))))))
appended7 o p q r s t u v a b c d e f g one two three four five six seven =
    appended5 o r s t u v (a ++ (b ++ c)) d e f g (appended3 o p q r a b c one two three) four five six seven
    ∙ ap (λ (bytes : List ℕ). o ++ bytes) (within3 a b c (d ++ (e ++ (f ++ g))))

pub appended9 : (o p q r s t u v w x a b c d e f g h i : List ℕ) → p ≡ o ++ a → q ≡ p ++ b → r ≡ q ++ c → s ≡ r ++ d
    → t ≡ s ++ e → u ≡ t ++ f → v ≡ u ++ g → w ≡ v ++ h → x ≡ w ++ i
    → x ≡ o ++ (a ++ (b ++ (c ++ (d ++ (e ++ (f ++ (g ++ (h ++ i))))))))
appended9 o p q r s t u v w x a b c d e f g h i one two three four five six seven eight nine =
    appended7 o r s t u v w x (a ++ (b ++ c)) d e f g h i (appended3 o p q r a b c one two three) four five six seven
    eight nine
    ∙ ap (λ (bytes : List ℕ). o ++ bytes) (within3 a b c (d ++ (e ++ (f ++ (g ++ (h ++ i))))))

-- ---- members with commas between them
joined2 : (a b : List ℕ) → 123 ∷ (join_with_byte 44 (a ∷ b ∷ []) ++ 125 ∷ []) ≡ (123 ∷ a) ++ ((44 ∷ b) ++ 125 ∷ [])
joined2 a b = simp append_assoc

joined3 : (a b c : List ℕ) → 123 ∷ (join_with_byte 44 (a ∷ b ∷ c ∷ []) ++ 125 ∷ []) ≡ (123 ∷ a)
    ++ ((44 ∷ b) ++ ((44 ∷ c) ++ 125 ∷ []))
joined3 a b c = simp append_assoc

joined4 : (a b c d : List ℕ) → 123 ∷ (join_with_byte 44 (a ∷ b ∷ c ∷ d ∷ []) ++ 125 ∷ []) ≡ (123 ∷ a)
    ++ ((44 ∷ b) ++ ((44 ∷ c) ++ ((44 ∷ d) ++ 125 ∷ [])))
joined4 a b c d = simp append_assoc

joined5 : (a b c d e : List ℕ) → 123 ∷ (join_with_byte 44 (a ∷ b ∷ c ∷ d ∷ e ∷ []) ++ 125 ∷ []) ≡ (123 ∷ a)
    ++ ((44 ∷ b) ++ ((44 ∷ c) ++ ((44 ∷ d) ++ ((44 ∷ e) ++ 125 ∷ []))))
joined5 a b c d e = simp append_assoc

-- ---- ids
digit-plain : (b : ℕ) → 48 ≤ b → b ≤ 57 → quoted_byte b ≡ b ∷ []
digit-plain b low high = grind (arith, nat_tests)

digits-plain : (bytes : List ℕ) → ((i : ℕ) → i < length bytes → IsInRange 48 57 (get_or bytes i 0))
    → flat_map quoted_byte bytes ≡ bytes
digits-plain [] each = refl
digits-plain (b ∷ bytes) each =
    let first = each 0 (omega arith) in
    ap₂ (λ (front rest : List ℕ). front ++ rest) (digit-plain b first.0 first.1)
    (digits-plain bytes (λ i within. each (suc i) (omega arith)))

pub id-parts : (number : ℕ) → number < 2 ^ 64 → id_text number ≡ codes "\"e" ++ (decimal number ++ codes "\"")
unfolding id_text quote
id-parts number small =
    ap (λ (digits : List ℕ). 34 ∷ 101 ∷ (digits ++ 34 ∷ []))
    (digits-plain (decimal number) (λ i within. digit_of_decimal (decimal number) number i small refl within))

-- ---- the header and the events
pub header-parts : (seed : ℕ) → session_header_text seed ≡ codes "{\"session\":1,\"replicas\":4,\"seed\":"
    ++ (decimal seed ++ codes ",\"scene\":null}")
unfolding session_header_text object_text quote
header-parts seed =
    joined4 (member_text (codes "session", codes "1")) (member_text (codes "replicas", codes "4"))
    (member_text (codes "seed", decimal seed)) (member_text (codes "scene", codes "null"))

pub change-parts : (at time : ℕ) (capture : Capture) (order : Order)
    → object_text (change_members at time capture order)
    ≡ codes "{\"do\":\"change\",\"at\":"
    ++ (decimal at ++ (codes ",\"time\":"
    ++ (decimal time ++ (codes ",\"capture\":"
    ++ (capture_text capture ++ (codes ",\"command\":" ++ (order_text order ++ codes "}")))))))
unfolding object_text quote
change-parts at time capture order =
    joined5 (member_text (codes "do", quote (codes "change"))) (member_text (codes "at", decimal at))
    (member_text (codes "time", decimal time))
    (member_text (codes "capture", capture_text capture)) (member_text (codes "command", order_text order))

pub step-parts : (word : List ℕ) (at time : ℕ) → object_text (step_members word at time)
    ≡ codes "{\"do\":"
    ++ (quote word ++ (codes ",\"at\":" ++ (decimal at ++ (codes ",\"time\":" ++ (decimal time ++ codes "}")))))
unfolding object_text quote
step-parts word at time = joined3 (member_text (codes "do", quote word)) (member_text (codes "at", decimal at))
    (member_text (codes "time", decimal time))

pub delivery-parts : (to : ℕ) (messages : List ℕ) → delivery_text to messages
    ≡ codes "{\"do\":\"deliver\",\"to\":"
    ++ (decimal to ++ (codes ",\"picks\":[" ++ (join_with_byte 44 (map decimal messages) ++ codes "]}")))
unfolding delivery_text object_text array_text quote
delivery-parts to messages =
    joined3 (member_text (codes "do", quote (codes "deliver"))) (member_text (codes "to", decimal to))
    (member_text (codes "picks", array_text (map decimal messages)))
    ∙ ap (λ (rest : List ℕ). codes "{\"do\":\"deliver\",\"to\":" ++ (decimal to ++ (codes ",\"picks\":[" ++ rest)))
    (append_assoc (join_with_byte 44 (map decimal messages)) (93 ∷ []) (125 ∷ []))

-- ---- the commands
element-parts : (element : ℕ) → numbered_element_text element ≡ codes "{\"id\":"
    ++ (id_text element ++ (codes ",\"type\":" ++ (quote (kind_name (kind_of element)) ++ codes "}")))
unfolding numbered_element_text object_text quote
element-parts element = joined2 (member_text (codes "id", id_text element))
    (member_text (codes "type", quote (kind_name (kind_of element))))

within4 : (a b c d e : List ℕ) → (a ++ (b ++ (c ++ d))) ++ e ≡ a ++ (b ++ (c ++ (d ++ e)))
within4 a b c d e = simp append_assoc

create-whole : (element : ℕ) → order_text (Create element) ≡ codes "{\"name\":\"create\",\"element\":"
    ++ (numbered_element_text element ++ codes ",\"spot\":\"top\"}")
unfolding order_text object_text quote
create-whole element =
    joined3 (member_text (codes "name", quote (codes "create")))
    (member_text (codes "element", numbered_element_text element)) (member_text (codes "spot", quote (codes "top")))

pub create-parts : (element : ℕ) → order_text (Create element)
    ≡ codes "{\"name\":\"create\",\"element\":{\"id\":"
    ++ (id_text element ++ (codes ",\"type\":"
    ++ (quote (kind_name (kind_of element)) ++ codes "},\"spot\":\"top\"}")))
create-parts element =
    create-whole element
    ∙ (ap (λ (text : List ℕ). codes "{\"name\":\"create\",\"element\":" ++ (text ++ codes ",\"spot\":\"top\"}"))
    (element-parts element)
    ∙ ap (λ (rest : List ℕ). codes "{\"name\":\"create\",\"element\":{\"id\":" ++ rest)
    (within4 (id_text element) (codes ",\"type\":") (quote (kind_name (kind_of element))) (codes "}")
    (codes ",\"spot\":\"top\"}")))

pub set-parts : (element : ℕ) (member : List ℕ) (value : ℕ) → object_text (set_members element member value)
    ≡ codes "{\"name\":\"set\",\"id\":"
    ++ (id_text element ++ (codes ",\"member\":"
    ++ (quote member ++ (codes ",\"value\":" ++ (decimal value ++ codes "}")))))
unfolding object_text quote
set-parts element member value =
    joined4 (member_text (codes "name", quote (codes "set"))) (member_text (codes "id", id_text element))
    (member_text (codes "member", quote member)) (member_text (codes "value", decimal value))

pub place-parts : (element other : ℕ) → order_text (Place element other)
    ≡ codes "{\"name\":\"place\",\"id\":"
    ++ (id_text element ++ (codes ",\"spot\":{\"after\":" ++ (id_text other ++ codes "}}")))
unfolding order_text object_text quote
place-parts element other =
    joined3 (member_text (codes "name", quote (codes "place"))) (member_text (codes "id", id_text element))
    (member_text (codes "spot", object_text ((codes "after", id_text other) ∷ [])))
    ∙ ap (λ (rest : List ℕ). codes "{\"name\":\"place\",\"id\":"
    ++ (id_text element ++ (codes ",\"spot\":{\"after\":" ++ rest)))
    (append_assoc (id_text other) (125 ∷ []) (125 ∷ []))

pub bind-parts : (side : Side) (element other : ℕ) → order_text (Bind side element other)
    ≡ codes "{\"name\":\"bind\",\"arrow\":"
    ++ (id_text element ++ (codes ",\"end\":"
    ++ (side_text side ++ (codes ",\"target\":" ++ (id_text other ++ codes ",\"binding\":{}}")))))
unfolding order_text object_text quote
bind-parts side element other =
    joined5 (member_text (codes "name", quote (codes "bind"))) (member_text (codes "arrow", id_text element))
    (member_text (codes "end", side_text side))
    (member_text (codes "target", id_text other)) (member_text (codes "binding", object_text []))

pub label-parts : (element other : ℕ) → order_text (Label element other)
    ≡ codes "{\"name\":\"label\",\"container\":"
    ++ (id_text element ++ (codes ",\"text\":" ++ (id_text other ++ codes "}")))
unfolding order_text object_text quote
label-parts element other =
    joined3 (member_text (codes "name", quote (codes "label"))) (member_text (codes "container", id_text element))
    (member_text (codes "text", id_text other))

pub frame-parts : (element other : ℕ) → order_text (Frame element other)
    ≡ codes "{\"name\":\"frame\",\"ids\":["
    ++ (id_text element ++ (codes "],\"frame\":" ++ (id_text other ++ codes "}")))
unfolding order_text object_text array_text quote
frame-parts element other =
    joined3 (member_text (codes "name", quote (codes "frame")))
    (member_text (codes "ids", array_text (id_text element ∷ []))) (member_text (codes "frame", id_text other))
    ∙ ap (λ (rest : List ℕ). codes "{\"name\":\"frame\",\"ids\":[" ++ rest)
    (append_assoc (id_text element) (93 ∷ []) (codes ",\"frame\":" ++ (id_text other ++ codes "}")))

paired : (a b rest : List ℕ) → ((a ++ 44 ∷ b) ++ 93 ∷ []) ++ rest ≡ a ++ (44 ∷ (b ++ 93 ∷ rest))
paired a b rest = simp append_assoc

pub group-parts : (element other : ℕ) → order_text (Group element other)
    ≡ codes "{\"name\":\"group\",\"ids\":["
    ++ (id_text element ++ (codes "," ++ (id_text other ++ codes "],\"group\":\"g\"}")))
unfolding order_text object_text array_text quote
group-parts element other =
    joined3 (member_text (codes "name", quote (codes "group")))
    (member_text (codes "ids", array_text (id_text element ∷ id_text other ∷ [])))
    (member_text (codes "group", quote (codes "g")))
    ∙ ap (λ (rest : List ℕ). codes "{\"name\":\"group\",\"ids\":[" ++ rest)
    (paired (id_text element) (id_text other) (codes ",\"group\":\"g\"}"))

pub delete-parts : (element : ℕ) → order_text (Delete element) ≡ codes "{\"name\":\"delete\",\"ids\":["
    ++ (id_text element ++ codes "]}")
unfolding order_text object_text array_text quote
delete-parts element =
    joined2 (member_text (codes "name", quote (codes "delete")))
    (member_text (codes "ids", array_text (id_text element ∷ [])))
    ∙ ap (λ (rest : List ℕ). codes "{\"name\":\"delete\",\"ids\":[" ++ rest)
    (append_assoc (id_text element) (93 ∷ []) (125 ∷ []))
