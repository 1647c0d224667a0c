-- The parts of a room's texts, appended one after the other.
use Rattle.std.proofs.Common.{◌≡◌, ℕ, List, [], ◌∷◌, ◌++◌, codes, map, sym, ap, ◌∙◌, append_assoc}
use Rattle.std.specs.List.{join_with_byte}
use Rattle.json_text.specs.Characters.{quote}
use Rattle.json_text.specs.Compact.{array_text, object_text}
use Rattle.elem.specs.ElementValue.{ElementValue}
use Rattle.elem.specs.Texts.{element_text}
use Rattle.room_msg.specs.Faults.{message_fault_words}
use Rattle.room_msg.specs.Texts.{message_text}
use Rattle.room_msg.specs.declared.fault.MsgFault.{MsgFault}
use Rattle.room_msg.specs.declared.message.Message.TheVariants.{Init}
use Rattle.room_core.specs.Rooms.{invalid_text}

abbrev init_front : List ℕ
init_front = codes "{\"type\":\"SCENE_INIT\",\"payload\":{\"elements\":["

abbrev brace : List ℕ
brace = 125 ∷ []

abbrev bracket : List ℕ
bracket = 93 ∷ []

closed_twice : (texts : List ℕ) → texts ++ (bracket ++ (brace ++ brace)) ≡ ((texts ++ bracket) ++ brace) ++ brace
closed_twice texts = sym (append_assoc (texts ++ bracket) brace brace ∙ append_assoc texts bracket (brace ++ brace))

pub init-written : (elements : List ElementValue) (empty opened filled closed : List ℕ) → empty ≡ []
    → opened ≡ empty ++ init_front
    → filled ≡ opened ++ join_with_byte 44 (map element_text elements)
    → closed ≡ filled ++ (bracket ++ (brace ++ brace)) → closed ≡ message_text (Init elements)
unfolding message_text object_text array_text quote
init-written elements empty opened filled closed none one two three =
    let texts = join_with_byte 44 (map element_text elements) in
    three ∙ ap (λ x. x ++ (bracket ++ (brace ++ brace))) (two
    ∙ ap (λ x. x ++ texts) (one ∙ ap (λ x. x ++ init_front) none))
    ∙ append_assoc init_front texts (bracket ++ (brace ++ brace))
    ∙ ap (λ x. init_front ++ x) (closed_twice texts)

abbrev invalid_front : List ℕ
invalid_front = codes "{\"type\":\"INVALID_RESPONSE\",\"payload\":{\"fault\":"

pub invalid-written : (fault : MsgFault) (empty opened filled closed : List ℕ) → empty ≡ []
    → opened ≡ empty ++ invalid_front
    → filled ≡ opened ++ quote (message_fault_words fault) → closed ≡ filled ++ (brace ++ brace)
    → closed ≡ invalid_text fault
unfolding object_text quote
invalid-written fault empty opened filled closed none one two three =
    let words = quote (message_fault_words fault) in
    three ∙ ap (λ x. x ++ (brace ++ brace)) (two ∙ ap (λ x. x ++ words) (one ∙ ap (λ x. x ++ invalid_front) none))
    ∙ append_assoc invalid_front words (brace ++ brace)
    ∙ ap (λ x. invalid_front ++ x) (sym (append_assoc words brace brace))
