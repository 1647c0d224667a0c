-- The parts of a message's text, appended one after the other.
use Rattle.std.proofs.Common.{◌≡◌, ℕ, List, [], ◌∷◌, ◌++◌, codes, map, sym, ap, ◌∙◌, append_assoc}
use Rattle.std.specs.List.{join_with_byte}
use Rattle.json_text.specs.Characters.{quote}
use Rattle.json_text.specs.Compact.{array_text, object_text}
use Rattle.elem.specs.ElementValue.{ElementValue}
use Rattle.elem.specs.Texts.{element_text}
use Rattle.room_msg.specs.Texts.{tagged_members}

abbrev start : List ℕ
start = codes "{\"type\":"

abbrev middle : List ℕ
middle = codes ",\"payload\":{\"elements\":["

abbrev brace : List ℕ
brace = 125 ∷ []

abbrev bracket : List ℕ
bracket = 93 ∷ []

whole : (tag texts : List ℕ) → start ++ (tag ++ (middle ++ (texts ++ (bracket ++ (brace ++ brace))))) ≡ start
    ++ ((tag ++ (middle ++ ((texts ++ bracket) ++ brace))) ++ brace)
whole tag texts =
    ap (λ x. start ++ x)
    (sym (append_assoc tag (middle ++ ((texts ++ bracket) ++ brace)) brace
    ∙ ap (λ x. tag ++ (middle ++ x)) (append_assoc (texts ++ bracket) brace brace
    ∙ append_assoc texts bracket (brace ++ brace))))

pub tagged-written : (tag : List ℕ) (elements : List ElementValue) (empty begun tagged opened filled closed : List ℕ)
    → empty ≡ [] → begun ≡ empty ++ start → tagged ≡ begun ++ quote tag → opened ≡ tagged ++ middle →
    filled ≡ opened ++ join_with_byte 44 (map element_text elements) → closed ≡ filled ++ (bracket ++ (brace ++ brace))
    → closed ≡ object_text (tagged_members tag elements)
unfolding object_text array_text quote
tagged-written tag elements empty begun tagged opened filled closed none one two three four five =
    let texts = join_with_byte 44 (map element_text elements) in
    let tail = bracket ++ (brace ++ brace) in
    five
    ∙ ap (λ x. x ++ tail) (four ∙ ap (λ x. x ++ texts) (three
    ∙ ap (λ x. x ++ middle) (two ∙ ap (λ x. x ++ quote tag) (one ∙ ap (λ x. x ++ start) none))))
    ∙ ap (λ x. start ++ x) (append_assoc (quote tag ++ middle) texts tail
    ∙ append_assoc (quote tag) middle (texts ++ tail))
    ∙ whole (quote tag) texts
