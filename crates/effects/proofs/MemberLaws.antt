-- What sets, frames and groups leave stored.
use Rattle.std.proofs.Common.{◌≡◌, ◌≢◌, ℕ, true, false, List, [], ◌∷◌, ◌++◌, Some, None, Ok, IsSomeAnd, bytes_eq, if◌then◌else◌, inl, inr, refl, sym, ap, ◌∙◌, subst}
use Rattle.std.proofs.lemmas.Bool.{cases_Bool, false≢true, or_right, or_left, cond-true, cond-false}
use Rattle.std.proofs.lemmas.List.Elements.{Contains-append_left}
use Rattle.std.proofs.lemmas.List.Folds.{list_any-append}
use Rattle.json_text.proofs.CallerLemmas.{bytes_eq-same, bytes_eq-apart, bytes_eq-true}
use Rattle.json_text.specs.declared.text.Member.{Member}
use Rattle.frac_keys.specs.Keys.{bytes_less}
use Rattle.frac_keys.specs.Rising.{are_rising}
use Rattle.frac_keys.proofs.CallerLemmas.{bytes_less_itself}
use Rattle.elem.specs.ElementValue.{ElementValue}
use Rattle.elem.specs.Order.{unstamped}
use Rattle.elem_store.specs.Updates.{ids_of, is_among}
use Rattle.elem_store.proofs.CallerLemmas.{Contains-head}
use Rattle.delta.specs.Headers.{value_named}
use Rattle.delta.specs.Rest.{made, without_first, with_value}
use Rattle.board_commands.specs.declared.command.Command.{Command}
use Rattle.board_commands.specs.declared.command.Command.TheVariants as commands
use Rattle.effects.specs.Changed.{outcome}
use Rattle.effects.specs.Effects.{effect, with_group, without_group}
use Rattle.effects.specs.Given.{stored_after, Stays, Becomes}
use Rattle.effects.specs.Settings.{given_value, with_set_member}
use Rattle.effects.proofs.NamedLaws.{named-after, own-id, among-Contains, chosen, passed, stays, becomes}

-- ---- values by their names
-- the member of the name has the value
value-set : (name value : List ℕ) (ms : List Member) → value_named name (with_value name (Some value) ms) ≡ Some value
value-set name value [] = cond-true (bytes_eq name name) (Some value) None (bytes_eq-same name)
value-set name value (m ∷ ms) =
    elim (bytes_less m.name name) as (λ b. bytes_less m.name name ≡ b
    → value_named name (if b then m ∷ with_value name (Some value) ms else made name (Some value)
    ++ without_first name (m ∷ ms)) ≡ Some value) [
      | true ↦ λ less.
          cond-false (bytes_eq name m.name) (Some m.value) (value_named name (with_value name (Some value) ms))
          (bytes_eq-apart name m.name (λ same. false≢true (sym (bytes_less_itself name)
          ∙ ap (λ n. bytes_less n name) same
          ∙ less)))
          ∙ value-set name value ms
      | false ↦ λ more. cond-true (bytes_eq name name) (Some value) (value_named name (without_first name (m ∷ ms)))
          (bytes_eq-same name)
    ] refl

-- and each other one stays
value-stays : (other name value : List ℕ) (ms : List Member) → other ≢ name
    → value_named other (with_value name (Some value) ms) ≡ value_named other ms
value-stays other name value [] apart =
    cond-false (bytes_eq other name) (Some value) None (bytes_eq-apart other name apart)
value-stays other name value (m ∷ ms) apart =
    elim (bytes_less m.name name) as (λ b. value_named other (if b then m
    ∷ with_value name (Some value) ms else made name (Some value) ++ without_first name (m ∷ ms))
    ≡ value_named other (m ∷ ms)) [
      | true ↦ ap (λ v. if bytes_eq other m.name then Some m.value else v) (value-stays other name value ms apart)
      | false ↦
          cond-false (bytes_eq other name) (Some value) (value_named other (without_first name (m ∷ ms)))
          (bytes_eq-apart other name apart)
          ∙ (elim (bytes_eq name m.name) as (λ b. bytes_eq name m.name ≡ b
          → value_named other (if b then ms else m ∷ ms) ≡ value_named other (m ∷ ms)) [
            | true ↦ λ same.
                sym (cond-false (bytes_eq other m.name) (Some m.value) (value_named other ms)
                (bytes_eq-apart other m.name (λ is. apart (is ∙ sym (bytes_eq-true name m.name same)))))
            | false ↦ λ differ. refl
          ] refl)
    ]

-- ---- groups
in-group : (group : List ℕ) (groups : List (List ℕ)) → is_among (with_group group groups) group ≡ true
in-group group groups = elim (cases_Bool (is_among groups group)) [
  | inl t ↦ ap (λ gs. is_among gs group) (cond-true (is_among groups group) groups (groups ++ group ∷ []) t) ∙ t
  | inr f ↦ ap (λ gs. is_among gs group) (cond-false (is_among groups group) groups (groups ++ group ∷ []) f)
      ∙ list_any-append (bytes_eq group) groups (group ∷ [])
      ∙ or_right (is_among groups group) (is_among (group ∷ []) group)
      (or_left (bytes_eq group group) false (bytes_eq-same group))
]

not-in-group : (group : List ℕ) (groups : List (List ℕ)) → is_among (without_group group groups) group ≡ false
not-in-group group [] = refl
not-in-group group (other ∷ groups) = elim (cases_Bool (bytes_eq group other)) [
  | inl t ↦ rw t (not-in-group group groups)
  | inr f ↦ rw (f, f) (not-in-group group groups)
]

module _ (stored shown : List ElementValue) (time nonce : ℕ) (given : List ElementValue)
    (ordered : are_rising (ids_of stored) ≡ true) where
  -- ---- a member that is set
  module _ (id member value : List ℕ) (told : outcome stored shown (commands.Set id member value) time nonce ≡ Ok given)
    where
      abbrev set : Command
      set = commands.Set id member value

      set-made : (old : ElementValue) → id ≡ old.id → effect stored shown set old ≡ with_set_member member value old
      set-made old own = cond-true (bytes_eq id old.id) (with_set_member member value old) old
          (subst (λ i. bytes_eq id i ≡ true) own (bytes_eq-same id))

      set-rest : (old e : ElementValue) → id ≡ old.id → unstamped e ≡ unstamped (effect stored shown set old)
          → e.rest ≡ with_value member (Some (given_value member value)) old.rest
      set-rest old e own same =
          ap (λ (d : ElementValue). d.rest) same ∙ ap (λ (d : ElementValue). d.rest) (set-made old own)

      pub set-given : IsSomeAnd (stored_after stored given id) (λ (e : ElementValue). value_named member e.rest
          ≡ Some (given_value member value))
      set-given = named-after stored shown set time nonce given told ordered
          (λ (e : ElementValue). value_named member e.rest ≡ Some (given_value member value)) id (Contains-head id [])
          (λ old found live e same.
          ap (value_named member) (set-rest old e (own-id stored id old found) same)
          ∙ value-set member (given_value member value) old.rest)

      pub set-others : (other : List ℕ) → other ≢ member
          → Becomes stored given id (λ (old e : ElementValue). value_named other e.rest ≡ value_named other old.rest)
      set-others other apart = becomes stored shown set time nonce given told ordered
          (λ (old e : ElementValue). value_named other e.rest ≡ value_named other old.rest) id (Contains-head id [])
          (λ old e found same.
          ap (value_named other) (set-rest old e (own-id stored id old found) same)
          ∙ value-stays other member (given_value member value) old.rest apart)

      pub set-headers : Becomes stored given id (λ (old e : ElementValue). unstamped e
          ≡ unstamped (record old { rest = e.rest }))
      set-headers = becomes stored shown set time nonce given told ordered (λ (old e : ElementValue). unstamped e
          ≡ unstamped (record old { rest = e.rest })) id (Contains-head id [])
          (λ old e found same.
          let own = own-id stored id old found in
          same ∙ ap unstamped (set-made old own)
          ∙ ap (λ (rest : List Member). unstamped (record old { rest = rest })) (sym (set-rest old e own same)))

      pub set-kept : (other : List ℕ) → other ≢ id → Stays stored given other
      set-kept other apart = stays stored shown set time nonce given told ordered refl other
          (λ old found.
          cond-false (bytes_eq id old.id) (with_set_member member value old) old
          (bytes_eq-apart id old.id (λ same. apart (own-id stored other old found ∙ sym same))))

  -- ---- frames
  module _ (ids : List (List ℕ)) (frame : List ℕ) (told : outcome stored shown (commands.Frame ids frame) time nonce
      ≡ Ok given) where
    pub frame-given : (id : List ℕ) → is_among ids id ≡ true
        → Becomes stored given id (λ (old e : ElementValue). unstamped e
        ≡ unstamped (record old { frame = Some frame }))
    frame-given id h = becomes stored shown (commands.Frame ids frame) time nonce given told ordered
        (λ (old e : ElementValue). unstamped e ≡ unstamped (record old { frame = Some frame })) id
        (Contains-append_left ids (frame ∷ []) id (among-Contains ids id h))
        (λ old e found same. same
        ∙ ap unstamped (chosen ids id old.id (record old { frame = Some frame }) old (own-id stored id old found)
        h))

    pub frame-kept : (id : List ℕ) → is_among ids id ≡ false → Stays stored given id
    frame-kept id h = stays stored shown (commands.Frame ids frame) time nonce given told ordered refl id
        (λ old found. passed ids id old.id (record old { frame = Some frame }) old (own-id stored id old found) h)

  module _ (ids : List (List ℕ)) (told : outcome stored shown (commands.Unframe ids) time nonce ≡ Ok given) where
    pub unframe-given : (id : List ℕ) → is_among ids id ≡ true
        → Becomes stored given id (λ (old e : ElementValue). unstamped e ≡ unstamped (record old { frame = None }))
    unframe-given id h = becomes stored shown (commands.Unframe ids) time nonce given told ordered
        (λ (old e : ElementValue). unstamped e ≡ unstamped (record old { frame = None })) id
        (among-Contains ids id h)
        (λ old e found same. same
        ∙ ap unstamped (chosen ids id old.id (record old { frame = None }) old (own-id stored id old found) h))

    pub unframe-kept : (id : List ℕ) → is_among ids id ≡ false → Stays stored given id
    unframe-kept id h = stays stored shown (commands.Unframe ids) time nonce given told ordered refl id
        (λ old found. passed ids id old.id (record old { frame = None }) old (own-id stored id old found) h)

  -- ---- groups
  module _ (ids : List (List ℕ)) (group : List ℕ) (told : outcome stored shown (commands.Group ids group) time nonce
      ≡ Ok given) where
    pub group-given : (id : List ℕ) → is_among ids id ≡ true
        → Becomes stored given id (λ (old e : ElementValue). unstamped e
        ≡ unstamped (record old { groups = with_group group old.groups }))
    group-given id h = becomes stored shown (commands.Group ids group) time nonce given told ordered
        (λ (old e : ElementValue). unstamped e ≡ unstamped (record old { groups = with_group group old.groups })) id
        (among-Contains ids id h)
        (λ old e found same. same
        ∙ ap unstamped (chosen ids id old.id (record old { groups = with_group group old.groups }) old
        (own-id stored id old found) h))

    pub group-there : (id : List ℕ) → is_among ids id ≡ true
        → IsSomeAnd (stored_after stored given id) (λ (e : ElementValue). is_among e.groups group ≡ true)
    group-there id h = named-after stored shown (commands.Group ids group) time nonce given told ordered
        (λ (e : ElementValue). is_among e.groups group ≡ true) id (among-Contains ids id h)
        (λ old found live e same.
        ap (λ (d : ElementValue). is_among d.groups group) (same
        ∙ ap unstamped (chosen ids id old.id (record old { groups = with_group group old.groups }) old
        (own-id stored id old found) h))
        ∙ in-group group old.groups)

    pub group-kept : (id : List ℕ) → is_among ids id ≡ false → Stays stored given id
    group-kept id h = stays stored shown (commands.Group ids group) time nonce given told ordered refl id
        (λ old found. passed ids id old.id (record old { groups = with_group group old.groups }) old
        (own-id stored id old found) h)

  module _ (ids : List (List ℕ)) (group : List ℕ) (told : outcome stored shown (commands.Ungroup ids group) time nonce
      ≡ Ok given) where
    pub ungroup-given : (id : List ℕ) → is_among ids id ≡ true
        → Becomes stored given id (λ (old e : ElementValue). unstamped e
        ≡ unstamped (record old { groups = without_group group old.groups }))
    ungroup-given id h = becomes stored shown (commands.Ungroup ids group) time nonce given told ordered
        (λ (old e : ElementValue). unstamped e ≡ unstamped (record old { groups = without_group group old.groups })) id
        (among-Contains ids id h)
        (λ old e found same. same
        ∙ ap unstamped (chosen ids id old.id (record old { groups = without_group group old.groups }) old
        (own-id stored id old found) h))

    pub ungroup-gone : (id : List ℕ) → is_among ids id ≡ true
        → IsSomeAnd (stored_after stored given id) (λ (e : ElementValue). is_among e.groups group ≡ false)
    ungroup-gone id h = named-after stored shown (commands.Ungroup ids group) time nonce given told ordered
        (λ (e : ElementValue). is_among e.groups group ≡ false) id (among-Contains ids id h)
        (λ old found live e same.
        ap (λ (d : ElementValue). is_among d.groups group) (same
        ∙ ap unstamped (chosen ids id old.id (record old { groups = without_group group old.groups }) old
        (own-id stored id old found) h))
        ∙ not-in-group group old.groups)

    pub ungroup-kept : (id : List ℕ) → is_among ids id ≡ false → Stays stored given id
    ungroup-kept id h = stays stored shown (commands.Ungroup ids group) time nonce given told ordered refl id
        (λ old found. passed ids id old.id (record old { groups = without_group group old.groups }) old
        (own-id stored id old found) h)
