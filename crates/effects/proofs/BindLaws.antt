-- What a new binding of an end of an arrow, or its loss, leaves stored; and what deletes and new keys leave.
use Rattle.std.proofs.Common.{◌≡◌, ◌≢◌, ℕ, Bool, true, false, not, ◌&&◌, List, [], ◌∷◌, ◌++◌, Option, Some, None, Ok, IsSomeAnd, bytes_eq, if◌then◌else◌, inl, inr, refl, sym, ap, ◌∙◌, subst}
use Rattle.std.proofs.lemmas.Bool.{cases_Bool, and_from, and_left, cond-true, cond-false}
use Rattle.std.proofs.lemmas.List.Elements.{filter-append}
use Rattle.std.proofs.lemmas.Option.{none-some, same_Some}
use Rattle.json_text.proofs.CallerLemmas.{bytes_eq-same, bytes_eq-apart}
use Rattle.json_text.specs.declared.text.Member.{Member}
use Rattle.frac_keys.specs.Rising.{are_rising}
use Rattle.elem.specs.Listings.{same_listing_entry, same_listing_entry-same}
use Rattle.elem.specs.declared.parts.Binding.{Binding}
use Rattle.elem.specs.declared.parts.BoundRef.{BoundRef}
use Rattle.elem.specs.ElementValue.{ElementValue}
use Rattle.elem.specs.Order.{unstamped}
use Rattle.elem_store.specs.Updates.{element_of, ids_of, is_among}
use Rattle.elem_store.proofs.CallerLemmas.{Contains-head}
use Rattle.links.specs.Entries.{arrow_entry, lists}
use Rattle.links.specs.Names.{is_id, is_arrow, target_of}
use Rattle.links.specs.Tables.{with_listing_entry}
use Rattle.view.specs.Shown.{is_live}
use Rattle.board_commands.specs.declared.command.Command.{Command}
use Rattle.board_commands.specs.declared.command.Command.TheVariants as commands
use Rattle.board_commands.specs.declared.command.Side.{Side}
use Rattle.board_commands.specs.declared.command.Side.TheVariants.{Start, End}
use Rattle.board_commands.specs.declared.command.Spot.{Spot}
use Rattle.effects.specs.Changed.{outcome, created, created_at}
use Rattle.effects.specs.Deleting.{without_names, has_gone_names}
use Rattle.effects.specs.Effects.{effect}
use Rattle.effects.specs.Given.{stored_after, Stays, Becomes}
use Rattle.effects.specs.Keeping.{unbound_rest, BindKeeps}
use Rattle.effects.specs.Linking.{end_at, opposite, with_end, with_end_of, listed, unlisted, without_listing_entry, bound_to, old_target}
use Rattle.effects.specs.Naming.{apart_from}
use Rattle.effects.specs.Placing.{with_view_key, key_at, key_in}
use Rattle.effects.specs.Refusals.{is_kind_of, spot_ids}
use Rattle.effects.proofs.CommandLaws.{end-either, end-given, end-unstamped, kind-at, right-kind}
use Rattle.effects.proofs.DeletingLaws.{deleted_from-none}
use Rattle.effects.proofs.KeepingLaws.{Self, with_end_of-keeps, listed-keeps}
use Rattle.effects.proofs.LabelLaws.{append-none, unlisting, unlisting-others, unlisting-lists, either-bound, is_id-apart, apart-still, apart-there}
use Rattle.effects.proofs.NamedLaws.{at-some, named-after, own-id, among-Contains, chosen, passed, stays, of-live, becomes, live-before}
use Rattle.effects.proofs.CreatedLaws.{distinct-one}
use Rattle.effects.proofs.OutcomeLaws.{none-misfit, created-given}

-- ---- listings and ends
-- a listing with an entry and then without it has the others
dropped-added : (entry : BoundRef) (entries : List BoundRef)
    → without_listing_entry entry (with_listing_entry entries entry) ≡ without_listing_entry entry entries
dropped-added entry entries = elim (cases_Bool (lists entries entry)) [
  | inl t ↦ ap (without_listing_entry entry) (cond-true (lists entries entry) entries (entries ++ entry ∷ []) t)
  | inr f ↦ ap (without_listing_entry entry) (cond-false (lists entries entry) entries (entries ++ entry ∷ []) f)
      ∙ filter-append (λ other. not (same_listing_entry entry other)) entries (entry ∷ [])
      ∙ ap (λ (es : List BoundRef). without_listing_entry entry entries ++ es)
      (cond-false (not (same_listing_entry entry entry)) (entry ∷ []) [] (ap not (same_listing_entry-same entry)))
      ∙ append-none (without_listing_entry entry entries)
]

either-unbound : (b : Bool) (e : ElementValue) (bound : List BoundRef)
    → unbound_rest (if b then record e { bound = bound } else e) ≡ unbound_rest e
either-unbound true e bound = refl
either-unbound false e bound = refl

ended-bound : (side : Side) (b : Bool) (e : ElementValue) (binding : Option Binding)
    → (if b then with_end side binding e else e).bound ≡ e.bound
ended-bound Start true e binding = refl
ended-bound End true e binding = refl
ended-bound side false e binding = refl

ended-rest : (side : Side) (b : Bool) (e : ElementValue) (binding : Option Binding)
    → unbound_rest (if b then with_end side binding e else e) ≡ unbound_rest e
ended-rest Start true e binding = refl
ended-rest End true e binding = refl
ended-rest side false e binding = refl

ended-opposite : (side : Side) (b : Bool) (e : ElementValue) (binding : Option Binding)
    → end_at (opposite side) (if b then with_end side binding e else e) ≡ end_at (opposite side) e
ended-opposite Start true e binding = refl
ended-opposite End true e binding = refl
ended-opposite side false e binding = refl

-- ---- an end of an element that gets a binding, or none
module _ (arrow : List ℕ) (side : Side) (binding : Option Binding) (old : Option (List ℕ)) (e : ElementValue) where
  abbrev entry : BoundRef
  entry = arrow_entry arrow

  abbrev is-it : Bool
  is-it = bytes_eq arrow e.id && is_arrow e.kind

  abbrev one : ElementValue
  one = with_end_of arrow side binding e

  abbrev two : ElementValue
  two = listed (target_of binding) entry one

  abbrev gone : Option (List ℕ)
  gone = apart_from (target_of binding) old

  -- the listing of an element of an id, which gets the entry if it is the target
  abbrev listing : List ℕ → List BoundRef → List BoundRef
  listing id bound = if is_id id (target_of binding) then with_listing_entry bound entry else bound

  one-id : one.id ≡ e.id
  one-id = ap (λ (s : Self). s.id) (with_end_of-keeps arrow side binding e)

  two-id : two.id ≡ e.id
  two-id = ap (λ (s : Self). s.id) (listed-keeps (target_of binding) entry one) ∙ one-id

  pub bound_to-bound : (bound_to arrow side binding old e).bound ≡ unlisting gone entry e.id (listing e.id e.bound)
  bound_to-bound =
      either-bound (is_id two.id gone) two (without_listing_entry entry two.bound)
      ∙ ap (λ (i : List ℕ). unlisting gone entry i two.bound) two-id
      ∙ ap (unlisting gone entry e.id)
      (either-bound (is_id one.id (target_of binding)) one (with_listing_entry one.bound entry)
      ∙ ap (λ (i : List ℕ). listing i one.bound) one-id
      ∙ ap (listing e.id) (ended-bound side is-it e binding))

  bound_to-end : (which : Side) → end_at which (bound_to arrow side binding old e) ≡ end_at which one
  bound_to-end which =
      end-either which (is_id two.id gone) two (without_listing_entry entry two.bound)
      ∙ end-either which (is_id one.id (target_of binding)) one (with_listing_entry one.bound entry)

  pub bound_to-rest : unbound_rest (bound_to arrow side binding old e) ≡ unbound_rest e
  bound_to-rest =
      either-unbound (is_id two.id gone) two (without_listing_entry entry two.bound)
      ∙ either-unbound (is_id one.id (target_of binding)) one (with_listing_entry one.bound entry)
      ∙ ended-rest side is-it e binding

  pub bound_to-opposite : end_at (opposite side) (bound_to arrow side binding old e) ≡ end_at (opposite side) e
  bound_to-opposite = bound_to-end (opposite side) ∙ ended-opposite side is-it e binding

  one-other : e.id ≢ arrow → one ≡ e
  one-other differ = cond-false is-it (with_end side binding e) e
      (and_left (bytes_eq arrow e.id) (is_arrow e.kind) (bytes_eq-apart arrow e.id (λ same. differ (sym same))))

  pub bound_to-unnamed : e.id ≢ arrow → end_at side (bound_to arrow side binding old e) ≡ end_at side e
  bound_to-unnamed differ = bound_to-end side ∙ ap (end_at side) (one-other differ)

  pub bound_to-named : arrow ≡ e.id → is_arrow e.kind ≡ true → end_at side (bound_to arrow side binding old e)
      ≡ binding
  bound_to-named own kind =
      bound_to-end side
      ∙ ap (end_at side) (cond-true is-it (with_end side binding e) e
      (and_from (bytes_eq arrow e.id) (is_arrow e.kind) (subst (λ (i : List ℕ). bytes_eq arrow i ≡ true) own
      (bytes_eq-same arrow)) kind))
      ∙ end-given side binding e

  pub bound_to-listing : target_of binding ≢ Some e.id → old ≢ Some e.id
      → (bound_to arrow side binding old e).bound ≡ e.bound
  bound_to-listing no-target no-old =
      bound_to-bound
      ∙ cond-false (is_id e.id gone) (without_listing_entry entry (listing e.id e.bound)) (listing e.id e.bound)
      (apart-still e.id (target_of binding) old no-old)
      ∙ cond-false (is_id e.id (target_of binding)) (with_listing_entry e.bound entry) e.bound
      (is_id-apart e.id (target_of binding) no-target)

  pub bound_to-others : without_listing_entry entry (bound_to arrow side binding old e).bound
      ≡ without_listing_entry entry e.bound
  bound_to-others =
      ap (without_listing_entry entry) bound_to-bound
      ∙ unlisting-others gone entry e.id (listing e.id e.bound)
      ∙ (elim (cases_Bool (is_id e.id (target_of binding))) [
        | inl t ↦ ap (without_listing_entry entry)
            (cond-true (is_id e.id (target_of binding)) (with_listing_entry e.bound entry) e.bound t)
            ∙ dropped-added entry e.bound
        | inr f ↦ ap (without_listing_entry entry)
            (cond-false (is_id e.id (target_of binding)) (with_listing_entry e.bound entry) e.bound f)
      ])

  pub bound_to-left : is_id e.id gone ≡ true → lists (bound_to arrow side binding old e).bound entry ≡ false
  bound_to-left there = ap (λ (es : List BoundRef). lists es entry) bound_to-bound
      ∙ unlisting-lists gone entry e.id (listing e.id e.bound) there

  -- what isn't concerned stays
  pub bound_to-other : e.id ≢ arrow → target_of binding ≢ Some e.id → old ≢ Some e.id
      → bound_to arrow side binding old e ≡ e
  bound_to-other no-arrow no-target no-old =
      ap (λ (d : ElementValue). unlisted gone entry (listed (target_of binding) entry d)) (one-other no-arrow)
      ∙ ap (unlisted gone entry) (cond-false (is_id e.id (target_of binding))
      (record e { bound = with_listing_entry e.bound entry }) e (is_id-apart e.id (target_of binding) no-target))
      ∙ cond-false (is_id e.id gone) (record e { bound = without_listing_entry entry e.bound }) e
      (apart-still e.id (target_of binding) old no-old)

-- ---- what is stored then, for whatever gives an end a binding, or takes it
module _ (stored shown : List ElementValue) (time nonce : ℕ) (given : List ElementValue)
    (ordered : are_rising (ids_of stored) ≡ true) where
  module _ (command : Command) (arrow : List ℕ) (side : Side) (binding : Option Binding)
      (told : outcome stored shown command time nonce ≡ Ok given) (nothing : created shown command time nonce ≡ [])
      (makes : (old : ElementValue) → effect stored shown command old
      ≡ bound_to arrow side binding (old_target stored arrow side) old) where
    abbrev was : Option (List ℕ)
    was = old_target stored arrow side

    -- what the end alone named doesn't list the arrow
    pub end-left : (id : List ℕ) (e : ElementValue) → is_id id (apart_from (target_of binding) was) ≡ true
        → stored_after stored given id ≡ Some e → is_live e ≡ true → lists e.bound (arrow_entry arrow) ≡ false
    end-left id e there is live =
        let from = live-before stored shown command time nonce given told ordered nothing id e is live in
        ap (λ (d : ElementValue). lists d.bound (arrow_entry arrow)) (from.2 ∙ ap unstamped (makes from.0))
        ∙ bound_to-left arrow side binding was from.0
        (subst (λ (i : List ℕ). is_id i (apart_from (target_of binding) was) ≡ true)
        (own-id stored id from.0 from.1) there)

    pub end-keeps : (id : List ℕ) (old : ElementValue) → element_of stored id ≡ Some old → is_live old ≡ true
        → IsSomeAnd (stored_after stored given id)
        (λ (e : ElementValue). BindKeeps stored arrow side (target_of binding) old e)
    end-keeps id old found live = of-live stored shown command time nonce given told ordered
        (λ (e : ElementValue). BindKeeps stored arrow side (target_of binding) old e) id old found live
        (λ e same.
        let made : unstamped e ≡ unstamped (bound_to arrow side binding was old) = same ∙ ap unstamped (makes old) in
        let at-end : (which : Side) → end_at which e ≡ end_at which (bound_to arrow side binding was old) =
        λ which. sym (end-unstamped which e) ∙ ap (end_at which) made
        ∙ end-unstamped which (bound_to arrow side binding was old) in
        record {
          rest = ap unbound_rest made ∙ bound_to-rest arrow side binding was old;
          ends = at-end (opposite side) ∙ bound_to-opposite arrow side binding was old;
          unnamed = λ no-arrow. at-end side ∙ bound_to-unnamed arrow side binding was old no-arrow;
          listing = λ no-target no-old. ap (λ (d : ElementValue). d.bound) made
              ∙ bound_to-listing arrow side binding was old no-target no-old;
          others = ap (λ (d : ElementValue). without_listing_entry (arrow_entry arrow) d.bound) made
              ∙ bound_to-others arrow side binding was old;
        })

    pub end-kept : (id : List ℕ) → id ≢ arrow → target_of binding ≢ Some id → was ≢ Some id → Stays stored given id
    end-kept id no-arrow no-target no-old = stays stored shown command time nonce given told ordered nothing id
        (λ old found.
        let own = own-id stored id old found in
        makes old
        ∙ bound_to-other arrow side binding was old (λ same. no-arrow (own ∙ same))
        (λ same. no-target (same ∙ ap Some (sym own))) (λ same. no-old (same ∙ ap Some (sym own))))

  -- a new binding
  module _ (arrow : List ℕ) (side : Side) (target : List ℕ) (rest : List Member)
      (told : outcome stored shown (commands.Bind arrow side target rest) time nonce ≡ Ok given) where
    abbrev new : Option Binding
    new = Some (record { target = target; rest = rest })

    pub bind-left : (id : List ℕ) (e : ElementValue) → old_target stored arrow side ≡ Some id → id ≢ target
        → stored_after stored given id ≡ Some e → is_live e ≡ true → lists e.bound (arrow_entry arrow) ≡ false
    bind-left id e was differ =
        end-left (commands.Bind arrow side target rest) arrow side new told refl (λ old. refl) id e
        (ap (λ (o : Option (List ℕ)). is_id id (apart_from (Some target) o)) was ∙ apart-there id target differ)

    pub bind-keeps : (id : List ℕ) (old : ElementValue) → element_of stored id ≡ Some old → is_live old ≡ true
        → IsSomeAnd (stored_after stored given id) (λ (e : ElementValue). BindKeeps stored arrow side (Some target)
        old
        e)
    bind-keeps = end-keeps (commands.Bind arrow side target rest) arrow side new told refl (λ old. refl)

    pub bind-kept : (id : List ℕ) → id ≢ arrow → id ≢ target → old_target stored arrow side ≢ Some id
        → Stays stored given id
    bind-kept id no-arrow no-target no-old =
        end-kept (commands.Bind arrow side target rest) arrow side new told refl (λ old. refl) id no-arrow
        (λ same. no-target (sym (same_Some target id same))) no-old

  -- a binding that goes
  module _ (arrow : List ℕ) (side : Side) (told : outcome stored shown (commands.Unbind arrow side) time nonce
      ≡ Ok given) where
    pub unbind-frees : IsSomeAnd (stored_after stored given arrow) (λ (e : ElementValue). end_at side e ≡ None)
    unbind-frees = named-after stored shown (commands.Unbind arrow side) time nonce given told ordered
        (λ (e : ElementValue). end_at side e ≡ None) arrow (Contains-head arrow [])
        (λ old found live e same.
        let kind = kind-at stored arrow old found
        (right-kind (is_kind_of stored is_arrow arrow) arrow
        (none-misfit stored shown (commands.Unbind arrow side) time nonce given told)) in
        let made = bound_to arrow side None (old_target stored arrow side) old in
        sym (end-unstamped side e) ∙ ap (end_at side) same ∙ end-unstamped side made
        ∙ bound_to-named arrow side None (old_target stored arrow side) old (own-id stored arrow old found) kind)

    pub unbind-left : (id : List ℕ) (e : ElementValue) → old_target stored arrow side ≡ Some id
        → stored_after stored given id ≡ Some e → is_live e ≡ true → lists e.bound (arrow_entry arrow) ≡ false
    unbind-left id e was =
        end-left (commands.Unbind arrow side) arrow side None told refl (λ old. refl) id e
        (ap (λ (o : Option (List ℕ)). is_id id (apart_from None o)) was ∙ bytes_eq-same id)

    pub unbind-keeps : (id : List ℕ) (old : ElementValue) → element_of stored id ≡ Some old → is_live old ≡ true
        → IsSomeAnd (stored_after stored given id) (λ (e : ElementValue). BindKeeps stored arrow side None old e)
    unbind-keeps = end-keeps (commands.Unbind arrow side) arrow side None told refl (λ old. refl)

    pub unbind-kept : (id : List ℕ) → id ≢ arrow → old_target stored arrow side ≢ Some id → Stays stored given id
    unbind-kept id no-arrow no-old =
        end-kept (commands.Unbind arrow side) arrow side None told refl (λ old. refl) id no-arrow
        (λ same. none-some id same) no-old

  -- ---- deletes
  module _ (ids : List (List ℕ)) (told : outcome stored shown (commands.Delete ids) time nonce ≡ Ok given) where
    pub delete-given : (id : List ℕ) → is_among ids id ≡ true
        → Becomes stored given id (λ (old e : ElementValue). unstamped e ≡ unstamped (record old { deleted = true }))
    delete-given id h = becomes stored shown (commands.Delete ids) time nonce given told ordered
        (λ (old e : ElementValue). unstamped e ≡ unstamped (record old { deleted = true })) id
        (among-Contains ids id h)
        (λ old e found same. same
        ∙ ap unstamped (chosen ids id old.id (record old { deleted = true }) (without_names (is_among ids) old)
        (own-id stored id old found) h))

    pub delete-rest : (id : List ℕ) (old : ElementValue) → element_of stored id ≡ Some old → is_live old ≡ true
        → is_among ids id ≡ false
        → IsSomeAnd (stored_after stored given id) (λ (e : ElementValue). unstamped e
        ≡ unstamped (without_names (is_among ids) old))
    delete-rest id old found live h = of-live stored shown (commands.Delete ids) time nonce given told ordered
        (λ (e : ElementValue). unstamped e ≡ unstamped (without_names (is_among ids) old)) id old found live
        (λ e same. same
        ∙ ap unstamped (passed ids id old.id (record old { deleted = true }) (without_names (is_among ids) old)
        (own-id stored id old found) h))

    pub delete-kept : (id : List ℕ) (old : ElementValue) → element_of stored id ≡ Some old → is_among ids id ≡ false
        → has_gone_names (is_among ids) old ≡ false → Stays stored given id
    delete-kept id old found h none = stays stored shown (commands.Delete ids) time nonce given told ordered refl id
        (λ other is.
        let same = same_Some old other (sym found ∙ is) in
        sym (deleted_from-none (is_among ids) other
        (subst (λ (i : List ℕ). is_among ids i ≡ false) (own-id stored id other is) h)
        (ap (has_gone_names (is_among ids)) (sym same) ∙ none)))

  -- ---- new keys
  -- a new element is as asked, but for its key; and else keys settle
  pub create-given : (element : ElementValue) (spot : Spot)
      → outcome stored shown (commands.Create element spot) time nonce ≡ Ok given
      → IsSomeAnd (element_of given element.id) (λ (e : ElementValue). unstamped e
      ≡ unstamped (record element { deleted = false; index = e.index }))
  create-given element spot told =
      let new = created_at shown element spot time nonce in
      at-some (λ (e : ElementValue). unstamped e ≡ unstamped (record element { deleted = false; index = e.index }))
      (element_of given element.id) new
      (created-given stored shown (commands.Create element spot) time nonce given told ordered (distinct-one new) new
      (Contains-head new [])) refl

  pub create-rest : (element : ElementValue) (spot : Spot)
      → outcome stored shown (commands.Create element spot) time nonce ≡ Ok given
      → (id : List ℕ) (old : ElementValue) → element_of stored id ≡ Some old → is_live old ≡ true
      → IsSomeAnd (stored_after stored given id) (λ (e : ElementValue). unstamped e
      ≡ unstamped (with_view_key shown old))
  create-rest element spot told id old found live =
      of-live stored shown (commands.Create element spot) time nonce given told ordered
      (λ (e : ElementValue). unstamped e ≡ unstamped (with_view_key shown old)) id old found live (λ e same. same)

  module _ (id : List ℕ) (spot : Spot) (told : outcome stored shown (commands.Place id spot) time nonce ≡ Ok given)
    where
      abbrev place-key : Option (List ℕ)
      place-key = key_at shown spot (Some id) (key_in shown id)

      pub place-given : Becomes stored given id (λ (old e : ElementValue). unstamped e
          ≡ unstamped (record old { index = e.index }))
      place-given = becomes stored shown (commands.Place id spot) time nonce given told ordered
          (λ (old e : ElementValue). unstamped e ≡ unstamped (record old { index = e.index })) id
          (Contains-head id (spot_ids spot))
          (λ old e found same.
          let made : unstamped e ≡ unstamped (record old { index = place-key }) =
          same
          ∙ ap unstamped (cond-true (bytes_eq id old.id) (record (with_view_key shown old) { index = place-key })
          (with_view_key shown old) (subst (λ (i : List ℕ). bytes_eq id i ≡ true) (own-id stored id old found)
          (bytes_eq-same id))) in
          made ∙ ap (λ (key : Option (List ℕ)). unstamped (record old { index = key }))
          (sym (ap (λ (d : ElementValue). d.index) made)))

      pub place-rest : (other : List ℕ) (old : ElementValue) → element_of stored other ≡ Some old
          → is_live old ≡ true
          → other ≢ id
          → IsSomeAnd (stored_after stored given other) (λ (e : ElementValue). unstamped e
          ≡ unstamped (with_view_key shown old))
      place-rest other old found live differ =
          of-live stored shown (commands.Place id spot) time nonce given told ordered
          (λ (e : ElementValue). unstamped e ≡ unstamped (with_view_key shown old)) other old found live
          (λ e same.
          same
          ∙ ap unstamped (cond-false (bytes_eq id old.id) (record (with_view_key shown old) { index = place-key })
          (with_view_key shown old)
          (bytes_eq-apart id old.id (λ is. differ (own-id stored other old found ∙ sym is)))))
