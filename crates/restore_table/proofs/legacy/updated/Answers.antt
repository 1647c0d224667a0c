-- The old listing is missing, of another form, or a list of ids.
use Rattle.std.proofs.Common.{◌≡◌, ℕ, Vec, Global, All, List, [], ◌∷◌, ◌++◌, Option, Some, None, filter, bytes_eq, sym, subst, ap, refl, ◌∙◌}
use Rattle.std.specs.List.{IsDistinct}
use Rattle.std.specs.Option.{option_map}
use Rattle.std.proofs.lemmas.Result.{IfOk-weaker}
use Rattle.json_text.specs.Compact.{has_other_name}
use Rattle.json_text.specs.Members.{pairs}
use Rattle.json_text.specs.Parts.{names_of}
use Rattle.json_text.specs.Value.{IsCompact}
use Rattle.json_text.specs.declared.text.Member.{Member}
use Rattle.scene_json.specs.TheOne.{IsTheOne}
use Rattle.json_text.proofs.CallerLemmas.{Value-deeper}
use Rattle.scene_json.proofs.CallerLemmas.{names-pairs}
use Rattle.restore_table.specs.inner.Merged.{AreOldIds, AreUpdated}
use Rattle.restore_table.specs.Restored.{listing_name, old_name, listing_text}
use Rattle.restore_table.proofs.Listings.{updated-none, updated-wrong, updated-listing}
use Rattle.restore_table.proofs.Nesting.{nest-pairs, members-nest, filter-nests, push-nests}
use Rattle.restore_table.proofs.legacy.updated.Goals as goal
use Rattle.restore_table.proofs.legacy.updated.Goals.{After-without-others}

ids-none : (ids : Option (List (List ℕ))) → None ≡ option_map listing_text ids → ids ≡ None
ids-none None e = refl
ids-none (Some ids) e = cc

record AreIds (listing : List ℕ) (ids : Option (List (List ℕ))) : Type 0 where
  listed : List (List ℕ)
  ids_are : ids ≡ Some listed
  text : listing ≡ listing_text listed

ids-some : (listing : List ℕ) (ids : Option (List (List ℕ))) → Some listing ≡ option_map listing_text ids
    → AreIds listing ids
ids-some listing None e = cc
ids-some listing (Some ids) e = record { listed = ids; ids_are = refl; text = cc }

distinct : (c : After-without-others) → IsDistinct bytes_eq (names_of (pairs c.args.members))
distinct c = subst (IsDistinct bytes_eq) (sym (names-pairs c.args.members)) c.requires

others : (c : After-without-others) → pairs c.without-others.result.items
    ≡ filter (has_other_name old_name) (pairs c.args.members)
others c = c.without-others.ensures ∙ ap (λ ms. filter (has_other_name old_name) (pairs ms)) c.into_vec-2.ensures

pub returns-in_default-clause-updated : goal.returns-in_default-clause-updated
returns-in_default-clause-updated c =
    updated-none (pairs c.args.members) (pairs c.into_vec.result.items)
    (subst (IsDistinct bytes_eq) (sym (names-pairs c.args.members)) c.requires) (sym c.in_default.ensures)
    (ap pairs c.into_vec.ensures)

pub returns-in-None-clause-updated : goal.returns-in-None-clause-updated
returns-in-None-clause-updated c =
    let done = (goal.at.returns-in-None-clause-updated c).After-without-others in
    let found = c.in_ok-listing.ensures.listing in
    let none = ids-none found.0 (sym c.in-None.is ∙ found.2) in
    updated-wrong (pairs c.args.members) (pairs c.without-others.result.items) c.in-Some.old.now (distinct done)
    (sym c.in-Some.ensures)
    (subst (IsTheOne (AreOldIds c.in-Some.old.now)) none found.1) (others done)

pub returns-in-None-clause-nests : goal.returns-in-None-clause-nests
returns-in-None-clause-nests c = λ limit wide each.
    let done = (goal.at.returns-in-None-clause-nests c).After-without-others in
    members-nest limit c.without-others.result.items (filter (has_other_name old_name) (pairs c.args.members))
    (others done)
    (filter-nests limit old_name (pairs c.args.members) (nest-pairs limit c.args.members each))

pub returns-in-Some-listing-clause-updated : goal.returns-in-Some-listing-clause-updated
returns-in-Some-listing-clause-updated c =
    let done = (goal.at.returns-in-Some-listing-clause-updated c).After-without-others in
    let found = c.in_ok-listing.ensures.listing in
    let ids = ids-some c.in-Some-listing.listing found.0 (sym c.in-Some-listing.is ∙ found.2) in
    let Q : Vec Member Global → Type 0 = λ all. AreUpdated (pairs c.args.members) (pairs all.items) in
    IfOk-weaker _ _ Q (λ (all : Vec Member Global) made.
    updated-listing (pairs c.args.members) (pairs all.items) c.in-Some.old.now ids.listed (distinct done)
    (sym c.in-Some.ensures)
    (subst (IsTheOne (AreOldIds c.in-Some.old.now)) ids.ids_are found.1)
    (made ∙ (λ i. filter (has_other_name listing_name) (others done i) ++ (listing_name, ids.text i) ∷ [])))
    c.with_listing.ensures

pub returns-in-Some-listing-clause-nests : goal.returns-in-Some-listing-clause-nests
returns-in-Some-listing-clause-nests c = λ limit wide each.
    let done = (goal.at.returns-in-Some-listing-clause-nests c).After-without-others in
    let flat = rw c.in-Some-listing.is at c.in_ok-listing.ensures.nests in
    let first = filter (has_other_name old_name) (pairs c.args.members) in
    let Q : Vec Member Global → Type 0 = λ all. All (λ (m : Member). IsCompact limit m.value) all.items in
    IfOk-weaker _ _ Q (λ (all : Vec Member Global) made.
    members-nest limit all.items (filter (has_other_name listing_name) first
    ++ (listing_name, c.in-Some-listing.listing) ∷ [])
    (made ∙ ap (λ ms. filter (has_other_name listing_name) ms ++ (listing_name, c.in-Some-listing.listing) ∷ [])
    (others done))
    (push-nests limit (listing_name, c.in-Some-listing.listing) (filter (has_other_name listing_name) first)
    (filter-nests limit listing_name first
    (filter-nests limit old_name (pairs c.args.members) (nest-pairs limit c.args.members each)))
    (Value-deeper wide flat)))
    c.with_listing.ensures
