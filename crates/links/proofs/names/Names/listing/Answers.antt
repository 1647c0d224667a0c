use Rattle.std.proofs.Common.{◌≡◌, sym, ap, ◌∙◌}
use Rattle.std.specs.Option.{option_copied}
use Rattle.links.specs.Arrows.{text_entries, listing}
use Rattle.links.specs.inner.Tables.{with_entries}
use Rattle.links.specs.Texts.{text_of}
use Rattle.links.specs.declared.listing.Listing.{Listing}
use Rattle.links.proofs.Tabled.{listing-made}
use Rattle.links.proofs.names.Names.listing.Goals as goal
use Rattle.links.proofs.names.Names.listing.Goals.{in-Some+in_ok-add, in_default}

pub returns : goal.returns
returns c =
    let made : with_entries c.add_arrows.new.listing.entries.items (text_entries (text_of c.args.self.now c.args.e.now))
    ≡ listing c.args.self.now c.args.e.now =
    listing-made c.args.self.now c.args.e.now c.add_own.new.listing.entries.items c.add_arrows.new.listing.entries.items
    c.in_ok-add_own.ensures.entries c.in_ok-add_arrows.ensures.entries in
    elim c.match-text.branch [
      | in-Some+in_ok-add w ↦
          c.from_vec.ensures ∙ ap (λ (l : Listing). l.entries.items) w.listing-is ∙ w.in_ok-add.ensures.entries
          ∙ ap (λ text. with_entries c.add_arrows.new.listing.entries.items (text_entries text))
          (sym (ap option_copied w.in-Some.is) ∙ c.text_of-text.ensures) ∙ made
      | in_default w ↦
          c.from_vec.ensures ∙ ap (λ (l : Listing). l.entries.items) w.listing-is
          ∙ ap (λ text. with_entries c.add_arrows.new.listing.entries.items (text_entries text))
          (sym (ap option_copied w.in_default.is) ∙ c.text_of-text.ensures) ∙ made
    ]
