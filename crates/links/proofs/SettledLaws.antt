-- What holds of the elements after their texts and then their arrows are settled.
use Rattle.std.proofs.Common.{◌≡◌, List, map, bytes_eq, sym, ap, subst, ◌∙◌}
use Rattle.std.specs.List.{IsDistinct}
use Rattle.elem.specs.ElementValue.{ElementValue}
use Rattle.links.specs.Arrows.{with_settled_links, settled_arrows}
use Rattle.elem.specs.Order.{HaveDistinctIds}
use Rattle.links.specs.Names.{id_of}
use Rattle.links.specs.Settled.{unlinked, settled_links}
use Rattle.links.specs.Texts.{with_settled_container, settled_texts}
use Rattle.links.proofs.ArrowLaws.{settled_arrows-again, settled_texts-linked}
use Rattle.links.proofs.Members.{map-map}
use Rattle.links.proofs.TextLaws.{settled_texts-again}

pub unlinked-texts : (list : List ElementValue) → map unlinked (settled_texts list) ≡ map unlinked list
unlinked-texts list = map-map unlinked (with_settled_container list) list

pub unlinked-arrows : (list : List ElementValue) → map unlinked (settled_arrows list) ≡ map unlinked list
unlinked-arrows list = map-map unlinked (with_settled_links list) list

pub unlinked-links : (list : List ElementValue) → map unlinked (settled_links list) ≡ map unlinked list
unlinked-links list = unlinked-arrows (settled_texts list) ∙ unlinked-texts list

pub distinct-texts : (list : List ElementValue) → HaveDistinctIds list → HaveDistinctIds (settled_texts list)
distinct-texts list = subst (IsDistinct bytes_eq) (sym (map-map id_of (with_settled_container list) list))

pub distinct-arrows : (list : List ElementValue) → HaveDistinctIds list → HaveDistinctIds (settled_arrows list)
distinct-arrows list = subst (IsDistinct bytes_eq) (sym (map-map id_of (with_settled_links list) list))

pub texts-of_links : (list : List ElementValue) → HaveDistinctIds list
    → settled_texts (settled_links list) ≡ settled_links list
texts-of_links list distinct = settled_texts-linked (settled_texts list) (settled_texts-again list distinct)

pub links-again : (list : List ElementValue) → HaveDistinctIds list
    → settled_links (settled_links list) ≡ settled_links list
links-again list distinct = ap settled_arrows (texts-of_links list distinct) ∙ settled_arrows-again (settled_texts list)
