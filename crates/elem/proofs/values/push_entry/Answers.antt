-- The members are begun one after another, and their names rise.
use Rattle.std.proofs.Common.{◌≡◌, [], ◌∷◌, codes, length, rules, refl, sym, append-nil, arith}
use Rattle.json_text.specs.Characters.{quote}
use Rattle.elem.specs.Texts.{role_name}
use Rattle.elem.proofs.Merging.{begun-step, closed, sound-compact}
use Rattle.elem.proofs.values.push_entry.Goals as goal

pub returns-clause-text : goal.returns-clause-text
unfolding quote
returns-clause-text c =
    let out = c.args.out.now.items in
    let at : c.len-start.result ≡ length out = search rules in
    let id = begun-step out [] (codes "id") (quote c.args.entry.now.id) c.len-start.result out
    c.begin_quoted.new.out.items c.push_quote.new.out.items at (sym (append-nil out))
    c.in_ok-begin_quoted.ensures.text c.in_ok-push_quote.ensures.ok in
    let role = begun-step out ((codes "id", quote c.args.entry.now.id) ∷ []) (codes "type")
    (quote (role_name c.args.entry.now.role)) c.len-start.result c.push_quote.new.out.items
    c.begin_quoted-2.new.out.items c.push_role.new.out.items at id c.in_ok-begin_quoted-2.ensures.text
    c.in_ok-push_role.ensures.text in
    closed out ((codes "id", quote c.args.entry.now.id) ∷ (codes "type", quote (role_name c.args.entry.now.role)) ∷ [])
    c.push_role.new.out.items c.push.new.self.items (omega arith) role c.in_ok-push.ensures.items

pub returns-clause-nests : goal.returns-clause-nests
unfolding lib.Utf8.encode
returns-clause-nests c =
    sound-compact 0 ((codes "id", quote c.args.entry.now.id) ∷ (codes "type", quote (role_name c.args.entry.now.role))
    ∷ []) (
      ((codes "id", (refl, refl)), c.in_ok-push_quote.ensures.nests),
      (((codes "type", (refl, refl)), c.in_ok-push_role.ensures.nests), tt),
    )
    ((refl, tt), (tt, tt))
