-- The lesser of two texts.
use Rattle.std.proofs.Common.{◌≡◌, ℕ, Bool, true, false, cond, List, Option, Some, None, refl, sym, ◌∙◌}
use Rattle.std.specs.Cmp.{IsStrictWeakOrder}
use Rattle.std.specs.Cmp.Lexicographic.{nat_list_cmp_total}
use Rattle.std.proofs.lemmas.Bool.{both_ways, cond-true, cond-false, true_from_ne_false}
use Rattle.std.proofs.lemmas.List.MinMax.{ranks_by}
use Rattle.frac_keys.specs.Keys.{bytes_less}
use Rattle.file_table.specs.Table.{lesser, lesser_of}

pub less_order : IsStrictWeakOrder bytes_less
less_order = ranks_by nat_list_cmp_total (λ (e : List ℕ). e)

lesser-assoc : (e x y : List ℕ) → lesser e (lesser x y) ≡ lesser (lesser e x) y
lesser-assoc e x y = go (bytes_less y x) (bytes_less x e) refl refl
  where
    go : (b c : Bool) → bytes_less y x ≡ b → bytes_less x e ≡ c → lesser e (cond b y x) ≡ lesser (cond c x e) y
    go true true h k =
        let below : bytes_less y e ≡ true = true_from_ne_false (bytes_less y e) (λ n.
        both_ways (bytes_less y x) (less_order.chain y e x n (less_order.one_way x e k)) h) in
        cond-true (bytes_less y e) y e below ∙ sym (cond-true (bytes_less y x) y x h)
    go true false h k = refl
    go false true h k = cond-true (bytes_less x e) x e k ∙ sym (cond-false (bytes_less y x) y x h)
    go false false h k =
        cond-false (bytes_less x e) x e k ∙ sym (cond-false (bytes_less y e) y e (less_order.chain y x e h k))

-- the entry of the one list, or a lesser one of the other
abbrev pub lesser_either : Option (List ℕ) → Option (List ℕ) → Option (List ℕ)
lesser_either None o = o
lesser_either (Some e) o = Some (lesser_of e o)

pub lesser_of-either : (e : List ℕ) (o p : Option (List ℕ))
    → lesser_of e (lesser_either o p) ≡ lesser_of (lesser_of e o) p
lesser_of-either e None p = refl
lesser_of-either e (Some x) None = refl
lesser_of-either e (Some x) (Some y) = lesser-assoc e x y

pub lesser_either-none : (o : Option (List ℕ)) → lesser_either o None ≡ o
lesser_either-none None = refl
lesser_either-none (Some e) = refl
