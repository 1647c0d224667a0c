use Rattle.std.proofs.Common.{◌≡◌, ℕ, ◌≤◌, Option, Some, None, IfSome, refl, arith}

-- What is safe doesn't fall, said of the numbers alone.
abbrev pub KeepsSafe : Option ℕ → Option ℕ → Type 0
KeepsSafe before after = IfSome before (λ least. (safe : ℕ) × (after ≡ Some safe) × (least ≤ safe))

-- It doesn't where nothing happens.
pub KeepsSafe-same : (safe : Option ℕ) → KeepsSafe safe safe
KeepsSafe-same None = tt
KeepsSafe-same (Some least) = (least, refl, omega arith)

-- Nor over two calls, over neither of which it does.
pub KeepsSafe-more : (first middle last : Option ℕ) → KeepsSafe first middle → KeepsSafe middle last
    → KeepsSafe first last
KeepsSafe-more None middle last kept more = tt
KeepsSafe-more (Some least) middle last (safe, is, within) more =
    let next = rw is at more in
    (next.0, next.1, omega (arith, within, next.2))
