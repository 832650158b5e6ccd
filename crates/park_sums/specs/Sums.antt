-- Sums over a list and over sites, and a test of each value of a list.
-- Assumes nothing.
use Rattle.std.specs.Prelude.{ℕ, zero, suc, ◌+◌, ◌≤◌, Bool, true, ◌&&◌, List, [], ◌∷◌}

unfoldable pub sum_by {ℓ} : {A : Type ℓ} → (A → ℕ) → List A → ℕ
sum_by f [] = 0
sum_by f (x ∷ xs) = f x + sum_by f xs

-- every value passes the test
unfoldable pub all_of {ℓ} : {A : Type ℓ} → (A → Bool) → List A → Bool
all_of test [] = true
all_of test (x ∷ xs) = test x && all_of test xs

-- f added over sites 1 to n
unfoldable pub over_sites : (ℕ → ℕ) → ℕ → ℕ
over_sites f zero = 0
over_sites f (suc n) = over_sites f n + f (suc n)

-- what holds of each site from 1 to n
abbrev pub EachSite : (ℕ → Type 0) → ℕ → Type 0
EachSite P n = (k : ℕ) → 1 ≤ k → k ≤ n → P k
