-- Postings that rows 7 and 8 of the table let through.
use Rattle.std.specs.Prelude.{ℕ, ◌≤◌, ◌<◌}

-- n of them, with documents d below a limit and frequencies f
pub record Sound (d f : ℕ → ℕ) (n limit : ℕ) : Type 0 where
  pub few : limit ≤ 1048576
  pub rise : (i j : ℕ) → i < j → j < n → d i < d j
  pub below : (i : ℕ) → i < n → d i < limit
  pub some : (i : ℕ) → i < n → 0 < f i
  pub most : (i : ℕ) → i < n → f i ≤ 2013265944
