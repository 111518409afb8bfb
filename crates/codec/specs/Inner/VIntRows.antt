-- What reading a row of VInts leaves.
use Rattle.std.specs.Prelude.{◌≡◌, List, Bool, true, false, ◌⊎◌, ℕ, suc, ◌≤◌, ◌<◌, length, get_or, Option, Some, None}
use Rattle.arrays.specs.Every.{every}
use Rattle.codec.specs.VInts.{vint_place, vint_value, vint_whole}

-- a row of whole VInts ends at a place
abbrev pub end_or : Bool → ℕ → Option ℕ
end_or true p = Some p
end_or false p = None

-- what reading n of them into a block leaves: the values up to the first broken one, and the other places as they were
pub record VIntsRead (s : List ℕ) (e p n : ℕ) (before : List ℕ) (r : Option ℕ) (out : List ℕ) : Type 0 where
  pub same : r ≡ end_or (every n (vint_whole s e p)) (vint_place s e p n)
  pub long : length out ≡ 128
  pub values : (i : ℕ) → i < n → every (suc i) (vint_whole s e p) ≡ true → get_or out i 0 ≡ vint_value s e p i
  pub kept : (i : ℕ) → (n ≤ i) ⊎ (every (suc i) (vint_whole s e p) ≡ false) → get_or out i 0 ≡ get_or before i 0
