-- The table of lengths rises strictly: one test over the whole table, which the checker computes, and one law that carries it to each pair of entries.
use mathlib.Core.Path.{ap}
use mathlib.Core.Logic.{inl, inr}
use mathlib.Core.Bool.{Bool, true, ◌&&◌}
use mathlib.Core.List.{List, [], ◌∷◌}
use Prim.Native.Nat.{ℕ, zero, suc, ◌<◌, ◌≤◌}
use native.Mathlib.Nat.{eq-or-lt_of_le, le_of_eq, le_of_lt, lt_trans, le_of_suc-le-suc, not-suc-le-zero}
use lib.Dec.{T, ltb, ltb→lt, lit<}
use lib.ListN.{length, get_or}
use lib.Ieee.Fits.{and_l, and_r}
use Rattle.fieldnorm.specs.Code.{field_norms_table, fieldnorm}

-- each entry of a ∷ xs is above the one before it
abbrev rises : ℕ → List ℕ → Bool
rises a [] = true
rises a (x ∷ xs) = ltb a x && rises x xs

module _ (a x : ℕ) (xs : List ℕ) (t : T (rises a (x ∷ xs))) where
  first : a < x
  first = ltb→lt a x (and_l (ltb a x) (rises x xs) t)

  rest : T (rises x xs)
  rest = and_r (ltb a x) (rises x xs) t

above : (a : ℕ) (xs : List ℕ) → T (rises a xs) → (k : ℕ) → k < length xs → a < get_or xs k 0
above a [] t k h = absurd (not-suc-le-zero h)
above a (x ∷ xs) t zero h = first a x xs t
above a (x ∷ xs) t (suc k) h = lt_trans (first a x xs t) (above x xs (rest a x xs t) k (le_of_suc-le-suc h))

rising : (a : ℕ) (xs : List ℕ) → T (rises a xs) → (i j : ℕ) → i < j → j < suc (length xs) → get_or (a ∷ xs) i 0 < get_or (a ∷ xs) j 0
rising a xs t i zero l h = absurd (not-suc-le-zero l)
rising a xs t zero (suc j) l h = above a xs t j (le_of_suc-le-suc h)
rising a [] t (suc i) (suc j) l h = absurd (not-suc-le-zero (le_of_suc-le-suc h))
rising a (x ∷ xs) t (suc i) (suc j) l h = rising x xs (rest a x xs t) i j (le_of_suc-le-suc l) (le_of_suc-le-suc h)

-- the test over a whole list
abbrev pub strictly : List ℕ → Bool
strictly [] = true
strictly (a ∷ xs) = rises a xs

strictly-at : (xs : List ℕ) → T (strictly xs) → (i j : ℕ) → i < j → j < length xs → get_or xs i 0 < get_or xs j 0
strictly-at [] t i j l h = absurd (not-suc-le-zero h)
strictly-at (a ∷ xs) t i j l h = rising a xs t i j l h

pub fieldnorm-rises : (i j : ℕ) → i < j → j < 256 → fieldnorm i < fieldnorm j
unfolding fieldnorm
fieldnorm-rises i j l h = strictly-at field_norms_table tt i j l h

-- no length is above the last
pub fieldnorm-top : (i : ℕ) → i < 256 → fieldnorm i ≤ 2013265944
unfolding fieldnorm
fieldnorm-top i h = elim (eq-or-lt_of_le (le_of_suc-le-suc h)) [ inl e ↦ le_of_eq (ap fieldnorm e) | inr l ↦ le_of_lt (fieldnorm-rises i 255 l (lit< tt)) ]
