-- The bound by the pair of a block's highest score lies below no score of the block.
use mathlib.Core.Path.{◌≡◌, ap}
use mathlib.Core.Bool.{true, false, not}
use Prim.Native.Nat.{ℕ, ◌≤◌, ◌<◌}
use native.Mathlib.Omega.{arith}
use lib.Dec.{T}
use lib.Ieee.{Float, lt}
use Rattle.floats.specs.Step.{within}
use Rattle.bm25.specs.Bound.{max_tf}
use Rattle.bm25.specs.Limits.{average_ok, weight_ok}
use Rattle.bm25.specs.Score.{score_of}
use Rattle.bm25.proofs.Bounds.{score-within}
use Rattle.bm25_pair.specs.Pair.{freq_code, highest}
use Rattle.bm25_pair.proofs.Numbers.{still-not-below}
use Rattle.bm25_pair.proofs.Highest.{highest-in, highest-most}
use Rattle.bm25_pair.proofs.Covers.{bound-ok, pair-covers}

-- the score of posting i, by the norm code of its document and its frequency; the place of the highest of n; the bound by its pair
module _ (weight average : Float) (code freq : ℕ → ℕ) where
  abbrev pub score_by : ℕ → Float
  score_by i = score_of weight average (code i) (freq i)

  abbrev pub pair_bound : ℕ → Float
  pair_bound n = let m = highest score_by n in score_of weight average (code m) (max_tf (freq_code (freq m)))

module _ (weight average : Float) (code freq : ℕ → ℕ) (n : ℕ) (w-ok : T (weight_ok weight)) (a-ok : T (average_ok average))
    (codes : (i : ℕ) → i < n → code i < 256) (least : (i : ℕ) → i < n → 0 < freq i) (most : (i : ℕ) → i < n → freq i ≤ 2013265944) where
  abbrev score : ℕ → Float
  score = score_by weight average code freq

  abbrev bound : Float
  bound = pair_bound weight average code freq n

  numbers : (i : ℕ) → i < n → T (within 1000 (score i))
  numbers i l = score-within weight average (code i) (freq i) w-ok a-ok (codes i l) (let h = most i l in omega arith)

  -- a posting that does not lie below another has a pair whose bound does not either
  from-pair : (m i : ℕ) → m < n → lt (score m) (score i) ≡ false
      → lt (score_of weight average (code m) (max_tf (freq_code (freq m)))) (score i) ≡ false
  from-pair m i M = still-not-below 1000 (score m) (score_of weight average (code m) (max_tf (freq_code (freq m)))) (score i) (numbers m M)
      (bound-ok weight average (code m) (freq m) w-ok a-ok (codes m M) (least m M) (most m M))
      (pair-covers weight average (code m) (freq m) w-ok a-ok (codes m M) (least m M) (most m M))

  pub highest-not-below : (i : ℕ) → i < n → lt bound (score i) ≡ false
  highest-not-below i l =
      let m = highest score n in
      from-pair m i (highest-in score n (omega arith)) (highest-most 1000 score n i numbers l)

  pub highest-covers : (i : ℕ) → i < n → not (lt bound (score i)) ≡ true
  highest-covers i l = ap not (highest-not-below i l)
