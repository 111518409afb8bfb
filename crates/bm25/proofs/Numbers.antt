-- The limits on a weight and an average let no NaN through, so that their bits are those of one number.
use mathlib.Core.Path.{◌≡◌, sym, subst}
use mathlib.Core.Bool.{Bool, true, not, true≢false}
use Prim.Native.Nat.{ℕ}
use lib.Dec.{T}
use lib.Ieee.{Float, nan, inf, fin, binary32, is_nan, le, nan_bits, of_bits, round}
use lib.Ieee.Bits.{nan_bits_is}
use Rattle.floats.specs.Step.{within}
use Rattle.floats.proofs.Pattern.{within-not-nan}
use Rattle.bm25.specs.Limits.{average_ok, weight_ok}

holds : (b : Bool) → b ≡ true → T b
holds b e = subst (λ (z : Bool). T z) (sym e) tt

pub weight-number : (n : ℕ) → weight_ok (of_bits binary32 n) ≡ true → T (not (nan_bits binary32 n))
weight-number n e = rw (nan_bits_is binary32 n) (within-not-nan 1000 (of_bits binary32 n) (holds (within 1000 (of_bits binary32 n)) e))

average-not-nan : (y : Float) → average_ok y ≡ true → T (not (is_nan y))
unfolding average_ok le is_nan round
average-not-nan nan e = absurd (true≢false (sym e))
average-not-nan (inf t) e = tt
average-not-nan (fin t m k) e = tt

pub average-number : (n : ℕ) → average_ok (of_bits binary32 n) ≡ true → T (not (nan_bits binary32 n))
average-number n e = rw (nan_bits_is binary32 n) (average-not-nan (of_bits binary32 n) e)
