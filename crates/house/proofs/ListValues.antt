-- The values of a list's blocks: how small they are, and that the widths in the house's bytes are the least.
use mathlib.Core.Path.{◌≡◌, sym, subst}
use mathlib.Core.Bool.{Bool, true}
use mathlib.Core.List.{List}
use Prim.Native.Nat.{ℕ, zero, suc, ◌+◌, ◌-◌, ◌*◌, ◌^◌, ◌≤◌, ◌<◌}
use native.Mathlib.Nat.{le_trans, lt_of_lt_of_le}
use native.Mathlib.Omega.{arith}
use lib.ListN.{length, get_or}
use lib.Pow.{pow_mono}
use Rattle.compression.proofs.Differences.{gap-small}
use Rattle.pieces.proofs.Standing.{long-bytes, each-byte}
use Rattle.packing.specs.Width.{least_width}
use Rattle.packing.specs.Inner.Fitting.{Fitting}
use Rattle.packing.proofs.Widths.{least-holds, least-least}
use Rattle.encode.specs.Differences.{floor_at, differ}
use Rattle.encode.specs.Inner.Fronted.{Rising}
use Rattle.notefile.specs.Lists.{is_first}
use Rattle.house.specs.House.{doc_before, doc_differ, doc_values, freq_values, doc_bits, freq_bits}
use Rattle.house.specs.Form.{Least}
use Rattle.house.specs.Inner.Sound.{Sound}

-- a list of 128 values v, and the least width w that holds them, at most u
pub record Held (vs : List ℕ) (v : ℕ → ℕ) (u w : ℕ) : Type 0 where
  pub same : (i : ℕ) → i < 128 → get_or vs i 0 ≡ v i
  pub narrow : w ≤ u
  pub fits : Fitting vs w
  pub least : Least w v

held : (vs : List ℕ) (v : ℕ → ℕ) (u : ℕ) → length vs ≡ 128 → u ≤ 32 → ((i : ℕ) → i < 128 → get_or vs i 0 ≡ v i)
    → ((i : ℕ) → i < 128 → v i < 2 ^ u) → Held vs v u (least_width vs)
held vs v u long top same small = record {
  same = same;
  narrow = narrow;
  fits = record { long = long; widths = le_trans narrow top; each = holds };
  least = record {
    holds = λ i l. subst (λ (y : ℕ). y < 2 ^ least_width vs) (same i l) (holds i l);
    least = λ w h. least-least vs w (each w h);
  };
}
  where
    each : (w : ℕ) → ((i : ℕ) → i < 128 → v i < 2 ^ w) → (i : ℕ) → i < 128 → get_or vs i 0 < 2 ^ w
    each w h i l = subst (λ (y : ℕ). y < 2 ^ w) (sym (same i l)) (h i l)

    holds : (i : ℕ) → i < 128 → get_or vs i 0 < 2 ^ least_width vs
    holds = least-holds vs (λ i l. lt_of_lt_of_le (each u small i l) (pow_mono {j = 32} top))

    narrow : least_width vs ≤ u
    narrow = least-least vs u (each u small)

module _ (d f : ℕ → ℕ) where
  docs-long : (b : ℕ) → length (doc_values d f b) ≡ 128
  unfolding doc_values
  docs-long b = long-bytes 128 (doc_differ d f true b)

  doc-value-is : (b i : ℕ) → i < 128 → get_or (doc_values d f b) i 0 ≡ doc_differ d f true b i
  unfolding doc_values
  doc-value-is b i h = each-byte 128 (doc_differ d f true b) i h

  freqs-long : (b : ℕ) → length (freq_values d f b) ≡ 128
  unfolding freq_values
  freqs-long b = long-bytes 128 (λ i. f (128 * b + i) - 1)

  freq-value-is : (b i : ℕ) → i < 128 → get_or (freq_values d f b) i 0 ≡ f (128 * b + i) - 1
  unfolding freq_values
  freq-value-is b i h = each-byte 128 (λ i. f (128 * b + i) - 1) i h

module _ {d f : ℕ → ℕ} {n limit : ℕ} (S : Sound d f n limit) where
  -- k documents from block b's start on, strict or not
  pub rising : (strict : Bool) (b k : ℕ) → 128 * b + k ≤ n → Rising (λ j. d (128 * b + j)) strict (is_first b) (doc_before d f b) k
  rising strict b k h = record {
    floors = floors b h;
    small = λ i l. omega (arith, gap-small strict, S.below (128 * b + i) (omega arith), S.few);
  }
    where
      floors : (b : ℕ) → 128 * b + k ≤ n → (i : ℕ) → i < k
          → floor_at (λ j. d (128 * b + j)) strict (is_first b) (doc_before d f b) i ≤ d (128 * b + i)
      floors zero h zero l = omega arith
      floors (suc b) h zero l = omega (arith, gap-small strict, S.rise (128 * b + 127) (128 * suc b + 0) (omega arith) (omega arith))
      floors b h (suc i) l = omega (arith, gap-small strict, S.rise (128 * b + i) (128 * b + suc i) (omega arith) (omega arith))

  -- a difference has 20 bits
  pub differ-small : (strict : Bool) (b i : ℕ) → 128 * b + i < n → doc_differ d f strict b i < 1048576
  unfolding doc_differ differ
  differ-small strict b i h =
      less (d (128 * b + i)) (floor_at (λ j. d (128 * b + j)) strict (is_first b) (doc_before d f b) i) limit
      (S.below (128 * b + i) h) S.few
    where
      less : (x y m : ℕ) → x < m → m ≤ 1048576 → x - y < 1048576
      less x y m h l = omega arith

  -- a full block
  module _ (b : ℕ) (full : 128 * b + 128 ≤ n) where
    pub docs-held : Held (doc_values d f b) (doc_differ d f true b) 20 (doc_bits d f b)
    unfolding doc_bits
    docs-held =
        held (doc_values d f b) (doc_differ d f true b) 20 (docs-long d f b) (omega arith) (doc-value-is d f b)
        (λ i h. differ-small true b i (omega arith))

    pub freqs-held : Held (freq_values d f b) (λ i. f (128 * b + i) - 1) 31 (freq_bits d f b)
    unfolding freq_bits
    freqs-held =
        held (freq_values d f b) (λ i. f (128 * b + i) - 1) 31 (freqs-long d f b) (omega arith) (freq-value-is d f b)
        (λ i h. omega (arith, S.most (128 * b + i) (omega arith)))
