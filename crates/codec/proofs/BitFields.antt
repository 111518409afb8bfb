-- Bit fields: joined, cut out of a larger field, and of whole bytes.
use mathlib.Core.Path.{◌≡◌, sym, ap, ◌∙◌}
use mathlib.Core.List.{List}
use Prim.Native.Nat.{ℕ, zero, suc, ◌+◌, ◌-◌, ◌*◌, ◌/◌, ◌%◌, ◌^◌, ◌<◌}
use native.Mathlib.Nat.{mul_assoc, add-mul, add_assoc, add-suc, add-zero, mul-one, mod-lt, pow-suc, zero-lt-suc}
use native.Mathlib.Omega.{arith}
use lib.ListN.{get_or}
use lib.Pow.{high, low}
use lib.Arith.{digits_lt}
use Rattle.codec.specs.Bits.{bit_at, bits_at}

module _ (s : List ℕ) where
  pub bits-join : (p a b : ℕ) → bits_at s p (a + b) ≡ bits_at s p a * 2 ^ b + bits_at s (p + a) b
  unfolding bits_at
  bits-join p a zero = rw (add-zero, mul-one) (omega arith)
  bits-join p a (suc b) =
      rw add-suc
      (ap (λ (x : ℕ). x * 2 + bit_at s (p + (a + b))) (bits-join p a b)
      ∙ ap (λ (x : ℕ). (bits_at s p a * 2 ^ b + bits_at s (p + a) b) * 2 + bit_at s x) (sym (add_assoc p a b))
      ∙ regroup (bits_at s p a) (2 ^ b) (bits_at s (p + a) b) (bit_at s (p + a + b))
      ∙ ap (λ (x : ℕ). bits_at s p a * x + (bits_at s (p + a) b * 2 + bit_at s (p + a + b))) (sym (pow-suc 2 b)))
    where
      regroup : (x u y z : ℕ) → (x * u + y) * 2 + z ≡ x * (u * 2) + (y * 2 + z)
      regroup x u y z = rw (add-mul, mul_assoc, add_assoc)

  pub bits-lt : (p w : ℕ) → bits_at s p w < 2 ^ w
  unfolding bits_at
  bits-lt p zero = zero-lt-suc 0
  bits-lt p (suc w) = rw pow-suc (digits_lt (bits-lt p w) (mod-lt (get_or s ((p + w) / 8) 0 / 2 ^ (7 - (p + w) % 8)) (zero-lt-suc 1)))

  -- w bits, a bits into a field and c bits before its end
  pub bits-cut : (p a w c : ℕ) → bits_at s (p + a) w ≡ bits_at s p (a + w + c) / 2 ^ c % 2 ^ w
  bits-cut p a w c =
      sym (ap (λ (x : ℕ). x / 2 ^ c % 2 ^ w) (bits-join p (a + w) c)
      ∙ ap (λ (x : ℕ). x % 2 ^ w) (high (bits_at s p (a + w)) c (bits-lt (p + (a + w)) c))
      ∙ ap (λ (x : ℕ). x % 2 ^ w) (bits-join p a w)
      ∙ low (bits_at s p a) w (bits-lt (p + a) w))

  bit-of : (k j : ℕ) → j < 8 → bit_at s (8 * k + j) ≡ get_or s k 0 / 2 ^ (7 - j) % 2
  bit-of k j h = ap (λ (x : ℕ). get_or s x 0 / 2 ^ (7 - (8 * k + j) % 8) % 2) (byte-no k j h) ∙ ap (λ (x : ℕ). get_or s k 0 / 2 ^ (7 - x) % 2) (in-byte k j h)
    where
      byte-no : (k j : ℕ) → j < 8 → (8 * k + j) / 8 ≡ k
      byte-no k j h = omega arith

      in-byte : (k j : ℕ) → j < 8 → (8 * k + j) % 8 ≡ j
      in-byte k j h = omega arith

  pub bits-byte : (k : ℕ) → get_or s k 0 < 256 → bits_at s (8 * k) 8 ≡ get_or s k 0
  unfolding bits_at
  bits-byte k h =
      rw (bit-of k 0 (omega arith), bit-of k 1 (omega arith), bit-of k 2 (omega arith), bit-of k 3 (omega arith), bit-of k 4 (omega arith), bit-of k 5 (omega arith), bit-of k 6 (omega arith), bit-of k 7 (omega arith))
      (all (get_or s k 0) h)
    where
      e7 : (b : ℕ) → b < 256 → 0 * 2 + b / 128 % 2 ≡ b / 128
      e7 b h = omega arith

      e6 : (b : ℕ) → b / 128 * 2 + b / 64 % 2 ≡ b / 64
      e6 b = omega arith

      e5 : (b : ℕ) → b / 64 * 2 + b / 32 % 2 ≡ b / 32
      e5 b = omega arith

      e4 : (b : ℕ) → b / 32 * 2 + b / 16 % 2 ≡ b / 16
      e4 b = omega arith

      e3 : (b : ℕ) → b / 16 * 2 + b / 8 % 2 ≡ b / 8
      e3 b = omega arith

      e2 : (b : ℕ) → b / 8 * 2 + b / 4 % 2 ≡ b / 4
      e2 b = omega arith

      e1 : (b : ℕ) → b / 4 * 2 + b / 2 % 2 ≡ b / 2
      e1 b = omega arith

      e0 : (b : ℕ) → b / 2 * 2 + b / 1 % 2 ≡ b
      e0 b = omega arith

      all : (b : ℕ) → b < 256 → (((((((0 * 2 + b / 128 % 2) * 2 + b / 64 % 2) * 2 + b / 32 % 2) * 2 + b / 16 % 2) * 2 + b / 8 % 2) * 2 + b / 4 % 2) * 2 + b / 2 % 2) * 2 + b / 1 % 2 ≡ b
      all b h = rw (e7 b h, e6 b, e5 b, e4 b, e3 b, e2 b, e1 b, e0 b)

  -- one more byte
  pub bits-more : (k n : ℕ) → get_or s (k + n) 0 < 256 → bits_at s (8 * k) (8 * n) * 256 + get_or s (k + n) 0 ≡ bits_at s (8 * k) (8 * (n + 1))
  bits-more k n h =
      ap (λ (x : ℕ). bits_at s (8 * k) (8 * n) * 256 + x) (sym (bits-byte (k + n) h))
      ∙ ap (λ (x : ℕ). bits_at s (8 * k) (8 * n) * 256 + bits_at s x 8) (places k n)
      ∙ sym (bits-join (8 * k) (8 * n) 8)
      ∙ ap (bits_at s (8 * k)) (sizes n)
    where
      places : (k n : ℕ) → 8 * (k + n) ≡ 8 * k + 8 * n
      places k n = omega arith

      sizes : (n : ℕ) → 8 * n + 8 ≡ 8 * (n + 1)
      sizes n = omega arith
