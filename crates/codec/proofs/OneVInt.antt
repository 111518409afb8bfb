-- A VInt read from its low end: what was read so far, and what follows it.
use mathlib.Core.Path.{◌≡◌, refl, sym, ap, ◌∙◌, subst}
use mathlib.Core.List.{List}
use Prim.Native.Nat.{ℕ, zero, suc, ◌+◌, ◌-◌, ◌*◌, ◌/◌, ◌%◌, ◌^◌, ◌≤◌, ◌<◌}
use native.Mathlib.Nat.{mul_comm, add_comm, lt_of_lt_of_le, mul_assoc, mul-add, add_assoc}
use native.Mathlib.Omega.{arith}
use lib.Pow.{pow-add, pow_mono, shl_exact}
use lib.Arith.{digits_lt}
use lib.ListN.{get_or}
use borrow.Author.Tests.{lt-ltb, le-ltb}
use Rattle.codec.specs.VInt.{more, vint_from, capped, vint_at}
use Rattle.std.proofs.Common.{Option, Some, None}

-- v in the low k bits, and what follows
abbrev shifted : ℕ → ℕ → Option (ℕ × ℕ) → Option (ℕ × ℕ)
shifted v k (Some (x, next)) = Some (v + 2 ^ k * x, next)
shifted v k None = None

shifted-zero : (r : Option (ℕ × ℕ)) → r ≡ shifted 0 0 r
shifted-zero (Some (x, next)) = ap (λ (y : ℕ). Some (y, next)) (omega arith)
shifted-zero None = refl

spread : (v u b x : ℕ) → v + u * (b + 128 * x) ≡ v + b * u + u * 128 * x
spread v u b x = rw (mul-add, ← mul_assoc, mul_comm u b, add_assoc)

shifted-more : (v k b : ℕ) (r : Option (ℕ × ℕ)) → shifted v k (more b r) ≡ shifted (v + b * 2 ^ k) (k + 7) r
shifted-more v k b (Some (x, next)) = ap (λ (y : ℕ). Some (y, next)) (spread v (2 ^ k) b x ∙ ap (λ (z : ℕ). v + b * 2 ^ k + z * x) (sym (pow-add 2 k 7)))
shifted-more v k b None = refl

module _ (s : List ℕ) (e p n : ℕ) where
  pub from_end : e ≤ p → vint_from n s e p ≡ None
  unfolding vint_from
  from_end h = go n
    where
      go : (m : ℕ) → vint_from m s e p ≡ None
      go zero = refl
      go (suc m) = simp (le-ltb p e h)

  module _ (h : p < e) where
    pub from_last : 128 ≤ get_or s p 0 → vint_from (suc n) s e p ≡ Some (get_or s p 0 - 128, p + 1)
    unfolding vint_from
    from_last k = simp (lt-ltb p e h, le-ltb (get_or s p 0) 128 k)

    pub from_more : get_or s p 0 < 128 → vint_from (suc n) s e p ≡ more (get_or s p 0) (vint_from n s e (p + 1))
    unfolding vint_from
    from_more k = simp (lt-ltb p e h, lt-ltb (get_or s p 0) 128 k)

-- what a reader knows after shift / 7 bytes: v is their number, and the rest is at p
pub record Reading (s : List ℕ) (e at v shift p : ℕ) : Type 0 where
  pub top : shift ≤ 35
  pub sevens : shift % 7 ≡ 0
  pub small : v < 2 ^ shift
  pub same : vint_at s e at ≡ capped (shifted v shift (vint_from ((35 - shift) / 7) s e p))

pub begun : (s : List ℕ) (e at : ℕ) → Reading s e at 0 0 at
unfolding vint_at
begun s e at = record { top = omega arith; sevens = refl; small = omega arith; same = ap capped (shifted-zero (vint_from 5 s e at)) }

fuel : (shift : ℕ) → shift < 35 → shift % 7 ≡ 0 → (35 - shift) / 7 ≡ suc ((35 - (shift + 7)) / 7)
fuel shift h k = omega arith

-- a byte, or its low seven bits, above the bits read so far
exact : (b shift : ℕ) → b < 256 → shift ≤ 35 → b * 2 ^ shift % 18446744073709551616 ≡ b * 2 ^ shift
exact b shift h k = shl_exact 8 shift 64 h (omega arith)

grown : (b v shift : ℕ) → b < 128 → v < 2 ^ shift → v + b * 2 ^ shift < 2 ^ (shift + 7)
grown b v shift h k = rw (pow-add 2 shift 7, add_comm v, mul_comm (2 ^ shift) 128) (digits_lt h k)

module _ {s : List ℕ} {e at v shift p : ℕ} (R : Reading s e at v shift p) where
  pub fits : (b : ℕ) → b < 128 → v + b * 2 ^ shift % 18446744073709551616 < 18446744073709551616
  fits b h =
      let top : shift + 7 ≤ 64 = omega (arith, R.top) in
      rw (exact b shift (omega arith) R.top) (lt_of_lt_of_le (grown b v shift h R.small) (pow_mono {j = 64} top))

  pub at-end : e ≤ p → None ≡ vint_at s e at
  at-end h = sym (R.same ∙ ap (λ (r : Option (ℕ × ℕ)). capped (shifted v shift r)) (from_end s e p ((35 - shift) / 7) h))

  pub at_five : 35 ≤ shift → None ≡ vint_at s e at
  unfolding vint_from
  at_five h = sym (R.same ∙ ap (λ (n : ℕ). capped (shifted v shift (vint_from n s e p))) (none shift h))
    where
      none : (shift : ℕ) → 35 ≤ shift → (35 - shift) / 7 ≡ 0
      none shift h = omega arith

  module _ (h : p < e) (k : shift < 35) {b : ℕ} (w : b ≡ get_or s p 0) (B : b < 256) where
    last : 128 ≤ b → vint_at s e at ≡ capped (Some (v + (b - 128) * 2 ^ shift % 18446744073709551616, p + 1))
    last l =
        R.same
        ∙ ap (λ (n : ℕ). capped (shifted v shift (vint_from n s e p))) (fuel shift k R.sevens)
        ∙ ap (λ (r : Option (ℕ × ℕ)). capped (shifted v shift r)) (from_last s e p ((35 - (shift + 7)) / 7) h (subst (λ (x : ℕ). 128 ≤ x) w l))
        ∙ ap (λ (x : ℕ). capped (Some (v + x, p + 1))) (ap (λ (x : ℕ). 2 ^ shift * (x - 128)) (sym w) ∙ mul_comm (2 ^ shift) (b - 128) ∙ sym (exact (b - 128) shift (omega arith) R.top))

    pub last_fits : 128 ≤ b → v + (b - 128) * 2 ^ shift % 18446744073709551616 ≤ 4294967295 → Some (v + (b - 128) * 2 ^ shift % 18446744073709551616, p + 1) ≡ vint_at s e at
    last_fits l f = sym (last l ∙ simp (lt-ltb (v + (b - 128) * 2 ^ shift % 18446744073709551616) 4294967296 (omega arith)))

    pub last-over : 128 ≤ b → 4294967295 < v + (b - 128) * 2 ^ shift % 18446744073709551616 → None ≡ vint_at s e at
    last-over l f = sym (last l ∙ simp (le-ltb (v + (b - 128) * 2 ^ shift % 18446744073709551616) 4294967296 f))

    pub goes_on : b < 128 → Reading s e at (v + b * 2 ^ shift % 18446744073709551616) (shift + 7) (p + 1)
    goes_on l = rw (exact b shift B R.top) (record {
      top = goes-top shift k R.sevens;
      sevens = goes-sevens shift R.sevens;
      small = grown b v shift l R.small;
      same =
          R.same
          ∙ ap (λ (n : ℕ). capped (shifted v shift (vint_from n s e p))) (fuel shift k R.sevens)
          ∙ ap (λ (r : Option (ℕ × ℕ)). capped (shifted v shift r)) (from_more s e p ((35 - (shift + 7)) / 7) h (subst (λ (x : ℕ). x < 128) w l) ∙ ap (λ (x : ℕ). more x (vint_from ((35 - (shift + 7)) / 7) s e (p + 1))) (sym w))
          ∙ ap capped (shifted-more v shift b (vint_from ((35 - (shift + 7)) / 7) s e (p + 1)));
    })
      where
        goes-top : (shift : ℕ) → shift < 35 → shift % 7 ≡ 0 → shift + 7 ≤ 35
        goes-top shift k m = omega arith

        goes-sevens : (shift : ℕ) → shift % 7 ≡ 0 → (shift + 7) % 7 ≡ 0
        goes-sevens shift m = omega arith
