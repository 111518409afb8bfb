-- Little-endian words read back, and no other bytes do.
use mathlib.Core.Path.{◌≡◌, sym, ap, ◌∙◌}
use mathlib.Core.List.{List}
use Prim.Native.Nat.{ℕ, zero, suc, ◌+◌, ◌*◌, ◌/◌, ◌%◌, ◌<◌}
use native.Mathlib.Nat.{add-zero, div-one, mod-eq_of_lt}
use native.Mathlib.Omega.{arith}
use lib.ListN.{get_or}
use Rattle.codec.specs.Bits.{word_at}
use Rattle.pieces.specs.Bytes.{little_byte}

-- four bytes are a word
pub four_bytes : (x a b c d : ℕ) → a ≡ x / 1 % 256 → b ≡ x / 256 % 256 → c ≡ x / 65536 % 256 → d ≡ x / 16777216 % 256
    → a + 256 * b + 65536 * c + 16777216 * d ≡ x % 4294967296
four_bytes x a b c d ea eb ec ed =
    let one : a + 256 * b ≡ x % 65536 = first x a b ea eb in
    let two : c + 256 * d ≡ x / 65536 % 65536
    = first (x / 65536) c d (ec ∙ ap (λ (y : ℕ). y % 256) (sym (div-one (x / 65536)))) (ed ∙ ap (λ (y : ℕ). y % 256) (on x)) in
    spread a b c d ∙ join x (a + 256 * b) (c + 256 * d) one two
  where
    first : (x a b : ℕ) → a ≡ x / 1 % 256 → b ≡ x / 256 % 256 → a + 256 * b ≡ x % 65536
    first x a b ea eb = omega arith

    spread : (a b c d : ℕ) → a + 256 * b + 65536 * c + 16777216 * d ≡ a + 256 * b + 65536 * (c + 256 * d)
    spread a b c d = omega arith

    on : (x : ℕ) → x / 16777216 ≡ x / 65536 / 256
    on x = omega arith

    join : (x l h : ℕ) → l ≡ x % 65536 → h ≡ x / 65536 % 65536 → l + 65536 * h ≡ x % 4294967296
    join x l h e f = omega arith

module _ (s : List ℕ) (p v : ℕ) where
  pub word_back : v < 4294967296 → ((k : ℕ) → k < 4 → get_or s (p + k) 0 ≡ little_byte v k) → word_at s p ≡ v
  unfolding word_at
  word_back h b =
      four_bytes v (get_or s p 0) (get_or s (p + 1) 0) (get_or s (p + 2) 0) (get_or s (p + 3) 0)
      (ap (λ (x : ℕ). get_or s x 0) (sym (add-zero p)) ∙ b 0 (omega arith)) (b 1 (omega arith)) (b 2 (omega arith)) (b 3 (omega arith))
      ∙ mod-eq_of_lt h

  pub word-only : ((i : ℕ) → get_or s i 0 < 256) → word_at s p ≡ v → (k : ℕ) → k < 4 → get_or s (p + k) 0 ≡ little_byte v k
  unfolding word_at
  word-only B e zero h = rw (add-zero p) (omega (arith, B p, B (p + 1), B (p + 2), B (p + 3)))
  word-only B e (suc zero) h = omega (arith, B p, B (p + 1), B (p + 2), B (p + 3))
  word-only B e (suc (suc zero)) h = omega (arith, B p, B (p + 1), B (p + 2), B (p + 3))
  word-only B e (suc (suc (suc zero))) h = omega (arith, B p, B (p + 1), B (p + 2), B (p + 3))
  word-only B e (suc (suc (suc (suc k)))) h = absurd (no k h)
    where
      no : (k : ℕ) → suc (suc (suc (suc k))) < 4 → ⊥
      no k h = omega arith
