-- A skip entry's fields read back, and no other bytes do.
use mathlib.Core.Path.{◌≡◌, refl, sym, ◌∙◌}
use mathlib.Core.List.{List}
use Prim.Native.Nat.{ℕ, zero, suc, ◌+◌, ◌/◌, ◌%◌, ◌<◌}
use native.Mathlib.Omega.{arith}
use lib.ListN.{get_or}
use Rattle.codec.specs.Bits.{word_at}
use Rattle.pieces.specs.Bytes.{little_byte}
use Rattle.pieces.specs.Inner.Written.{Stands}
use Rattle.pieces.proofs.Words.{word_back, word-only}
use Rattle.encode.specs.SkipEntry.{skip_entry}

-- its fields, at their places
pub record SkipEntryAt (s : List ℕ) (p last doc_bits freq_bits norm_code freq_code : ℕ) : Type 0 where
  pub last-is : word_at s p ≡ last
  pub doc-width-is : get_or s (p + 4) 0 ≡ doc_bits + 64
  pub freq-width-is : get_or s (p + 5) 0 ≡ freq_bits
  pub norm-code-is : get_or s (p + 6) 0 ≡ norm_code
  pub freq-code-is : get_or s (p + 7) 0 ≡ freq_code

-- its first four bytes are the last document's
pub entry-low : (last doc_bits freq_bits norm_code freq_code k : ℕ) → k < 4
    → little_byte last k ≡ get_or (skip_entry last doc_bits freq_bits norm_code freq_code) k 0
entry-low last doc_bits freq_bits norm_code freq_code zero h = refl
entry-low last doc_bits freq_bits norm_code freq_code (suc zero) h = refl
entry-low last doc_bits freq_bits norm_code freq_code (suc (suc zero)) h = refl
entry-low last doc_bits freq_bits norm_code freq_code (suc (suc (suc zero))) h = refl
entry-low last doc_bits freq_bits norm_code freq_code (suc (suc (suc (suc k)))) h = absurd (no k h)
  where
    no : (k : ℕ) → suc (suc (suc (suc k))) < 4 → ⊥
    no k h = omega arith

module _ (s : List ℕ) (p last doc_bits freq_bits norm_code freq_code : ℕ) where
  pub skip-back : last < 4294967296 → Stands s p (skip_entry last doc_bits freq_bits norm_code freq_code)
      → SkipEntryAt s p last doc_bits freq_bits norm_code freq_code
  skip-back h S = record {
    last-is = word_back s p last h (λ k l. S.at k (omega arith) ∙ sym (entry-low last doc_bits freq_bits norm_code freq_code k l));
    doc-width-is = S.at 4 (omega arith);
    freq-width-is = S.at 5 (omega arith);
    norm-code-is = S.at 6 (omega arith);
    freq-code-is = S.at 7 (omega arith);
  }

  pub skip-only : ((i : ℕ) → get_or s i 0 < 256) → SkipEntryAt s p last doc_bits freq_bits norm_code freq_code
      → Stands s p (skip_entry last doc_bits freq_bits norm_code freq_code)
  skip-only B E = record { at = each }
    where
      each : (k : ℕ) → k < 8 → get_or s (p + k) 0 ≡ get_or (skip_entry last doc_bits freq_bits norm_code freq_code) k 0
      each zero h = word-only s p last B E.last-is 0 (omega arith)
      each (suc zero) h = word-only s p last B E.last-is 1 (omega arith)
      each (suc (suc zero)) h = word-only s p last B E.last-is 2 (omega arith)
      each (suc (suc (suc zero))) h = word-only s p last B E.last-is 3 (omega arith)
      each (suc (suc (suc (suc zero)))) h = E.doc-width-is
      each (suc (suc (suc (suc (suc zero))))) h = E.freq-width-is
      each (suc (suc (suc (suc (suc (suc zero)))))) h = E.norm-code-is
      each (suc (suc (suc (suc (suc (suc (suc zero))))))) h = E.freq-code-is
      each (suc (suc (suc (suc (suc (suc (suc (suc k)))))))) h = absurd (no k h)
        where
          no : (k : ℕ) → suc (suc (suc (suc (suc (suc (suc (suc k))))))) < 8 → ⊥
          no k h = omega arith

-- a strict block's width byte, bit by bit
pub record StrictByte (b doc_bits : ℕ) : Type 0 where
  pub width_is : b % 32 ≡ doc_bits
  pub bit5 : b / 32 % 2 ≡ 0
  pub bit6 : b / 64 % 2 ≡ 1
  pub bit7 : b / 128 % 2 ≡ 0

pub strict-byte : {b doc_bits : ℕ} → doc_bits < 32 → b ≡ doc_bits + 64 → StrictByte b doc_bits
strict-byte h e = record { width_is = omega arith; bit5 = omega arith; bit6 = omega arith; bit7 = omega arith }
