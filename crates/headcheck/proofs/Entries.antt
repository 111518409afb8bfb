-- Condition 4 in the numbers that the code has.
use mathlib.Core.Path.{◌≡◌, refl, sym, ap, ◌∙◌}
use mathlib.Core.Bool.{Bool, true, false, ◌&&◌}
use mathlib.Core.List.{List}
use Prim.Native.Nat.{ℕ, ◌+◌, ◌*◌, ◌/◌, ◌%◌}
use native.Mathlib.Omega.{arith}
use lib.Dec.{leb}
use lib.Ieee.{binary32, of_bits}
use Rattle.codec.specs.Bits.{bits_at}
use Rattle.bm25.specs.Limits.{weight_ok}
use Rattle.notefile.specs.Header.{documents}
use Rattle.notefile.specs.Conditions.{entry_right}
use Rattle.notefile.proofs.Headers.{field}

module _ (file : List ℕ) (l : ℕ) where
  -- condition 4 in the numbers of an entry's first seven bytes, and in the answer about the weight
  module _ (w c d : ℕ) (ew : w ≡ bits_at file (8 * (9 + 13 * l)) 32) (ec : c ≡ bits_at file (8 * (9 + 13 * l + 4)) 24) (ed : d ≡ documents file) (t : Bool) (et : t ≡ weight_ok (of_bits binary32 w)) where
    tests : t && leb (c / 8 % 2097152) d ≡ entry_right file l
    unfolding entry_right
    tests = rw (et, ew, ec, ed, ← field file (8 * (9 + 13 * l + 4)) (8 * (9 + 13 * l) + 32) 0 21 3 24 (place l) refl)
      where
        place : (l : ℕ) → 8 * (9 + 13 * l + 4) + 0 ≡ 8 * (9 + 13 * l) + 32
        place l = omega arith

    pub weight-fits : t ≡ true → leb (c / 8 % 2097152) d ≡ entry_right file l
    weight-fits e = sym (ap (λ (z : Bool). z && leb (c / 8 % 2097152) d) e) ∙ tests

    pub weight-wrong : t ≡ false → false ≡ entry_right file l
    weight-wrong e = sym (ap (λ (z : Bool). z && leb (c / 8 % 2097152) d) e) ∙ tests
