-- Skip entries: they lie in the file, and where the one before a block's stands.
use mathlib.Core.Path.{◌≡◌, refl, ap, ◌∙◌}
use mathlib.Core.List.{List}
use Prim.Native.Nat.{ℕ, zero, suc, ◌-◌}
use native.Mathlib.Omega.{arith}
use Rattle.codec.specs.Bits.{word_at}
use Rattle.notefile.specs.Skips.{skip_entry_at}
use Rattle.notefile.specs.Inner.Structs.{last_before}
use Rattle.notefile.specs.declared.part.Part.{Part}

-- the entry before block b's
pub before-is : (file : List ℕ) (x : Part) (b : ℕ) {at : ℕ} → at ≡ skip_entry_at x (b - 1) → (b ≡ 0 → ⊥) → word_at file at ≡ last_before file x b
before-is file x zero e n = absurd (n refl)
before-is file x (suc b) e n = ap (word_at file) (e ∙ ap (skip_entry_at x) (down b))
  where
    down : (b : ℕ) → suc b - 1 ≡ b
    down b = omega arith
