-- `codec::bits::read_be` meets its contract. The loop's invariant: v is the field of the i bytes read, and one more byte makes it eight bits longer (`bits-more`).
use mathlib.Core.Path.{refl, ap, ◌∙◌}
use Prim.Native.Nat.{ℕ, ◌+◌, ◌*◌, ◌<◌}
use native.Mathlib.Nat.{lt_of_lt_of_le}
use native.Mathlib.Omega.{arith}
use lib.Pow.{pow_mono}
use Rattle.codec.specs.Bits.{bits_at}
use Rattle.codec.proofs.BitFields.{bits-lt, bits-more}
use Rattle.codec.proofs.bits.read_be.Goals as goal
use Rattle.codec.proofs.bits.read_be.Goals.{In-loop-i}

-- fewer than eight bytes are below 2 ^ 56
small : (c : In-loop-i) → c.loop-i.v < 72057594037927936
small c =
    let a = c.args in
    rw c.loop-i.invariant.1 (lt_of_lt_of_le (bits-lt a.s.now (8 * a.at) (8 * c.loop-i.i)) (pow_mono {j = 56} (omega arith)))

pub loop-i-init : goal.loop-i-init
unfolding bits_at
loop-i-init c = (omega arith, refl)

pub overflow_mul-v : goal.overflow_mul-v
overflow_mul-v c = omega (arith, small c)

pub overflow_add-v : goal.overflow_add-v
overflow_add-v c = omega (arith, small (goal.at.overflow_add-v c).In-loop-i)

pub loop-i-preserved : goal.loop-i-preserved
loop-i-preserved c =
    let a = c.args in
    let l = c.loop-i in (
      omega arith,
      ap (λ (x : ℕ). x * 256 + c.from.result) l.invariant.1
          ∙ ap (λ (x : ℕ). bits_at a.s.now (8 * a.at) (8 * l.i) * 256 + x) c.from.ensures
          ∙ bits-more a.s.now a.at l.i (c.type_inv.s (a.at + l.i)).fits,
    )
