-- `bitpacker::copy` meets its contract: of width 32 a value is a word (`word_value`), 4 bytes after the one before it.
use mathlib.Core.Path.{sym, ◌∙◌}
use Prim.Native.Nat.{ℕ, ◌<◌}
use native.Mathlib.Omega.{arith}
use lib.ListN.{get_or}
use Rattle.arrays.proofs.Filling.{goes_on}
use Rattle.bitpacker.specs.Packed.{packed_at}
use Rattle.bitpacker.proofs.Lanes.{word_value}
use Rattle.bitpacker.proofs.copy.Goals as goal

pub loop-i-preserved : goal.loop-i-preserved
loop-i-preserved c =
    let s = c.args.s.now in
    let at = c.args.at in
    let i = c.loop-i.i in
    let bytes : (k : ℕ) → get_or s k 0 < 256 = λ k. omega (arith, (c.type_inv.s k).fits) in
    goes_on 0 128 (packed_at s at 32) _ i c.loop-i.out c.read_u32.result (omega arith)
    (c.read_u32.ensures.0 ∙ sym (word_value s bytes at i (omega arith))) c.loop-i.invariant
