-- Full blocks whose frequencies have at most 24 bits: f32 holds every whole number up to 2 ^ 24.
use mathlib.Core.Path.{◌≡◌}
use mathlib.Core.List.{List}
use Prim.Native.Nat.{ℕ, ◌≤◌, ◌<◌}
use native.Mathlib.Omega.{arith}
use borrow.Author.Tests.{lt-ltb}
use Rattle.bitpacker.specs.Packed.{packed_at}
use Rattle.bitpacker.proofs.Lanes.{packed-fits}
use Rattle.compression.proofs.Differences.{gap-small}
use Rattle.notefile.specs.Skips.{freq_width}
use Rattle.notefile.specs.Lists.{full_blocks, freq_value, strict_in, block_freq, freqs_at}
use Rattle.notefile.specs.declared.part.Part.{Part}

-- no frequency of such a block is above it, with the 1 of a strict block
pub freq-narrow : (file : List ℕ) (x : Part) (b : ℕ) → b < full_blocks x → freq_width file x b ≤ 24 → (i : ℕ) → block_freq file x b i ≤ 16777216
unfolding block_freq freq_value
freq-narrow file x b full narrow i =
    let p : freq_value file x b i ≡ packed_at file (freqs_at file x b) (freq_width file x b) i = rw (lt-ltb b (full_blocks x) full) in
    let f = packed-fits file (freqs_at file x b) (freq_width file x b) i 24 narrow in
    omega (arith, p, f, gap-small (strict_in file x b))
