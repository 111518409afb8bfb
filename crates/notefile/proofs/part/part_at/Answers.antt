-- `part::part_at` meets its contract: each field is cut out of eight bytes of the entry.
use mathlib.Core.Path.{refl}
use Prim.Native.Nat.{◌+◌, ◌*◌}
use native.Mathlib.Omega.{arith}
use native.Mathlib.Nat.{div-one}
use Rattle.codec.proofs.BitFields.{bits-lt}
use Rattle.notefile.specs.Parts.{skips_at, part_of}
use Rattle.notefile.proofs.Headers.{field}
use Rattle.notefile.proofs.part.part_at.Goals as goal

pub overflow_cast-weight : goal.overflow_cast-weight
overflow_cast-weight c = rw c.read_be-weight.ensures (record { fits = bits-lt c.args.file.now (8 * (9 + 13 * c.args.l)) 32 })

pub returns : goal.returns
unfolding part_of skips_at
returns c =
    let s = c.args.file.now in
    let e = 9 + 13 * c.args.l in
    rw (
      field s (8 * (e + 4)) (8 * e + 32) 0 21 43 64 (omega arith) refl,
      field s (8 * (e + 4)) (8 * e + 53) 21 1 42 64 (omega arith) refl,
      field s (8 * (e + 4)) (8 * e + 54) 22 24 18 64 (omega arith) refl,
      field s (8 * (e + 5)) (8 * e + 78) 38 26 0 64 (omega arith) refl,
      div-one,
      c.read_average.ensures,
      c.read_be-y.ensures,
      c.read_be-x.ensures,
      c.read_be-weight.ensures,
      c.requires.2,
    )
