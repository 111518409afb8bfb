-- `header::read_header` meets its contract: each field is cut out of the number in the first five bytes.
use mathlib.Core.Path.{refl}
use native.Mathlib.Nat.{div-one}
use Rattle.notefile.specs.Inner.Structs.{header_of}
use Rattle.notefile.proofs.Headers.{field}
use Rattle.notefile.proofs.header.read_header.Goals as goal

pub returns : goal.returns
unfolding header_of
returns c =
    let s = c.args.file.now in
    rw (field s 0 0 0 4 36 40 refl refl, field s 0 4 4 1 35 40 refl refl, field s 0 5 5 5 30 40 refl refl, field s 0 10 10 8 22 40 refl refl, field s 0 18 18 21 1 40 refl refl, field s 0 39 39 1 0 40 refl refl, div-one, c.read_be-x.ensures)
