-- `place::postings_of` meets its contract: the row's block, its place and its previous document make the skip reader.
use mathlib.Core.Path.{ap}
use native.Mathlib.Omega.{arith}
use lib.Dec.{eqb}
use lib.ListN.{get_or}
use Rattle.skip_reader.specs.declared.skip.SkipReader.{SkipReader}
use Rattle.slot_rows.specs.Inner.Rows.{postings_in}
use Rattle.slot_rows.proofs.Rows.{offset-is, previous-is}
use Rattle.slot_rows.proofs.place.postings_of.Goals as goal

pub on-skip_reader-requires : goal.on-skip_reader-requires
on-skip_reader-requires c =
    let file = c.args.file.now in
    let x = c.args.x in
    let row = c.args.place.now in (
      c.requires.0,
      offset-is file x row c.requires.1,
      previous-is file x row c.requires.1,
      omega (arith, c.requires.1.low, c.requires.0.skipped.parted.few),
    )

pub returns : goal.returns
unfolding postings_in
returns c =
    let row = c.args.place.now in
    ap (λ (r : SkipReader). record { skip_reader = r; block_loaded = eqb (get_or row 4 0) 1; decoded = get_or row 5 0; cur = get_or row 6 0 }) c.on-skip_reader.ensures
