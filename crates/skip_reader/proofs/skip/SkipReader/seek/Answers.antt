-- `SkipReader::seek` meets its contract: each turn leaves one block that ends before the target.
use native.Mathlib.Omega.{arith}
use Rattle.skip_reader.proofs.Readers.{Seeking, found, goes_on, block-is}
use Rattle.skip_reader.proofs.skip.SkipReader.seek.Goals as goal
use Rattle.skip_reader.proofs.skip.SkipReader.seek.Goals.{After-advance-reader}

-- the reader behind a block that ends before the target
gone-on : (c : After-advance-reader)
    → Seeking c.args.file.now c.args.x c.args.target
    c.args.self.block c.advance-reader.result
gone-on c =
    goes_on c.args.file.now c.args.x c.args.target c.loop-reader.reader c.loop-reader.invariant.0 c.requires.0 c.loop-reader-test.true c.loop-reader.invariant.1 c.advance-reader.result c.advance-reader.ensures

pub returns-then-target-reader : goal.returns-then-target-reader
returns-then-target-reader c =
    found c.args.file.now c.args.x c.args.target c.advance-reader.result (gone-on (goal.at.returns-then-target-reader c).After-advance-reader) c.requires.0 c.if-target-reader.true

pub loop-reader-smaller : goal.loop-reader-smaller
loop-reader-smaller c =
    omega (arith, block-is c.args.file.now c.args.x _ c.advance-reader.ensures, c.loop-reader-test.true)

pub loop-reader-preserved : goal.loop-reader-preserved
loop-reader-preserved c = (gone-on (goal.at.loop-reader-preserved c).After-advance-reader, c.if-target-reader.false)
