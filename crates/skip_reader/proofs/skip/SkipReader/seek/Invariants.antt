-- `SkipReader::seek` meets its contract: each turn leaves one block that ends before the target.
use Prim.Native.Nat.{◌-◌, ◌<◌}
use Rattle.skip_reader.proofs.Readers.{Seeking}
use Rattle.skip_reader.proofs.skip.SkipReader.seek.Given as goal

abbrev pub invariant-loop-reader : goal.invariant-loop-reader
invariant-loop-reader l = Seeking l.file l.x l.target l.initial.reader.block l.reader × (l.reader.last_doc_in_block < l.target)

abbrev pub decreases-loop-reader : goal.decreases-loop-reader
decreases-loop-reader l = l.blocks - l.reader.block
