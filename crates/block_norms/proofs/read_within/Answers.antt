-- `block_norms::read_within` meets its contract: each document's place is the code that stands in the file.
use Prim.Native.Nat.{◌+◌}
use lib.ListN.{get_or}
use borrow.Author.Rules.{rules}
use Rattle.block_norms.proofs.CodesFound.{gathered}
use Rattle.block_norms.proofs.read_within.Goals as goal

pub returns : goal.returns
returns c =
    let a = c.args in
    gathered a.reader a.file.now a.codes a.cache.now a.docs.now _ c.requires.0 c.requires.1 (c.gather.ensures (λ d. get_or a.file.now (a.codes.start + d) 0) (search rules))
