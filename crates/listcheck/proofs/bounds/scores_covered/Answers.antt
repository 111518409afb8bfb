-- `bounds::scores_covered` meets its contract: the scores are the list's.
use Rattle.notefile.specs.Inner.Reads.{docs_of, freqs_of}
use Rattle.listcheck.proofs.Covers.{scores-are}
use Rattle.listcheck.proofs.bounds.scores_covered.Goals as goal

pub returns : goal.returns
returns c =
    scores-are c.args.file.now c.args.x c.args.w c.requires.1 (λ k. (c.type_inv.file k).fits) c.args.reader c.requires.0
    (docs_of c.args.block.now) (freqs_of c.args.block.now) c.args.bound c.args.n c.covered.ensures
