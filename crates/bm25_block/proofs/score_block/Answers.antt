-- `bm25_block::score_block` meets its contract: either way makes the scores by the struct's norms and weight.
use borrow.Author.Rules.{rules}
use Rattle.bm25_block.proofs.BlockScores.{by-struct}
use Rattle.bm25_block.proofs.score_block.Goals as goal

pub returns-in-Unstepped : goal.returns-in-Unstepped
returns-in-Unstepped c =
    let a = c.args in
    by-struct a.reader a.file.now a.w a.docs.now a.term_freqs.now c.in-Unstepped.is (search rules)

pub returns-in-Stepped : goal.returns-in-Stepped
returns-in-Stepped c =
    let a = c.args in
    by-struct a.reader a.file.now a.w a.docs.now a.term_freqs.now c.in-Stepped.is (search rules)
