-- `tail_max_score` meets its contract: the scores of the whole block are made at once, and the first n compared.
use mathlib.Core.Path.{◌∙◌}
use Rattle.notefile.specs.Inner.Reads.{docs_of, freqs_of}
use Rattle.posting_bounds.proofs.BlockBounds.{scores-most}
use Rattle.posting_bounds.proofs.tail_max_score.Goals as goal

pub returns : goal.returns
returns c =
    c.max_score.ensures
    ∙ scores-most c.args.file.now c.args.x c.args.w c.requires.1 (λ i. (c.type_inv.file i).fits) c.args.scoring c.requires.0 (docs_of c.args.block.now) (freqs_of c.args.block.now) c.score_block.ensures c.args.n c.requires.2
