-- `bound_at` meets its contract: the score of the decoded frequency at the norm, as the scoring has it.
use mathlib.Core.Path.{ap, ◌∙◌}
use Rattle.bm25.specs.Score.{score_at}
use Rattle.bm25.specs.Scoring.{scored}
use Rattle.bm25.proofs.bound_at.Goals as goal

pub returns : goal.returns
unfolding score_at
returns c =
    c.in_scoring.ensures ∙ ap (scored c.args.scoring) (c.score_at.ensures ∙ rw (c.u32_to_f32-tf.ensures, c.decode_block_wand_max_tf.ensures))
