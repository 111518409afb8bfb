-- `Bm25Weight::score` meets its contract: the score at the cached norm, as the scoring has it.
use mathlib.Core.Path.{ap, ◌∙◌}
use Rattle.bm25.specs.Score.{score_at}
use Rattle.bm25.specs.Scoring.{scored}
use Rattle.bm25.specs.Inner.Weight.{score_in}
use Rattle.bm25.proofs.Bm25Weight.score.Goals as goal

pub returns : goal.returns
unfolding score_in score_at
returns c =
    c.in_scoring.ensures ∙ ap (scored c.args.scoring) (c.score_at.ensures ∙ rw c.u32_to_f32-tf.ensures)
