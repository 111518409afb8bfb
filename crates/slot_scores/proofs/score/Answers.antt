-- `score` meets its contract: the document's norm and the frequency at the scorer's place, by its list's struct.
use Rattle.term_scorer.specs.Inner.Slots.{part_at}
use Rattle.slot_scores.proofs.Scores.{score-here}
use Rattle.slot_scores.proofs.score.Goals as goal

pub returns : goal.returns
returns c =
    let x = part_at c.args.lists.now c.args.q in
    score-here c.args.file.now x c.weight_in-w.result c.weight_in-w.ensures c.args.similarity.scoring
    (λ k. (c.type_inv.file k).fits) c.requires.1 c.requires.2.place c.requires.4 c.requires.5 c.fieldnorm_id-id.ensures c.term_freq-freq.ensures c.score.ensures
