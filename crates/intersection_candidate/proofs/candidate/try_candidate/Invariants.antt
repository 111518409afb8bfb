-- `try_candidate` meets its contract: each turn asks one secondary as the route does, and what is left of them decides.
use Rattle.term_scorer.specs.Inner.Slots.{held}
use Rattle.intersection_order.specs.Inner.Scorers.{query}
use Rattle.intersection_candidate.proofs.Trying.{Trying}
use Rattle.intersection_candidate.proofs.candidate.try_candidate.Given as goal

abbrev pub invariant-loop-i : goal.invariant-loop-i
invariant-loop-i l =
    Trying (query l.leg.similarity l.file l.lists l.norms l.n l.order) l.doc l.initial.total_score l.leg.threshold l.rests (held l.initial.places l.initial.blocks) l.i l.total_score (held l.places l.blocks)
