-- `gather` meets its contract: each turn takes one skip reader on, and adds its block's end and bound to those before.
use Rattle.term_scorer.specs.Inner.Slots.{held}
use Rattle.intersection_order.specs.Inner.Scorers.{query}
use Rattle.intersection_window.proofs.Gathering.{Gathering}
use Rattle.intersection_window.proofs.window.gather.Given as goal

abbrev pub invariant-loop-i : goal.invariant-loop-i
invariant-loop-i l =
    Gathering (query l.similarity l.file l.lists l.norms l.n l.order) l.doc l.leader_end (held l.initial.places l.blocks) l.i l.window_end l.block_max_sum l.places l.bounds
