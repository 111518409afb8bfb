-- Where a union's run begins, and where it stopped.
use Rattle.std.specs.Prelude.{◌≡◌, List, map, ℕ, take}
use Rattle.route.specs.Ordering.{sort_by}
use Rattle.ordering.specs.Inner.Scorers.{by_doc, slot_of}
use Rattle.term_scorer.specs.declared.TermScorer.{TermScorer}
use Rattle.reports.specs.declared.Event.{Event}
use Rattle.term_scorer.specs.Inner.Slots.{Sixteen}
use Rattle.union_turn.specs.declared.Stage.TheVariants.{Looking}
use Rattle.union_turn.specs.declared.Union.{Union}

-- a run over scorers l begins: it looks for a pivot, and the slots stand in the order of the scorers' documents
pub record Begins (l : List TermScorer) (n : ℕ) (u : Union) (order : List ℕ) : Type 0 where
  pub union-is : u ≡ record { len = n; stage = Looking }
  pub order_is : take n order ≡ map slot_of (sort_by by_doc l)
  pub room : Sixteen order
