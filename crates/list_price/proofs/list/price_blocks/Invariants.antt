-- `list::price_blocks` meets its contract: each turn prices one block more, and a 7 ends the loop.
use mathlib.Core.Path.{◌≡◌}
use lib.ListN.{length}
use Rattle.house.specs.Inner.Listed.{listed}
use Rattle.outcome.specs.Refusals.{refusal_number}
use Rattle.list_price.proofs.Pricing.{Pricing}
use Rattle.list_price.proofs.list.price_blocks.Given as goal

abbrev pub invariant-loop-b : goal.invariant-loop-b
invariant-loop-b l =
    Pricing (listed l.reader l.norms l.w.weight l.w.average l.docs l.freqs l.from l.n) l.limit l.start l.initial.tops l.tops (refusal_number l.refusal) l.postings l.b
    × (length l.block_docs ≡ 128) × (length l.block_freqs ≡ 128)
