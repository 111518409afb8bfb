-- `price_lists` meets its contract. The loop's invariant (`Pricing`): l lists are priced, and none is refused.
use Rattle.contents.specs.Inner.Handed.{contents_in}
use Rattle.note_price.proofs.Pricing.{Pricing}
use Rattle.note_price.proofs.price_lists.Given as goal

abbrev pub invariant-loop-l : goal.invariant-loop-l
invariant-loop-l l =
    Pricing (contents_in l.c) l.postings l.total l.from l.start l.l l.tops
