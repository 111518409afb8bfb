-- `begin` meets its contract: the sorted scorers' slots are written.
use mathlib.Core.List.{map}
use mathlib.Core.Path.{ap, refl, ◌∙◌}
use Rattle.ordering.specs.Inner.Scorers.{slot_of}
use Rattle.block_wand_union.proofs.begin.Goals as goal

pub returns : goal.returns
returns c =
    let K = c.keep_order.ensures in
    record { union-is = refl; order_is = K.are ∙ ap (map slot_of) c.sort_by_doc.ensures.0; room = K.long }
