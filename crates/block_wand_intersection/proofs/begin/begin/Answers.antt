-- `begin` meets its contract: the slots by size, the list bounds summed along them, and the leader's document.
use Rattle.intersection_order.proofs.Seats.{cur-small, slot_small}
use Rattle.block_wand_intersection.proofs.Beginning.{begins, in_order, seated, tops-read}
use Rattle.block_wand_intersection.proofs.begin.begin.Goals as goal

pub max_score_sum-max_sum-requires : goal.max_score_sum-max_sum-requires
max_score_sum-max_sum-requires c =
    let F = c.requires in
    let O = in_order F c.by_size.ensures in
    (O.leader, O.few, tops-read F c.by_size.ensures)

pub doc-doc-requires : goal.doc-doc-requires
doc-doc-requires c =
    let O = in_order c.requires c.by_size.ensures in
    (slot_small O O.leader, cur-small (seated c.requires c.by_size.ensures) (O.below 0 O.leader))

pub returns : goal.returns
returns c =
    begins c.requires c.by_size.ensures c.doc-doc.ensures c.max_score_sum-max_sum.ensures
