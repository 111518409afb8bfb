-- `list_right` meets its contract: the weight, then the count.
use Rattle.contentcheck.proofs.Rows.{weight-fits, weight-wrong}
use Rattle.contentcheck.proofs.list_right.Goals as goal

pub returns-then-weight_right : goal.returns-then-weight_right
returns-then-weight_right c =
    let a = c.args in
    weight-fits a.weight a.count a.documents c.weight_right.ensures c.if-weight_right.true

pub returns : goal.returns
returns c =
    let a = c.args in
    weight-wrong a.weight a.count a.documents c.weight_right.ensures c.if-weight_right.false
