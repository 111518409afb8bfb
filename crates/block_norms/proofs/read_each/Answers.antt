-- `block_norms::read_each` meets its contract: each document's place is its code.
use borrow.Author.Rules.{rules}
use Rattle.fieldnorm.specs.Reader.{fieldnorm_id}
use Rattle.block_norms.proofs.read_each.Goals as goal

pub returns : goal.returns
returns c = c.gather.ensures (fieldnorm_id c.args.reader c.args.file.now) (search rules)
