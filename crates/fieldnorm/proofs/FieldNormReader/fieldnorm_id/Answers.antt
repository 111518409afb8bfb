-- `FieldNormReader::fieldnorm_id` meets its contract: a byte that is there is read, and past the file's end the definition says 0.
use mathlib.Core.Path.{sym}
use native.Mathlib.Omega.{arith}
use lib.ListN.{get_or-eq_default}
use borrow.Author.Rules.{rules}
use Rattle.fieldnorm.proofs.FieldNormReader.fieldnorm_id.Goals as goal

pub returns-then-at-file : goal.returns-then-at-file
returns-then-at-file c = rw c.in-FromData.is

pub returns-else-at-file : goal.returns-else-at-file
returns-else-at-file c = rw c.in-FromData.is (sym (get_or-eq_default c.args.file.now 0 (omega arith)))

pub returns-else-start-file : goal.returns-else-start-file
returns-else-start-file c = rw c.in-FromData.is (sym (get_or-eq_default c.args.file.now 0 (omega arith)))
