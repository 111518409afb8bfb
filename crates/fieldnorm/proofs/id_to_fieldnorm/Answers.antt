-- `fieldnorm::id_to_fieldnorm` meets its contract: the constant is the table of `specs/`.
use mathlib.Core.Path.{refl}
use borrow.Author.Rules.{rules}
use Rattle.fieldnorm.specs.Code.{fieldnorm}
use Rattle.fieldnorm.proofs.id_to_fieldnorm.Goals as goal

pub returns : goal.returns
unfolding fieldnorm
returns c = refl
