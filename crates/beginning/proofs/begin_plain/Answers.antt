-- `begin_plain` meets its contract: by its mode the scan asks for every list, or for any.
use mathlib.Core.Path.{refl}
use borrow.Author.Rules.{rules}
use Rattle.beginning.proofs.begin_plain.Goals as goal

pub returns-in-Union : goal.returns-in-Union
returns-in-Union c = rw c.in-Union.is refl

pub returns-in-Intersection : goal.returns-in-Intersection
returns-in-Intersection c = rw c.in-Intersection.is refl

pub returns-in-Single : goal.returns-in-Single
returns-in-Single c = rw c.in-Single.is refl
