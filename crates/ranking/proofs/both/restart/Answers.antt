-- `both::restart` meets its contract: by the rule's case.
use Rattle.ranking.proofs.both.restart.Goals as goal

pub returns-in-Script : goal.returns-in-Script
returns-in-Script c = rw c.in-Script.is

pub returns-in-BestK : goal.returns-in-BestK
returns-in-BestK c = rw c.in-BestK.is
