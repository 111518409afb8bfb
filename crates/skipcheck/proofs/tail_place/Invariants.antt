-- `skipcheck::tail_place` meets its contract: each turn tests one entry and steps over its block.
use Rattle.skipcheck.proofs.SkipTests.{Passed}
use Rattle.skipcheck.proofs.tail_place.Given as goal

abbrev pub invariant-loop-b : goal.invariant-loop-b
invariant-loop-b l = Passed l.file l.x l.at l.b
