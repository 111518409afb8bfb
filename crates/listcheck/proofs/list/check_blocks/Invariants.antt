-- `list::check_blocks` meets its contract: each turn joins one block's refusal to those before it.
use Rattle.outcome.specs.Refusals.{refusal_number}
use Rattle.listcheck.proofs.Judged.{Judging}
use Rattle.listcheck.proofs.list.check_blocks.Given as goal

abbrev pub invariant-loop-b : goal.invariant-loop-b
invariant-loop-b l =
    Judging l.file l.x (refusal_number l.lowest) l.at l.b
