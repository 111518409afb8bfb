-- `replay_all` ends: no case moves on by more than 32,768 bytes.
use Rattle.std.proofs.Common.{◌+◌, ◌*◌, ◌≤◌}
use Rattle.samples.proofs.replay.replay_all.Given as goal

abbrev pub invariant-loop-i : goal.invariant-loop-i
invariant-loop-i g l = (l.at ≤ 4 + 32768 * l.i) × (l.cases ≤ 65536)
