-- `freq_or` meets its contract. The loop's invariant (`Joining`): the bits of the first i frequencies less 1 are joined.
use Rattle.std.proofs.Common.{◌+◌, get_or}
use Rattle.block_look.specs.Inner.Joint.{less_one}
use Rattle.block_look.proofs.Joins.{Joining}
use Rattle.block_look.proofs.freq_or.Given as goal

abbrev pub invariant-loop-i : goal.invariant-loop-i
invariant-loop-i l = Joining (less_one (λ k. get_or l.freqs (l.at + k) 0)) l.all l.i
