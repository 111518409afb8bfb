-- `next_candidate` meets its contract: each place of the leader's block is left out, or its posting is the first candidate.
use Prim.Native.Nat.{ℕ}
use lib.Ieee.{Float}
use Rattle.route.specs.Postings.{Postings}
use Rattle.intersection_candidate.specs.Inner.Candidates.{BlockRows}
use Rattle.intersection_candidate.proofs.Finding.{Finding}
use Rattle.intersection_candidate.proofs.leader.next_candidate.Given as goal

-- whichever list's block the rows are of
abbrev pub invariant-loop-i : goal.invariant-loop-i
invariant-loop-i l =
    (p : Postings Float) (b : ℕ) → BlockRows p b l.docs l.scores → Finding p b (record { next = l.initial.i; window_end = l.window_end; score_threshold = l.score_threshold }) l.i
