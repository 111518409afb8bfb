-- `total` meets its contract: the sum is where the list at hand starts.
use mathlib.Core.Path.{◌≡◌}
use Prim.Native.Nat.{◌*◌, ◌≤◌}
use lib.ListN.{length}
use Rattle.contents.specs.Contents.{Contents, list_at}
use Rattle.contentcheck.proofs.total.Given as goal

abbrev pub invariant-loop-l : goal.invariant-loop-l
invariant-loop-l l =
    (l.l ≤ length l.counts) × ((l.sum ≤ l.l * 4294967295) × ((c : Contents) → c.counts ≡ l.counts → l.sum ≡ list_at c l.l))
