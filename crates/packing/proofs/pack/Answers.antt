-- `packing::pack` meets its contract. The loop's invariant (`Packing`): of each lane, `word` words are written and `shift` bits are kept,
-- which are `row` values.
use mathlib.Core.Path.{◌≡◌, refl}
use Prim.Native.Nat.{ℕ, ◌+◌, ◌*◌}
use native.Mathlib.Nat.{add-zero}
use native.Mathlib.Omega.{arith}
use Rattle.packing.proofs.Lanes.{begun, all-packed, fits, stays, moves, renamed}
use Rattle.packing.proofs.pack.Goals as goal
use Rattle.packing.proofs.pack.Goals.{then-shift-ge32, else-shift-ge32}

pub loop-row-init : goal.loop-row-init
loop-row-init c = let a = c.args in begun a.values.now a.width a.out.now a.at

pub overflow_add-a : goal.overflow_add-a
overflow_add-a c =
    let l = c.loop-row in
    let v = l.invariant in
    record { fits = fits v c.requires.0 (omega arith) (omega arith) v.lane0 (rw (add-zero (4 * l.row)) c.from.ensures) }

pub overflow_add-b : goal.overflow_add-b
overflow_add-b c =
    let l = c.loop-row in
    record { fits = fits l.invariant c.requires.0 (omega arith) (omega arith) l.invariant.lane1 c.from-in-loop-row.ensures }

pub overflow_add-c : goal.overflow_add-c
overflow_add-c c =
    let l = c.loop-row in
    record { fits = fits l.invariant c.requires.0 (omega arith) (omega arith) l.invariant.lane2 c.from-in-loop-row-2.ensures }

pub overflow_add-d : goal.overflow_add-d
overflow_add-d c =
    let l = c.loop-row in
    record { fits = fits l.invariant c.requires.0 (omega arith) (omega arith) l.invariant.lane3 c.from-in-loop-row-3.ensures }

next : (n : ℕ) → 4 * (n + 1) ≡ 4 * n + 4
next n = omega arith

pub loop-row-preserved : goal.loop-row-preserved
loop-row-preserved c =
    let l = c.loop-row in
    let F = c.requires.0 in
    let a = c.from.ensures in
    let b = c.from-in-loop-row.ensures in
    let d = c.from-in-loop-row-2.ensures in
    let e = c.from-in-loop-row-3.ensures in
    rw (next l.row) (elim c.if-shift-ge32.branch [
      | then-shift-ge32 w ↦ renamed
          (moves l.invariant F (omega arith) a b d e w.if-shift-ge32.true refl w.write_low.ensures
          w.write_low-then-shift-ge32.ensures w.write_low-then-shift-ge32-2.ensures w.write_low-then-shift-ge32-3.ensures)
          w.out-is w.a-is w.b-is w.c-is w.d-is w.word-is w.shift-is
      | else-shift-ge32 w ↦ renamed (stays l.invariant F (omega arith) a b d e w.if-shift-ge32.false)
          w.out-is w.a-is w.b-is w.c-is w.d-is w.word-is w.shift-is
    ])

pub returns : goal.returns
returns c = all-packed c.loop-row.invariant (omega arith)
