-- `open` meets its contract: the place opened is kept.
use mathlib.Core.Path.{ap}
use mathlib.Core.List.{List}
use Prim.Native.Nat.{ℕ}
use native.Mathlib.Omega.{arith}
use lib.ListN.{get_or, set}
use Rattle.slot_rows.proofs.Rows.{moved_row}
use Rattle.slot_moves.proofs.open.Goals as goal

pub returns : goal.returns
returns c =
    let e = ap (λ (z : List ℕ). set z 9 0) c.keep.ensures.0 in (
      moved_row c.args.file.now c.args.x c.open-p.result c.keep.ensures.1 _ c.open-p.ensures 0 e c.doc.ensures (λ b u. absurd (omega (arith, u))),
      record { bound = ap (λ (z : List ℕ). get_or z 7 0) e; scores = ap (λ (z : List ℕ). get_or z 8 0) e; ahead = ap (λ (z : List ℕ). get_or z 9 0) e },
    )
