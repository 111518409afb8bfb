-- `bitpacker::eight` meets its contract. The loop keeps `Rows`: the values so far are the block's, and what is carried to the next row
-- is its place by 01 (`Carried`). A row ends in the words read (`whole-more`) or in the next ones (`across-more`).
use mathlib.Core.Path.{◌≡◌, sym, ap, subst}
use mathlib.Core.Logic.{⊎_elim}
use Prim.Native.Nat.{ℕ, ◌+◌, ◌-◌, ◌*◌, ◌^◌, ◌%◌, ◌≤◌, ◌<◌}
use native.Mathlib.Nat.{add-zero}
use native.Mathlib.Omega.{arith}
use lib.ListN.{get_or}
use Rattle.bitpacker.proofs.Rows.{Rows, begun, word-inside, unit-is, row_fits, more-words, rests-lt, whole-more, across-more}
use Rattle.bitpacker.proofs.eight.Goals as goal
use Rattle.bitpacker.proofs.eight.Goals.{After-shared_slice_known-1, At-loop-n, In-loop-n, Start}

abbrev mask-of : Start → ℕ
mask-of c = 1 * 2 ^ c.args.width % 4294967296 - 1

ones : (c : Start) → mask-of c ≡ 2 ^ c.args.width - 1
ones c = ap (λ (x : ℕ). x - 1) (unit-is c.args.width c.requires.0.narrow)

bytes : (c : At-loop-n) → (k : ℕ) → get_or c.args.s.now k 0 < 256
bytes c k = omega (arith, c.type_inv.s k)

-- a row more is one of the block
in-block : (c : In-loop-n) → c.args.i + 4 * c.loop-n.n < 128
in-block c = omega (arith, c.requires.2)

-- the word in which the first row begins is one of the block
inside : (c : After-shared_slice_known-1) → c.args.word + 1 ≤ c.args.width
inside c =
    let a = c.args in
    let p = c.requires in
    word-inside a.s.now (λ k. omega (arith, c.type_inv.s k)) a.at a.width a.i a.word a.start (omega arith) p.3 p.4 p.0.some p.1

pub loop-n-init : goal.loop-n-init
loop-n-init c =
    let a = c.args in
    let p = c.requires in
    let R = begun a.s.now (λ k. omega (arith, c.type_inv.s k)) a.at a.width a.i a.word a.start (omega arith) p.3 p.4 p.0.some p.1
    p.5 c.words_at-words.result c.shifted.result c.words_at-words.ensures c.shifted.ensures in
    subst (Rows a.s.now a.at a.width a.out.now _) (sym (add-zero a.i)) R

pub row-place-requires : goal.row-place-requires
row-place-requires c =
    let R = c.loop-n.invariant in
    let B = c.requires.0 in (
      B.narrow,
      (λ left. record {
        inside = omega (arith, R.carried.next, more-words R (in-block (goal.at.row-place-requires c).In-loop-n) left B.narrow, B.inside);
        low = rests-lt R (in-block (goal.at.row-place-requires c).In-loop-n) left B.narrow (bytes (goal.at.row-place-requires c).At-loop-n);
      }),
      row_fits R (in-block (goal.at.row-place-requires c).In-loop-n),
      R.first.long,
    )

next : (i n : ℕ) → i + 4 * n + 4 ≡ i + 4 * (n + 1)
next i n = omega arith

pub loop-n-preserved : goal.loop-n-preserved
loop-n-preserved c =
    let R = c.loop-n.invariant in
    let i = c.args.i + 4 * c.loop-n.n in
    let h = in-block (goal.at.loop-n-preserved c).In-loop-n in
    let after : Rows c.args.s.now c.args.at c.args.width _ c.row-place.result (i + 4) =
    ⊎_elim (λ t. whole-more R (mask-of (goal.at.loop-n-preserved c).Start) (ones (goal.at.loop-n-preserved c).Start) h t.0 t.1)
    (λ t. across-more R h t.0 c.requires.0.narrow (bytes (goal.at.loop-n-preserved c).At-loop-n) (mask-of (goal.at.loop-n-preserved c).Start) (ones (goal.at.loop-n-preserved c).Start) t.1) c.row-place.ensures in
    subst (Rows c.args.s.now c.args.at c.args.width _ c.row-place.result) (next c.args.i c.loop-n.n) after
