-- `unpacking::unpack` meets its contract: a block of no width is all 0 (`none-unpacked`).
use mathlib.Core.Path.{◌≡◌, sym, subst}
use Prim.Native.Nat.{ℕ}
use lib.ListN.{replicate}
use borrow.Author.Rules.{rules}
use Rattle.bitpacker.specs.Inner.Rows.{Unpacked}
use Rattle.bitpacker.proofs.Rows.{none-unpacked}
use Rattle.unpacking.proofs.unpack.Goals as goal

pub returns-in-0 : goal.returns-in-0
returns-in-0 c =
    let a = c.args in
    let none : a.width ≡ 0 = search rules in
    subst (λ (w : ℕ). Unpacked a.s.now a.at w (replicate 128 0)) (sym none) (none-unpacked a.s.now a.at)
