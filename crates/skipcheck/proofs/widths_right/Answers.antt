-- `skipcheck::widths_right` meets its contract: the three tests in their order.
use mathlib.Core.Path.{sym}
use Prim.Native.Nat.{◌/◌, ◌%◌}
use borrow.Author.Tests.{eq-eqb, ne_eqb}
use Rattle.skipcheck.proofs.widths_right.Goals as goal

pub returns-then-byte-ne0 : goal.returns-then-byte-ne0
returns-then-byte-ne0 c = let a = c.args in sym (simp (ne_eqb (a.byte / 32 % 2) 0 c.if-byte-ne0.true))

pub returns-then-byte-ne0-2 : goal.returns-then-byte-ne0-2
returns-then-byte-ne0-2 c = let a = c.args in sym (simp (eq-eqb (a.byte / 32 % 2) 0 c.if-byte-ne0.false, ne_eqb (a.byte / 128 % 2) 0 c.if-byte-ne0-2.true))

pub returns : goal.returns
returns c = let a = c.args in sym (simp (eq-eqb (a.byte / 32 % 2) 0 c.if-byte-ne0.false, eq-eqb (a.byte / 128 % 2) 0 c.if-byte-ne0-2.false))
