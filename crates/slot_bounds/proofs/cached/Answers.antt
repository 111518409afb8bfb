-- `cached` meets its contract: the flag says whether the row's bound is one.
use mathlib.Core.List.{[]}
use lib.ListN.{get_or}
use borrow.Author.Tests.{eq-eqb, ne_eqb}
use Rattle.slot_bounds.proofs.cached.Goals as goal

pub returns-then-places-q-eq-KNOWN : goal.returns-then-places-q-eq-KNOWN
returns-then-places-q-eq-KNOWN c =
    rw (eq-eqb (get_or (get_or c.args.places.now c.args.q []) 7 0) 1 c.if-places-q-eq-KNOWN.true)

pub returns : goal.returns
returns c =
    rw (ne_eqb (get_or (get_or c.args.places.now c.args.q []) 7 0) 1 c.if-places-q-eq-KNOWN.false)
