-- `open_lists` meets its contract: after q turns the first q numbers of the query stand in their slots.
use Prim.Native.Nat.{◌≤◌}
use lib.ListN.{length}
use Rattle.query.specs.Inner.Openings.{tables, QueryOpened, Untouched}
use Rattle.query.proofs.open_lists.Given as goal

abbrev pub invariant-loop-q : goal.invariant-loop-q
invariant-loop-q l =
    let a = tables l.lists l.norms l.places l.blocks in
    QueryOpened l.scoring l.file l.query l.q a l.scorers × (l.q ≤ length l.query) × Untouched l.q (tables l.initial.lists l.initial.norms l.initial.places l.initial.blocks) a
