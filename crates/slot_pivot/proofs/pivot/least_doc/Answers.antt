-- `pivot::least_doc` meets its contract: the least of what was found and of the documents from place i on stays the same.
use mathlib.Core.List.{List, map}
use mathlib.Core.Path.{refl}
use mathlib.Core.Path.{◌≡◌}
use Prim.Native.Nat.{ℕ, min, ◌+◌, ◌≤◌}
use native.Mathlib.Omega.{arith}
use lib.ListN.{drop, get_or, length, length-map, take}
use Rattle.ordering.specs.Inner.Scorers.{least_doc_of, no_scorer}
use Rattle.ordering.proofs.Seeking.{Lowering, lowers, lowest}
use Rattle.ordering.specs.Inner.Rows.{Readable}
use Rattle.slot_pivot.specs.Inner.Terms.{term_in}
use Rattle.ordering.proofs.Rows.{map_at, read_at, reading}
use Rattle.slot_pivot.proofs.pivot.least_doc.Goals as goal
use Rattle.slot_pivot.proofs.pivot.least_doc.Goals.{After-doc-doc, In-loop-i, Start}

long : (a : Start) (lists : List (List ℕ)) → a.args.n ≤ length (map (term_in lists a.args.places.now a.args.blocks.now) a.args.order.now)
long a lists = omega (arith, length-map a.args.order.now (term_in lists a.args.places.now a.args.blocks.now), a.told-order)

read : (c : In-loop-i) → Readable c.args.places.now (get_or c.args.order.now c.loop-i.i 0)
read c = read_at c.requires.1 (reading c.requires.2 c.told-order) c.loop-i.i (omega arith)

-- one document more
lower : (c : After-doc-doc) → ((least' : ℕ) → least' ≡ min c.doc-doc.result c.loop-i.least → (c.loop-i.i + 1 ≤ c.args.n) × ((lists : List (List ℕ)) → Lowering (map (term_in lists c.args.places.now c.args.blocks.now) c.args.order.now) c.args.n (least_doc_of c.args.from (drop c.args.len (take c.args.n (map (term_in lists c.args.places.now c.args.blocks.now) c.args.order.now)))) least' (c.loop-i.i + 1)))
lower c least' e =
    (omega arith, λ lists. lowers _ _ _ (omega (arith, length-map c.args.order.now (term_in lists c.args.places.now c.args.blocks.now), c.told-order)) (c.loop-i.invariant.1 lists) (omega arith) (rw (map_at (term_in lists c.args.places.now c.args.blocks.now) c.args.order.now c.loop-i.i 0 no_scorer (omega (arith, c.told-order))) (rw c.doc-doc.ensures at e)))

pub loop-i-init : goal.loop-i-init
loop-i-init c = (omega arith, λ lists. record { inside = omega arith; whole = refl })

pub doc-doc-requires : goal.doc-doc-requires
doc-doc-requires c = let R = read (goal.at.doc-doc-requires c).In-loop-i in (R.slot-in, R.inside)

pub loop-i-preserved : goal.loop-i-preserved
loop-i-preserved c = lower (goal.at.loop-i-preserved c).After-doc-doc _ (omega arith)

pub returns : goal.returns
returns c =
    λ lists. lowest _ _ _ (long (goal.at.returns c).Start lists) (c.loop-i.invariant.1 lists) (omega arith)
