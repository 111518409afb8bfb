-- `pivot::end_of_pivot` meets its contract: each turn passes one more scorer on the document.
use mathlib.Core.List.{List, map}
use mathlib.Core.Path.{refl, sym, ◌∙◌, ◌≡◌}
use Prim.Native.Nat.{ℕ, ◌≤◌}
use native.Mathlib.Omega.{arith}
use lib.ListN.{get_or, length, length-map}
use Rattle.ordering.specs.Inner.Scorers.{no_scorer}
use Rattle.term_scorer.specs.declared.TermScorer.{TermScorer}
use Rattle.ordering.proofs.Pivoting.{leaves, runs, runs-out}
use Rattle.ordering.specs.Inner.Rows.{Readable, doc_at}
use Rattle.slot_pivot.specs.Inner.Terms.{term_in}
use Rattle.ordering.proofs.Rows.{map_at, read_at, reading, read_is, read-not}
use Rattle.slot_pivot.proofs.pivot.end_of_pivot.Goals as goal
use Rattle.slot_pivot.proofs.pivot.end_of_pivot.Goals.{In-loop-i, Start}

abbrev scorers : Start → List (List ℕ) → ℕ → TermScorer
scorers a lists = term_in lists a.args.places.now a.args.blocks.now

long : (a : Start) (lists : List (List ℕ)) → a.args.n ≤ length (map (scorers a lists) a.args.order.now)
long a lists = omega (arith, length-map a.args.order.now (scorers a lists), a.told-order)

read : (c : In-loop-i) → Readable c.args.places.now (get_or c.args.order.now c.loop-i.i 0)
read c = read_at c.requires.1 (reading c.requires.2 c.told-order) c.loop-i.i (omega arith)

pub loop-i-init : goal.loop-i-init
loop-i-init c = (omega arith, λ lists. record { inside = omega arith; whole = refl })

pub doc-requires : goal.doc-requires
doc-requires c = let R = read (goal.at.doc-requires c).In-loop-i in (R.slot-in, R.inside)

pub returns-then-doc : goal.returns-then-doc
returns-then-doc c =
    λ lists. leaves _ _ _ _ (long (goal.at.returns-then-doc c).Start lists) (c.loop-i.invariant.1 lists) (omega arith) (rw (map_at (scorers (goal.at.returns-then-doc c).Start lists) c.args.order.now c.loop-i.i 0 no_scorer (omega (arith, c.told-order))) (read-not (doc_at c.args.places.now c.args.blocks.now (get_or c.args.order.now c.loop-i.i 0)) c.doc.ensures c.if-doc.true))

pub loop-i-preserved : goal.loop-i-preserved
loop-i-preserved c =
    (omega arith, λ lists. runs _ _ _ _ (long (goal.at.loop-i-preserved c).Start lists) (c.loop-i.invariant.1 lists) (omega arith) (rw (map_at (scorers (goal.at.loop-i-preserved c).Start lists) c.args.order.now c.loop-i.i 0 no_scorer (omega (arith, c.told-order))) (read_is (doc_at c.args.places.now c.args.blocks.now (get_or c.args.order.now c.loop-i.i 0)) c.doc.ensures c.if-doc.false)))

pub returns : goal.returns
returns c =
    let last : c.loop-i.i ≡ c.args.n = omega arith in
    λ lists. sym last ∙ runs-out _ _ _ _ (long (goal.at.returns c).Start lists) (c.loop-i.invariant.1 lists) (omega arith)
