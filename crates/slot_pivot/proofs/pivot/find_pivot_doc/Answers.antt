-- `pivot::find_pivot_doc` meets its contract: the two loops give the places, and the tests between them are the definition's.
use mathlib.Core.List.{map, List}
use mathlib.Core.Path.{ap, sym, ◌∙◌, ◌≡◌}
use Prim.Native.Nat.{ℕ, ◌≤◌}
use native.Mathlib.Omega.{arith}
use lib.ListN.{get_or, length, length-map, take}
use Rattle.route.specs.F32.{f32}
use Rattle.ordering.specs.Inner.Pivots.{before_pivot, pivot}
use Rattle.ordering.specs.Inner.Scorers.{no_scorer}
use Rattle.std.specs.Prelude.{Some}
use Rattle.term_scorer.specs.declared.TermScorer.{TermScorer}
use Rattle.ordering.proofs.Pivoting.{none-exceeds, finished, found}
use Rattle.ordering.specs.Inner.Rows.{Readable, doc_at}
use Rattle.slot_pivot.specs.Inner.Terms.{term_in}
use Rattle.ordering.proofs.Rows.{map_at, read_at, reading}
use Rattle.slot_pivot.proofs.pivot.find_pivot_doc.Goals as goal
use Rattle.slot_pivot.proofs.pivot.find_pivot_doc.Goals.{After-before_pivot-before_pivot_len, After-doc-pivot_doc, Else-n-before_pivot_len, Start}

abbrev scorers : Start → List TermScorer
scorers a = map (term_in a.args.lists.now a.args.places.now a.args.blocks.now) a.args.order.now

long : (a : Start) → a.args.n ≤ length (scorers a)
long a = omega (arith, length-map a.args.order.now (term_in a.args.lists.now a.args.places.now a.args.blocks.now), a.told-order)

before-is : (b : After-before_pivot-before_pivot_len) → b.before_pivot-before_pivot_len.result ≡ before_pivot b.args.threshold f32.nil (take b.args.n (map (term_in b.args.lists.now b.args.places.now b.args.blocks.now) b.args.order.now))
before-is b = b.before_pivot-before_pivot_len.ensures b.args.places.now b.args.blocks.now

read : (e : Else-n-before_pivot_len) → Readable e.args.places.now (get_or e.args.order.now e.before_pivot-before_pivot_len.result 0)
read e = read_at e.requires.0 (reading e.requires.2 e.told-order) e.before_pivot-before_pivot_len.result e.if-n-before_pivot_len.false

-- the document at the pivot's place
here-is : (d : After-doc-pivot_doc) → ((get_or (map (term_in d.args.lists.now d.args.places.now d.args.blocks.now) d.args.order.now) d.before_pivot-before_pivot_len.result no_scorer).doc ≡ d.doc-pivot_doc.result)
here-is d =
    rw (map_at (term_in d.args.lists.now d.args.places.now d.args.blocks.now) d.args.order.now d.before_pivot-before_pivot_len.result 0 no_scorer (omega (arith, d.told-order))) (sym {b = doc_at d.args.places.now d.args.blocks.now (get_or d.args.order.now d.before_pivot-before_pivot_len.result 0)} d.doc-pivot_doc.ensures)

pub before_pivot-before_pivot_len-requires : goal.before_pivot-before_pivot_len-requires
before_pivot-before_pivot_len-requires c =
    (c.requires.0, c.requires.1)

pub returns-then-n-before_pivot_len : goal.returns-then-n-before_pivot_len
returns-then-n-before_pivot_len c =
    none-exceeds c.args.threshold (scorers (goal.at.returns-then-n-before_pivot_len c).Start) _ _ (before-is (goal.at.returns-then-n-before_pivot_len c).After-before_pivot-before_pivot_len) c.if-n-before_pivot_len.true

pub doc-pivot_doc-requires : goal.doc-pivot_doc-requires
doc-pivot_doc-requires c = let R = read (goal.at.doc-pivot_doc-requires c).Else-n-before_pivot_len in (R.slot-in, R.inside)

pub returns-then-pivot_doc-eq-TERMINATED : goal.returns-then-pivot_doc-eq-TERMINATED
returns-then-pivot_doc-eq-TERMINATED c =
    finished c.args.threshold (scorers (goal.at.returns-then-pivot_doc-eq-TERMINATED c).Start) _ _ (before-is (goal.at.returns-then-pivot_doc-eq-TERMINATED c).After-before_pivot-before_pivot_len) (omega arith) (long (goal.at.returns-then-pivot_doc-eq-TERMINATED c).Start) (here-is (goal.at.returns-then-pivot_doc-eq-TERMINATED c).After-doc-pivot_doc ∙ c.if-pivot_doc-eq-TERMINATED.true)

pub end_of_pivot-pivot_len-requires : goal.end_of_pivot-pivot_len-requires
end_of_pivot-pivot_len-requires c =
    (omega arith, c.requires.0, c.requires.2)

pub returns : goal.returns
returns c =
    let q = here-is (goal.at.returns c).After-doc-pivot_doc in
    ap (λ (x : ℕ). Some (pivot c.before_pivot-before_pivot_len.result c.end_of_pivot-pivot_len.result x)) (sym q)
    ∙ found c.args.threshold (scorers (goal.at.returns c).Start) _ _ (before-is (goal.at.returns c).After-before_pivot-before_pivot_len) (omega arith) (long (goal.at.returns c).Start) (λ z. c.if-pivot_doc-eq-TERMINATED.false (sym q ∙ z)) (rw q (c.end_of_pivot-pivot_len.ensures c.args.lists.now))
