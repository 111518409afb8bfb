-- `go` meets its contract: each turn of its loop comes to the least document, and takes it.
use mathlib.Core.List.{List}
use mathlib.Core.Path.{◌≡◌, sym, ◌∙◌}
use Prim.Native.Nat.{◌+◌, ◌-◌, ◌≤◌, ◌<◌, ℕ}
use native.Mathlib.Omega.{arith}
use Rattle.route.proofs.Cases.{lt_of_ne}
use Rattle.reports.proofs.TurnLaws.{none_yet}
use Rattle.term_scorer.specs.Inner.Slots.{held, Held}
use Rattle.plain_scan.proofs.Beginning.{with-heads}
use Rattle.plain_scan.proofs.Scanning.{Upward, ahead, gone-on, passes, stands-next, stops-due, stops-early, stops-over, stops-paused, to-document}
use Rattle.plain_scan.proofs.go.Goals as goal
use Rattle.plain_scan.proofs.go.Goals.{After-least-doc, After-take_document-found, Else-doc-eq-TERMINATED, Else-taken-turns, Else-turns-taken}

-- the slots and the heads that a document's taking left
abbrev moved : After-take_document-found → Held
moved d = held d.take_document-found.new.places d.take_document-found.new.blocks

abbrev heads' : After-take_document-found → List ℕ
heads' d = d.take_document-found.new.heads

ahead_of : (g : After-least-doc) → (g.loop-taken.at ≤ g.least-doc.result) × (g.least-doc.result ≤ 2147483647)
ahead_of g = ahead _ _ _ _ _ g.loop-taken.invariant g.least-doc.ensures

-- the scan has come to the least document
at_least : (x : Else-turns-taken)
    → (Upward x.args.leg.similarity.scoring x.args.file.now x.args.lists.now x.args.plain.len x.args.plain.all x.args.leg.threshold x.args.leg.turns x.args.plain.doc
    (x.loop-taken.taken + (x.least-doc.result - x.loop-taken.at)) x.least-doc.result (held x.loop-taken.places x.loop-taken.blocks) x.loop-taken.heads)
at_least x =
    let o = ahead _ _ _ _ _ x.loop-taken.invariant x.least-doc.ensures in
    let w = x.loop-taken.invariant.within in
    let m : x.loop-taken.at + (x.least-doc.result - x.loop-taken.at) ≡ x.least-doc.result = omega (arith, o.0) in
    rw m at (to-document _ _ _ _ _ x.loop-taken.invariant x.least-doc.ensures (x.least-doc.result - x.loop-taken.at) (omega (arith, m)) (omega (arith, x.if-turns-taken.false, w)))

live : (e : Else-doc-eq-TERMINATED) → e.least-doc.result < 2147483647
live e = lt_of_ne (ahead _ _ _ _ _ e.loop-taken.invariant e.least-doc.ensures).1 e.if-doc-eq-TERMINATED.false

more : (x : Else-taken-turns)
    → (x.loop-taken.taken + (x.least-doc.result - x.loop-taken.at) < x.args.leg.turns)
more x = lt_of_ne (omega (arith, x.if-turns-taken.false, x.loop-taken.invariant.within)) x.if-taken-turns.false

pub loop-taken-init : goal.loop-taken-init
loop-taken-init c =
    let P = c.requires.1 in
    record {
      standing = with-heads c.args.leg.similarity.scoring _ _ _ _ c.args.plain P c.heads_of-heads.ensures;
      quietly = none_yet _ _ _ c.args.plain.doc;
      cap = P.cap;
      within = omega arith;
    }

pub overflow_sub-gap : goal.overflow_sub-gap
overflow_sub-gap c = omega (arith, (ahead_of c).0)

pub returns-then-turns-taken : goal.returns-then-turns-taken
returns-then-turns-taken c =
    let z = stops-early _ _ _ _ _ c.loop-taken.invariant c.least-doc.ensures c.if-turns-taken.true in
    gone-on c.args.leg.similarity.scoring _ _ _ c.args.plain c.requires.1 z.0.standing z.0.cap z.1 c.stand.ensures

pub returns-then-doc-eq-TERMINATED : goal.returns-then-doc-eq-TERMINATED
returns-then-doc-eq-TERMINATED c =
    let U = at_least (goal.at.returns-then-doc-eq-TERMINATED c).Else-turns-taken in
    gone-on c.args.leg.similarity.scoring _ _ _ c.args.plain c.requires.1 U.standing U.cap (stops-over _ _ _ _ _ U c.if-doc-eq-TERMINATED.true) c.stand-then-doc-eq-TERMINATED.ensures

pub returns-then-taken-turns : goal.returns-then-taken-turns
returns-then-taken-turns c =
    let U = at_least (goal.at.returns-then-taken-turns c).Else-turns-taken in
    gone-on c.args.leg.similarity.scoring _ _ _ c.args.plain c.requires.1 U.standing U.cap (stops-paused _ _ _ _ _ U (live (goal.at.returns-then-taken-turns c).Else-doc-eq-TERMINATED) c.if-taken-turns.true) c.stand-then-taken-turns.ensures

pub take_document-found-requires : goal.take_document-found-requires
take_document-found-requires c =
    (c.requires.1.few, c.requires.0, c.requires.1.weighed, (at_least (goal.at.take_document-found-requires c).Else-turns-taken).standing, live (goal.at.take_document-found-requires c).Else-doc-eq-TERMINATED)

pub overflow_add-at : goal.overflow_add-at
overflow_add-at c = omega (arith, live (goal.at.overflow_add-at c).Else-doc-eq-TERMINATED)

pub returns-then-due : goal.returns-then-due
returns-then-due c =
    let T = c.take_document-found.ensures in
    gone-on c.args.leg.similarity.scoring _ _ _ c.args.plain c.requires.1 {h' = moved (goal.at.returns-then-due c).After-take_document-found} {heads' = heads' (goal.at.returns-then-due c).After-take_document-found} (stands-next _ _ _ _ _ (at_least (goal.at.returns-then-due c).Else-turns-taken) (live (goal.at.returns-then-due c).Else-doc-eq-TERMINATED) (more (goal.at.returns-then-due c).Else-taken-turns) {h' = moved (goal.at.returns-then-due c).After-take_document-found} {heads' = heads' (goal.at.returns-then-due c).After-take_document-found} T) (omega (arith, live (goal.at.returns-then-due c).Else-doc-eq-TERMINATED))
    (stops-due _ _ _ _ _ (at_least (goal.at.returns-then-due c).Else-turns-taken) (live (goal.at.returns-then-due c).Else-doc-eq-TERMINATED) (more (goal.at.returns-then-due c).Else-taken-turns) {h' = moved (goal.at.returns-then-due c).After-take_document-found} {heads' = heads' (goal.at.returns-then-due c).After-take_document-found} T (sym c.due.ensures ∙ c.if-due.true)) c.stand-then-due.ensures

pub loop-taken-smaller : goal.loop-taken-smaller
loop-taken-smaller c =
    omega (arith, live (goal.at.loop-taken-smaller c).Else-doc-eq-TERMINATED, (ahead_of (goal.at.loop-taken-smaller c).After-least-doc).0)

pub loop-taken-preserved : goal.loop-taken-preserved
loop-taken-preserved c =
    passes _ _ _ _ _ (at_least (goal.at.loop-taken-preserved c).Else-turns-taken) (live (goal.at.loop-taken-preserved c).Else-doc-eq-TERMINATED) (more (goal.at.loop-taken-preserved c).Else-taken-turns) {h' = moved (goal.at.loop-taken-preserved c).After-take_document-found} {heads' = heads' (goal.at.loop-taken-preserved c).After-take_document-found} c.take_document-found.ensures (sym c.due.ensures ∙ c.if-due.false)
