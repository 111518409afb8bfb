-- `drive` meets its contract: between two turns of its loop the run has gone its route so far, and has a row for each report.
use native.Mathlib.Omega.{arith}
use lib.Ieee.{of_bits}
use borrow.Author.Rules.{rules}
use Rattle.notefile.specs.Header as header
use Rattle.reports.proofs.RowLaws.{documents-long, scores-long}
use Rattle.machine.specs.Inner.Stands.{tables, place_in, Tables}
use Rattle.machine.proofs.Nearing.{cost_in}
use Rattle.machine.specs.Inner.Goes.{GoesOn}
use Rattle.driver.proofs.Driving.{Driving, by-leg, driving-begun, for-leg, has-row, pauses-nearer, pauses-on, reports-nearer, reports-on, stops-full, stops-over}
use Rattle.driver.proofs.drive.Goals as goal
use Rattle.driver.proofs.drive.Goals.{After-go_on-g}

-- the tables that `go_on` left
abbrev left_by : After-go_on-g → Tables
left_by g = let l = g.go_on-g.new in tables l.order l.places l.blocks l.floats

went : (g : After-go_on-g) → (GoesOn g.args.file.now g.args.task.similarity g.args.lists.now g.args.norms.now g.loop-doc.t.now 18446744073709551615
    (tables g.loop-doc.order g.loop-doc.places g.loop-doc.blocks g.loop-doc.floats) g.loop-doc.now (left_by g) g.go_on-g.result)
went g =
    by-leg g.args.file.now g.args.lists.now g.args.norms.now g.args.task.similarity g.loop-doc.t.now g.leg_to-leg.ensures
    {old = tables g.loop-doc.order g.loop-doc.places g.loop-doc.blocks g.loop-doc.floats} {new = left_by g} g.go_on-g.ensures

pub new-t-requires : goal.new-t-requires
new-t-requires c = c.requires.1

pub loop-doc-init : goal.loop-doc-init
unfolding of_bits
loop-doc-init c =
    driving-begun c.args.file.now c.args.script.now c.args.lists.now c.args.norms.now c.args.task _ _ _ c.requires.2 c.requires.3 (c.new-t.ensures c.args.script.now)

pub go_on-g-requires : goal.go_on-g-requires
go_on-g-requires c =
    for-leg c.args.file.now c.args.lists.now c.args.norms.now c.args.task.similarity c.loop-doc.t.now c.leg_to-leg.ensures (tables c.loop-doc.order c.loop-doc.places c.loop-doc.blocks c.loop-doc.floats) c.loop-doc.now (c.requires.0, c.loop-doc.invariant.stands)

pub shape_of-documents-then-t-room : goal.shape_of-documents-then-t-room
shape_of-documents-then-t-room c = documents-long c.loop-doc.invariant.going.kept.written

pub shape_of-scores-then-t-room : goal.shape_of-scores-then-t-room
shape_of-scores-then-t-room c = scores-long c.loop-doc.invariant.going.kept.written

pub returns-then-t-room : goal.returns-then-t-room
returns-then-t-room c =
    stops-full _ _ _ _ _ _ _ _ c.loop-doc.invariant {h' = left_by (goal.at.returns-then-t-room c).After-go_on-g} (went (goal.at.returns-then-t-room c).After-go_on-g) c.in-Report.is c.if-t-room.true c.rows-room.ensures c.stopped.ensures

pub report-t-requires : goal.report-t-requires
report-t-requires c =
    let r = has-row _ _ _ _ _ _ _ _ c.loop-doc.invariant c.if-t-room.false c.rows-room.ensures in
    (c.requires.1, r.1, r.2)

pub loop-doc-smaller-in-Report : goal.loop-doc-smaller-in-Report
loop-doc-smaller-in-Report c =
    reports-nearer _ _ _ _ _ _ _ _ c.loop-doc.invariant {h' = left_by (goal.at.loop-doc-smaller-in-Report c).After-go_on-g} (went (goal.at.loop-doc-smaller-in-Report c).After-go_on-g) c.in-Report.is

pub loop-doc-preserved-in-Report : goal.loop-doc-preserved-in-Report
loop-doc-preserved-in-Report c =
    reports-on _ _ _ _ _ _ _ _ c.loop-doc.invariant {h' = left_by (goal.at.loop-doc-preserved-in-Report c).After-go_on-g} (went (goal.at.loop-doc-preserved-in-Report c).After-go_on-g) c.in-Report.is c.if-t-room.false c.rows-room.ensures c.report-t.ensures

pub shape_of-documents-in-Over : goal.shape_of-documents-in-Over
shape_of-documents-in-Over c = documents-long c.loop-doc.invariant.going.kept.written

pub shape_of-scores-in-Over : goal.shape_of-scores-in-Over
shape_of-scores-in-Over c = scores-long c.loop-doc.invariant.going.kept.written

pub returns-in-Over : goal.returns-in-Over
returns-in-Over c =
    stops-over _ _ _ _ _ _ _ _ c.loop-doc.invariant {h' = left_by (goal.at.returns-in-Over c).After-go_on-g} (went (goal.at.returns-in-Over c).After-go_on-g) c.in-Over.is c.stopped-in-Over.ensures

pub loop-doc-smaller : goal.loop-doc-smaller
loop-doc-smaller c =
    pauses-nearer _ _ _ _ _ _ _ _ c.loop-doc.invariant {h' = left_by (goal.at.loop-doc-smaller c).After-go_on-g} (went (goal.at.loop-doc-smaller c).After-go_on-g) c.in-Paused.is (omega arith)

pub loop-doc-preserved : goal.loop-doc-preserved
loop-doc-preserved c =
    pauses-on _ _ _ _ _ _ _ _ c.loop-doc.invariant {h' = left_by (goal.at.loop-doc-preserved c).After-go_on-g} (went (goal.at.loop-doc-preserved c).After-go_on-g) c.in-Paused.is
