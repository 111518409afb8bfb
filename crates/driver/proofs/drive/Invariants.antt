-- `drive` meets its contract: between two turns of its loop the run has gone its route so far, and has a row for each report.
use Rattle.notefile.specs.Header as header
use Rattle.machine.specs.Inner.Stands.{tables, place_in}
use Rattle.machine.proofs.Nearing.{cost_in}
use Rattle.driver.proofs.Driving.{Driving}
use Rattle.driver.proofs.drive.Given as goal

abbrev pub invariant-loop-doc : goal.invariant-loop-doc
invariant-loop-doc l =
    Driving l.file l.script l.lists l.norms (record { similarity = l.task.similarity; machine = l.initial.now; rule = l.rule }) (tables l.initial.order l.initial.places l.initial.blocks l.initial.floats) l.initial.documents l.initial.scores
    l.t l.best (tables l.order l.places l.blocks l.floats) l.now l.documents l.scores

abbrev pub decreases-loop-doc : goal.decreases-loop-doc
decreases-loop-doc l =
    cost_in (header.documents l.file) (place_in l.file l.task.similarity l.lists l.norms (tables l.order l.places l.blocks l.floats) l.now)
