-- `answer` meets its contract: the run begins at its route's first place, and is driven to its end.
use mathlib.Core.Path.{sym, subst}
use borrow.Author.Rules.{rules}
use lib.Ieee.{of_bits}
use Rattle.route.specs.F32.{f32}
use Rattle.rule.specs.Inner.Follows.{Keeps}
use Rattle.rulecheck.proofs.RightRules.{keeps}
use Rattle.reports.specs.Rows.{rows}
use Rattle.query.specs.Inner.Openings as opening
use Rattle.machine.specs.Inner.Stands.{tables}
use Rattle.request.specs.Request.{Request, asked}
use Rattle.request.proofs.Requests.{Let, let_through}
use Rattle.beginning.proofs.Beginning.{made-rows}
use Rattle.ranking.proofs.Finishing.{begun-listed}
use Rattle.ranking.proofs.answer.Goals as goal
use Rattle.ranking.proofs.answer.Goals.{Start}

-- what was asked
abbrev request : Start → Request
request a = let s = a.args.settings in asked a.args.file.now a.args.query.now s.mode s.scoring s.rule a.args.script.now

through : (a : Start) → Let (request a)
through a = let_through (request a) a.requires

pub begin-task-requires : goal.begin-task-requires
begin-task-requires c =
    let t = through (goal.at.begin-task-requires c).Start in (
      record { accepted = t.accepted; few = t.few; named = t.named; takes = t.takes },
      record { lists = search rules; norms = search rules; places = search rules; blocks = search rules },
    )

pub drive-r-requires : goal.drive-r-requires
unfolding of_bits
drive-r-requires c =
    let T = c.begin-task.ensures in
    let B = T.began _ (made-rows f32.nil) in
    let s = c.args.settings in
    (T.norms-are, subst Keeps (sym T.rule-is) (keeps s.rule s.scoring c.args.script.now (through (goal.at.drive-r-requires c).Start).rule-right), B.stands, B.kept)

pub returns : goal.returns
unfolding of_bits
returns c =
    begun-listed c.args.settings c.args.file.now c.args.query.now c.args.script.now (through (goal.at.returns c).Start)
    {opened = opening.tables c.begin-task.new.lists c.begin-task.new.norms c.begin-task.new.places c.begin-task.new.blocks} {order = c.begin-task.new.order} c.begin-task.ensures (made-rows f32.nil)
    {old = rows c.args.documents.now c.args.scores.now} {new = rows c.drive-r.new.documents c.drive-r.new.scores}
    {after = tables c.drive-r.new.order c.drive-r.new.places c.drive-r.new.blocks c.drive-r.new.floats} c.drive-r.ensures c.finish.ensures
