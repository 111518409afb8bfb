-- A run that has returned is what 01's table says.
use mathlib.Core.Path.{◌≡◌, refl, sym, ap, ◌∙◌, subst}
use mathlib.Core.Bool.{Bool}
use mathlib.Core.List.{List, []}
use Prim.Native.Nat.{ℕ}
use lib.Ieee.{Float}
use Rattle.route.specs.F32.{f32}
use Rattle.route.specs.Report.{Report}
use Rattle.route.specs.Rule as rules
use Rattle.route.specs.Route.{Ends}
use Rattle.route.proofs.Agree.{has-list}
use Rattle.bm25.specs.declared.Scoring.{Scoring}
use Rattle.notefile.specs.Header.{documents}
use Rattle.rule.specs.declared.Rule.{Rule}
use Rattle.reports.specs.Rows.{Rows}
use Rattle.reports.specs.Inner.Runs.{callback_of, run_after, Ran}
use Rattle.reports.proofs.RunLaws.{ran-limited}
use Rattle.decoded.specs.Lists.{queried}
use Rattle.term_scorer.specs.Inner.Weights.{FloatRows}
use Rattle.query.specs.Inner.Openings as opening
use Rattle.driver.specs.Inner.Drives.{Drives}
use Rattle.machine.specs.Inner.Places.{Place, machine_from}
use Rattle.machine.specs.Inner.Stands.{place_in, Tables}
use Rattle.driver.specs.declared.Driven.{Driven}
use Rattle.machine.specs.declared.Task.{Task}
use Rattle.machine.proofs.Embeds.{machine-stays}
use Rattle.request.specs.Request.{Request, asked, mode_of}
use Rattle.request.proofs.Requests.{Let}
use Rattle.request.specs.Lists.{plain_list}
use Rattle.beginning.specs.Inner.Begins.{begun_tables, ListFor, TaskBegun}
use Rattle.beginning.specs.declared.Settings.{Settings}
use Rattle.beginning.specs.declared.Way.{Way}
use Rattle.beginning.specs.declared.Way.TheVariants.{Plain, Skipping}
use Rattle.beginning.proofs.Queries.{all-ok}
use Rattle.outcome.specs.Outcomes.{number_of, count_of}
use Rattle.outcome.specs.Inner.Finished.{finished}
use Rattle.outcome.specs.declared.Outcome.{Outcome}
use Rattle.outcome.proofs.ByNumber.{number-finished, count-finished}
use Rattle.ranking.specs.Answers.{Answered}
use Rattle.ranking.specs.Inner.Runs.{Listed}

-- the list of a request that was let through
has_one : (way : Way) (q : Request) → Let q → (list : List (Report Float)) × ListFor way q list
has_one Plain q t = (plain_list q, refl)
has_one Skipping q t =
    has-list 128 f32 (callback_of q.rule q.script) [] (documents q.file) (mode_of q.mode) (queried q.scoring q.file q.query)
    (all-ok q.scoring q.file t.accepted q.query t.named)

-- a run that the machine went, from where the list that is asked for is its own
pub driven-listed : (way : Way) (q : Request) → Let q → {p : Place} {place : Place} {full : Bool} {count : ℕ} {old new : Rows}
    → ((list : List (Report Float)) → ListFor way q list → Ends (callback_of q.rule q.script) (machine_from p) [] list)
    → Ran (machine_from p) q.rule q.script old.documents old.scores full count new.documents new.scores place
    → {r : Outcome} → r ≡ finished full count → Listed way q old r new
driven-listed way q t {p} {full = full} {count} {old} {new} lists R {r} e =
    let z = has_one way q t in
    let rs = (run_after (machine_from p) q.rule q.script R.steps).state in
    record {
      list = z.0;
      list-for = z.1;
      answered = subst (λ (a : rules.Outcome Float). Answered a old r new)
          (ran-limited (machine_from p) q.rule q.script old.documents old.scores (machine-stays p) R z.0 (lists z.0 z.1))
          (record {
            number_is = ap number_of e ∙ number-finished full count;
            count-is = ap count_of e ∙ count-finished full count ∙ R.count-is;
            written = R.written;
          });
    }

-- and the run of a task as it was begun
pub begun-listed : (settings : Settings) (file query : List ℕ) (script : List Float)
    → Let (asked file query settings.mode settings.scoring settings.rule script) → {opened : opening.Tables} {order : List ℕ} {task : Task} → TaskBegun settings file query opened order task
    → {floats : List (List Float)} → FloatRows floats → {old new : Rows} {after : Tables} {d : Driven}
    → Drives file script opened.lists opened.norms task (begun_tables opened order floats) old.documents old.scores after new.documents new.scores d
    → {r : Outcome} → r ≡ finished d.full d.count → Listed settings.way (asked file query settings.mode settings.scoring settings.rule script) old r new
begun-listed settings file query script t {opened} {order} {task} T {floats} rows {old} {new} {after} {d} D e =
    let at = place_in file task.similarity opened.lists opened.norms in
    let p : Place = at (begun_tables opened order floats) task.machine in
    let place : Place = at after d.machine in
    let way = settings.way in
    let rule = settings.rule in
    driven-listed way (asked file query settings.mode settings.scoring rule script) t {p = p} {place = place} {full = d.full} {count = d.count} {old = old} {new = new}
    (λ list l. (T.began floats rows).list-is rule script list
    (subst (λ (s : Scoring). ListFor way (asked file query settings.mode s rule script) list) (sym T.scoring-is) l))
    (subst (λ (z : Rule). Ran (machine_from p) z script old.documents old.scores d.full d.count new.documents new.scores place) T.rule-is D.ran) e
