-- Where a run begins.
use Rattle.std.specs.Prelude.{◌≡◌, List, [], ℕ, ◌≤◌, length, get_or, take, Float}
use Rattle.route.specs.Report.{Report}
use Rattle.route.specs.Ordering.{retain}
use Rattle.route.specs.F32.{f32}
use Rattle.route.specs.Route.{Ends, Route}
use Rattle.route.specs.Skipping.{route}
use Rattle.route.specs.Inner.Rules.{Takes}
use Rattle.rule.specs.declared.Rule.{Rule}
use Rattle.ordering.specs.Inner.Scorers.{by_doc, no_scorer, Left}
use Rattle.ordering.specs.declared.Scorers.{Scorers}
use Rattle.term_scorer.specs.declared.TermScorer.{TermScorer}
use Rattle.notefile.specs.Header.{documents, norm_reader}
use Rattle.notefile.specs.Refusal.{file_refusal}
use Rattle.decoded.specs.Lists.{queried}
use Rattle.reports.specs.Inner.Runs.{callback_of}
use Rattle.term_scorer.specs.Inner.Weights.{FloatRows}
use Rattle.term_scorer.specs.declared.score.Similarity.{Similarity}
use Rattle.query.specs.Inner.Openings as opening
use Rattle.query.specs.Inner.Openings.{Named, QueryOpened}
use Rattle.single_hunt.specs.declared.Phase.TheVariants.{Hunt}
use Rattle.union_moves.specs.Inner.Seats.{alive}
use Rattle.block_wand_union.specs.Inner.Runs.{Begins}
use Rattle.union_turn.specs.declared.Union.{Union}
use Rattle.plain_scan.specs.Inner.Turns.{needs_all}
use Rattle.machine.specs.Inner.Places.{machine_from, Place, Runs}
use Rattle.machine.specs.Inner.Kept.{KeptIn}
use Rattle.machine.specs.Inner.Stands.{Tables, place_in, StandsIn}
use Rattle.machine.specs.declared.Machine.{Machine}
use Rattle.machine.specs.declared.Machine.TheVariants as mode
use Rattle.machine.specs.declared.Task.{Task}
use Rattle.request.specs.Request.{Request, asked, mode_of}
use Rattle.request.specs.Lists.{plain_list, SkippingList}
use Rattle.request.specs.declared.Mode.{Mode}
use Rattle.beginning.specs.declared.Settings.{Settings}
use Rattle.beginning.specs.declared.Way.{Way}
use Rattle.beginning.specs.declared.Way.TheVariants.{Plain, Skipping}

-- the list of a request's skipping run, or of its plain scan
abbrev pub ListFor : Way → Request → List (Report Float) → Type 0
ListFor Skipping q list = SkippingList q list
ListFor Plain q list = list ≡ plain_list q

-- the plain scan of the first n slots, from document 0
abbrev pub plain_from : Mode → ℕ → Machine
plain_from m n = mode.Plain (record { len = n; all = needs_all (mode_of m); doc = 0 })

-- the single scan over a scorer's list, from where it stands
abbrev pub single_from : TermScorer → Machine
single_from s = mode.Single (record { slot = s.slot; doc = s.doc; phase = Hunt })

-- a request that was let through, but for its rule
pub record Right (file query : List ℕ) (m : Mode) : Type 0 where
  pub accepted : file_refusal file ≡ 0
  pub few : length query ≤ 16
  pub named : Named file query
  pub takes : Takes (mode_of m) (length query)

-- the query's lists are open, each in its slot
abbrev pub Opens : Similarity → List ℕ → List ℕ → opening.Tables → List TermScorer → Type 0
Opens similarity file query opened scorers = QueryOpened similarity.scoring file query (length query) opened scorers

-- of the scorers that have a document: the single scan of one, or the union of none or several
pub data UnionBegun (scorers : List TermScorer) (n : ℕ) : Machine → List ℕ → List ℕ → Type 0 where
  one_left : {order : List ℕ} (live : Scorers) → Left (retain by_doc (take n scorers)) n live → live.len ≡ 1
      → UnionBegun scorers n (single_from (get_or live.scorers 0 no_scorer)) order order
  some_left : {order order' : List ℕ} {u : Union} (live : Scorers) → Left (retain by_doc (take n scorers)) n live → (live.len ≡ 1 → ⊥)
      → Begins (alive live) live.len u order' → UnionBegun scorers n (mode.Union u) order order'

-- the tables of a run that begins, whatever the floats hold
abbrev pub begun_tables : opening.Tables → List ℕ → List (List Float) → Tables
begun_tables opened order floats = record { order = order; held = opened.held; floats = floats }

-- a skipping run goes its mode's route turn by turn; a plain scan goes none
abbrev pub RunsFor : Way → Route Float → Place → Type 0
RunsFor Skipping W p = Runs W p
RunsFor Plain W p = Unit {0}

-- A RUN BEGINS AT ITS ROUTE'S FIRST PLACE: the machine stands, a skipping run goes the route of its mode and lists from there,
-- and from its place its list is the one that is asked for.
pub record BeganWith (way : Way) (similarity : Similarity) (file query : List ℕ) (m : Mode) (opened : opening.Tables) (h : Tables) (r : Machine) : Type 0 where
  pub stands : StandsIn file similarity opened.lists opened.norms h r
  pub kept : KeptIn (documents file) (place_in file similarity opened.lists opened.norms h r)
  pub runs-are : RunsFor way (route 128 f32 (mode_of m) (queried similarity.scoring file query)) (place_in file similarity opened.lists opened.norms h r)
  pub list-is : (rule : Rule) (script : List Float) (list : List (Report Float)) → ListFor way (asked file query m similarity.scoring rule script) list
      → Ends (callback_of rule script) (machine_from (place_in file similarity opened.lists opened.norms h r)) [] list

abbrev pub Began : Way → Similarity → List ℕ → List ℕ → Mode → opening.Tables → List ℕ → Machine → Type 0
Began way similarity file query m opened order r =
    (floats : List (List Float)) → FloatRows floats → BeganWith way similarity file query m opened (begun_tables opened order floats) r

-- the task of a run by its settings: the file's norms, the scoring and the rule that are asked for, and the machine as it begins
pub record TaskBegun (settings : Settings) (file query : List ℕ) (opened : opening.Tables) (order : List ℕ) (r : Task) : Type 0 where
  pub norms-are : r.similarity.norms ≡ norm_reader file
  pub scoring-is : r.similarity.scoring ≡ settings.scoring
  pub rule-is : r.rule ≡ settings.rule
  pub began : Began settings.way r.similarity file query settings.mode opened order r.machine
