-- The plain scan as a route, one document a turn, and a scan that stands at a document.
use Rattle.std.specs.Prelude.{◌≡◌, Bool, true, false, cond, List, [], ℕ, suc, ◌≤◌, ◌<◌, leb, Float}
use Rattle.std.proofs.Math.Option.{Option, none, some}
use Rattle.route.specs.F32.{f32}
use Rattle.route.specs.Report.{Report, due_at}
use Rattle.route.specs.Postings.{TERMINATED}
use Rattle.route.specs.Route.{Route, Turn, quiet}
use Rattle.route.specs.Plain.{Mode, union, intersection, single, present}
use Rattle.bm25.specs.declared.Scoring.{Scoring}
use Rattle.reports.specs.Inner.Turns.{Went}
use Rattle.reports.specs.declared.Event.{Event}
use Rattle.term_scorer.specs.Inner.Slots.{Held, lists_from}
use Rattle.scan_heads.specs.Inner.Found.{found_of, hit_in}
use Rattle.plain_scan.specs.Inner.Heads.{AllWeighed, RestsFrom}
use Rattle.reports.specs.declared.Gone.{Gone}
use Rattle.plain_scan.specs.declared.Plain.{Plain}

-- in an intersection every list must have a document
abbrev pub needs_all : Mode → Bool
needs_all union = false
needs_all intersection = true
needs_all single = false

-- a document that matches is due where its sum is above the threshold
abbrev pub due_for : Float → ℕ → Option Float → Option (Report Float)
due_for t d none = none
due_for t d (some x) = due_at f32 t d x

-- a turn looks at one document, up to TERMINATED
abbrev pub scan_turn : (ℕ → Option Float) → Float → ℕ → Turn ℕ Float
scan_turn hits t d = cond (leb TERMINATED d) (quiet d []) (record { next = suc d; due = due_for t d (hits d); loads = [] })

-- the plain scan over documents that match as `hits` says
abbrev pub scan_route : (ℕ → Option Float) → Route Float
scan_route hits = record { Place = ℕ; first = 0; ended = leb TERMINATED; turn = scan_turn hits; scorers = λ d. [] }

-- the sum of a document of the first n slots, if it matches
abbrev pub hits_of : Scoring → List ℕ → List (List ℕ) → ℕ → Bool → ℕ → Option Float
hits_of scoring file lists n all d = hit_in all n (found_of (present d (lists_from scoring file lists 0 n)))

-- a scan as it stands still
abbrev pub gone_to : ℕ → Bool → ℕ → ℕ → Event → Gone Plain
gone_to len all doc taken event = record { to = record { len = len; all = all; doc = doc }; taken = taken; event = event }

module _ (scoring : Scoring) (file : List ℕ) (lists : List (List ℕ)) (norms : List (List Float)) where
  -- a scan stands at its document: no scorer has passed it
  pub record PlainStands (h : Held) (p : Plain) : Type 0 where
    pub few : p.len ≤ 16
    pub cap : p.doc ≤ TERMINATED
    pub weighed : AllWeighed lists norms p.len
    pub each : (q : ℕ) → q < p.len → RestsFrom scoring file lists p.doc h q

  -- it went on, over the same lists
  pub record GoneOn (t : Float) (turns : ℕ) (p : Plain) (h' : Held) (r : Gone Plain) : Type 0 where
    pub stands : PlainStands h' r.to
    pub len_is : r.to.len ≡ p.len
    pub all-is : r.to.all ≡ p.all
    pub went : Went (scan_turn (hits_of scoring file lists p.len p.all)) (leb TERMINATED) t p.doc turns r.taken r.to.doc r.event
