-- The scorers of an intersection, each in its slot, and their order: the leader first, then the secondaries.
use Rattle.std.specs.Prelude.{◌≡◌, List, map, ℕ, ◌≤◌, ◌<◌, get_or, take, drop, Float}
use Rattle.std.specs.Float.{nan}
use Rattle.fieldnorm.specs.declared.FieldNormReader.{FieldNormReader}
use Rattle.route.specs.F32.{f32}
use Rattle.route.specs.Score.{sum_back}
use Rattle.route.specs.Postings.{Postings}
use Rattle.route.specs.Scorer.{Scorer}
use Rattle.route.specs.Intersection.{Stage, InterPlace}
use Rattle.bm25.specs.declared.Scoring.{Scoring}
use Rattle.notefile.specs.Header.{norm_reader}
use Rattle.term_scorer.specs.Inner.Slots.{Held, Sixteen, SlotIn, cursor_at, list_at}
use Rattle.term_scorer.specs.Inner.Weights.{Weighed, BoundKept, FloatRow, ScoresKept}
use Rattle.term_scorer.specs.declared.score.Similarity.{Similarity}

-- what a run has of its query and does not change: the lists by slot with their norms, how many, and the slots in the scorers' order
pub record Query : Type 0 where
  pub reader : FieldNormReader
  pub scoring : Scoring
  pub file : List ℕ
  pub lists : List (List ℕ)
  pub norms : List (List Float)
  pub len : ℕ
  pub order : List ℕ

abbrev pub query : Similarity → List ℕ → List (List ℕ) → List (List Float) → ℕ → List ℕ → Query
query similarity file lists norms len order = record {
  reader = similarity.norms;
  scoring = similarity.scoring;
  file = file;
  lists = lists;
  norms = norms;
  len = len;
  order = order;
}

-- the slot of the scorer at a place of the order
abbrev pub slot_at : Query → ℕ → ℕ
slot_at x i = get_or x.order i 0

module _ (x : Query) where
  -- the route's list in slot q, and its scorer
  abbrev pub list_in : ℕ → Postings Float
  list_in q = list_at x.scoring x.file x.lists q

  abbrev pub scorer_at : List (List ℕ) → ℕ → Scorer Float
  scorer_at places q = record { ord = q; list = list_in q; cur = cursor_at places q }

  -- those from place a of the order on, up to place b
  abbrev pub scorers_between : List (List ℕ) → ℕ → ℕ → List (Scorer Float)
  scorers_between places a b = map (scorer_at places) (drop a (take b x.order))

  -- the Rust's `leader` and `secondaries`
  abbrev pub leader_in : List (List ℕ) → Scorer Float
  leader_in places = scorer_at places (slot_at x 0)

  abbrev pub secondaries_in : List (List ℕ) → List (Scorer Float)
  secondaries_in places = scorers_between places 1 x.len

  -- the route's place, at a stage and a document
  abbrev pub place_at : List (List ℕ) → Stage Float → ℕ → InterPlace Float
  place_at places stage d = record { stage = stage; doc = d; leader = leader_in places; secs = secondaries_in places }

  -- each of the slots stands at one place of the order, with its list's norms
  pub record InOrder : Type 0 where
    pub long : Sixteen x.order
    pub few : x.len ≤ 16
    pub leader : 0 < x.len
    pub below : (i : ℕ) → i < x.len → slot_at x i < x.len
    pub apart : (i j : ℕ) → i < x.len → j < x.len → slot_at x i ≡ slot_at x j → i ≡ j
    pub norms-are : x.reader ≡ norm_reader x.file
    pub weighed : (q : ℕ) → q < x.len → Weighed x.lists x.norms q

  -- each slot's scorer stands in its list
  pub record SlotsIn (h : Held) : Type 0 where
    pub sixteen : Sixteen h.places × Sixteen h.blocks
    pub slot : (q : ℕ) → q < x.len → SlotIn x.file x.lists h q

  -- block bounds that are known are kept
  abbrev pub BoundsKept : List (List ℕ) → List Float → Type 0
  BoundsKept places bounds = (q : ℕ) → q < x.len → BoundKept x.scoring x.file x.lists places bounds q

  -- whatever bounds are kept stay so
  abbrev pub StillKept : List (List ℕ) → List (List ℕ) → Type 0
  StillKept places places' = (bounds : List Float) → BoundsKept places bounds → BoundsKept places' bounds

  -- where the scores of slot q's decoded block are made, they stand in its row, and they still do
  abbrev pub ScoredIn : ℕ → List (List ℕ) → List (List Float) → Type 0
  ScoredIn q places floats = ScoresKept x.scoring x.file x.lists places floats q

  abbrev pub StillScored : ℕ → List (List ℕ) → List (List ℕ) → Type 0
  StillScored q places places' = (floats : List (List Float)) → ScoredIn q places floats → ScoredIn q places' floats

-- a run's arrays between two of its steps
pub record Ready (x : Query) (h : Held) (bounds : List Float) : Type 0 where
  pub seated : SlotsIn x h
  pub kept : BoundsKept x h.places bounds
  pub long : FloatRow bounds

-- behind the secondary at place k of the order, the sum from the right of the bounds of those that follow
abbrev pub Rests : ℕ → List Float → List Float → Type 0
Rests len bs rests = (k : ℕ) → 1 ≤ k → k < len → get_or rests k nan ≡ sum_back f32 (drop k bs)
