-- The scorers of a union in their slots: what the tables hold of each, and the route's scorer that it stands for.
use Rattle.std.specs.Prelude.{◌≡◌, List, map, ℕ, ◌≤◌, ◌<◌, take, Float}
use Rattle.arrays.specs.Every.{All}
use Rattle.route.specs.Scorer.{Scorer}
use Rattle.bm25.specs.declared.Scoring.{Scoring}
use Rattle.ordering.specs.Inner.Scorers.{Apart}
use Rattle.ordering.specs.declared.Scorers.{Scorers}
use Rattle.term_scorer.specs.declared.TermScorer.{TermScorer}
use Rattle.notefile.specs.Lists.{full_blocks}
use Rattle.skip_reader.specs.Inner.Decoded.{doc_in}
use Rattle.term_scorer.specs.Inner.Slots.{cursor_at, Held, list_at, part_at, SlotIn}
use Rattle.term_scorer.specs.Inner.Weights.{FloatRows, KeptSlot}

-- how the lists' postings are scored, and the block bounds and scores that are kept
pub record Terms : Type 0 where
  pub scoring : Scoring
  pub norms : List (List Float)
  pub floats : List (List Float)

abbrev pub terms : Scoring → List (List Float) → List (List Float) → Terms
terms scoring norms floats = record { scoring = scoring; norms = norms; floats = floats }

-- the scorers of an array that are left
abbrev pub alive : Scorers → List TermScorer
alive z = take z.len z.scorers

-- slot q's skip reader has a block to stand on, so that its scorer can advance
abbrev pub Inside : List (List ℕ) → Held → ℕ → Type 0
Inside lists h q = (cursor_at h.places q).blk ≤ full_blocks (part_at lists q)

module _ (file : List ℕ) (lists : List (List ℕ)) where
  -- the route's scorer in slot q, whose number is its position
  abbrev pub slot_scorer : Scoring → List (List ℕ) → ℕ → Scorer Float
  slot_scorer scoring places q = record { ord = q; list = list_at scoring file lists q; cur = cursor_at places q }

  abbrev pub scorer_at : Scoring → List (List ℕ) → TermScorer → Scorer Float
  scorer_at scoring places s = slot_scorer scoring places s.slot

  -- the code's scorer in slot q, on the document of its place there and with its list bound
  abbrev pub term_at : Scoring → List (List ℕ) → ℕ → TermScorer
  term_at scoring places q = record {
    doc = doc_in file (part_at lists q) (cursor_at places q).at;
    max_score = (list_at scoring file lists q).top;
    slot = q;
  }

  -- the scorers of slots
  abbrev pub terms_of : Scoring → List (List ℕ) → List ℕ → List TermScorer
  terms_of scoring places qs = map (term_at scoring places) qs

  -- the route's scorers
  abbrev pub on_route : Scoring → Held → List TermScorer → List (Scorer Float)
  on_route scoring h l = map (scorer_at scoring h.places) l

  -- a scorer stands in its slot, on the document of its place there
  pub record Stand (h : Held) (s : TermScorer) : Type 0 where
    pub slot-in : s.slot < 16
    pub slot : SlotIn file lists h s.slot
    pub doc-is : s.doc ≡ doc_in file (part_at lists s.slot) (cursor_at h.places s.slot).at

  -- the list bound of a scorer is its list's
  abbrev pub MaxScoreAt : Scoring → TermScorer → Type 0
  MaxScoreAt scoring s = (list_at scoring file lists s.slot).top ≡ s.max_score

  -- a scorer has all that a run keeps of its slot, on the document of its place there and with its list bound
  pub record Seat (T : Terms) (h : Held) (s : TermScorer) : Type 0 where
    pub kept : KeptSlot T.scoring file lists T.norms h T.floats s.slot
    pub doc-is : s.doc ≡ doc_in file (part_at lists s.slot) (cursor_at h.places s.slot).at
    pub max-is : MaxScoreAt T.scoring s

  -- slot q's scorer stands on a document: its posting can be scored, and it can advance
  pub record OnDocument (T : Terms) (h : Held) (q : ℕ) : Type 0 where
    pub seat : Seat T h (term_at T.scoring h.places q)
    pub live : doc_in file (part_at lists q) (cursor_at h.places q).at < 2147483647
    pub inside : Inside lists h q

  -- postings were scored: every scorer stands where it stood, and where it was right it still is
  pub record Unmoved (scoring : Scoring) (norms : List (List Float)) (floats : List (List Float)) (h : Held)
      (floats' : List (List Float)) (h' : Held) : Type 0 where
    pub cursor-is : (q : ℕ) → cursor_at h'.places q ≡ cursor_at h.places q
    pub seats : (s : TermScorer) → Seat (terms scoring norms floats) h s → Seat (terms scoring norms floats') h' s
    pub rows : FloatRows floats'

  -- the scorers of these slots can move, each in a slot of its own
  pub record Lined (h : Held) (qs : List ℕ) : Type 0 where
    pub stands : (scoring : Scoring) → All (Stand h) (terms_of scoring h.places qs)
    pub apart : (scoring : Scoring) → Apart (terms_of scoring h.places qs)

  -- after moves of scorers l, those left are l': each stands in a slot of its own, and where it was right it still is
  pub record Carried (h : Held) (l : List TermScorer) (h' : Held) (l' : List TermScorer) : Type 0 where
    pub stands : All (Stand h') l'
    pub apart : Apart l'
    pub seats : (T : Terms) → All (Seat T h) l → All (Seat T h') l'

  -- the scorers of a run, each in a slot of its own
  pub record Seated (T : Terms) (h : Held) (l : List TermScorer) : Type 0 where
    pub seats : All (Seat T h) l
    pub apart : Apart l
    pub rows : FloatRows T.floats
