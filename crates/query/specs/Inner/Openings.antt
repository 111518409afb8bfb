-- Slots as a run begins with them.
use Rattle.std.specs.Prelude.{◌≡◌, List, [], ℕ, ◌≤◌, ◌<◌, length, get_or, set, Float}
use Rattle.route.specs.F32.{f32}
use Rattle.bm25.specs.declared.Scoring.{Scoring}
use Rattle.ordering.specs.Inner.Scorers.{no_scorer}
use Rattle.term_scorer.specs.declared.TermScorer.{TermScorer}
use Rattle.notefile.specs.Header.{list_count}
use Rattle.notefile.specs.Parts.{part_of}
use Rattle.decoded.specs.Lists.{list_of}
use Rattle.skip_reader.specs.Inner.Decoded.{doc_in}
use Rattle.term_scorer.specs.Inner.Slots.{Held, held, Sixteen, part_at, Blank}
use Rattle.term_scorer.specs.Inner.Weights.{FreshSlot}

-- the lent tables of a run's slots
pub record Tables : Type 0 where
  pub lists : List (List ℕ)
  pub norms : List (List Float)
  pub held : Held

abbrev pub tables : List (List ℕ) → List (List Float) → List (List ℕ) → List (List (List ℕ)) → Tables
tables lists norms places blocks = record { lists = lists; norms = norms; held = held places blocks }

-- each has 16 slots
pub record Room (a : Tables) : Type 0 where
  pub lists : Sixteen a.lists
  pub norms : Sixteen a.norms
  pub places : Sixteen a.held.places
  pub blocks : Sixteen a.held.blocks

-- slot q has just been given list l of the file
pub record OpenSlot (scoring : Scoring) (file : List ℕ) (a : Tables) (l q : ℕ) : Type 0 where
  pub fresh : FreshSlot scoring file a.lists a.norms a.held q
  pub part-is : part_at a.lists q ≡ part_of file l

-- its scorer
abbrev pub opened_scorer : Scoring → List ℕ → ℕ → ℕ → TermScorer
opened_scorer scoring file l q = record {
  doc = doc_in file (part_of file l) 0;
  max_score = (list_of scoring file (part_of file l)).top;
  slot = q;
}

-- no scorer: what stands behind those opened
abbrev pub unopened : TermScorer
unopened = record { doc = 0; max_score = f32.nil; slot = 0 }

-- every table has changed in slot q at most
pub record OnlySlot (q : ℕ) (a b : Tables) : Type 0 where
  pub lists : b.lists ≡ set a.lists q (get_or b.lists q [])
  pub norms : b.norms ≡ set a.norms q (get_or b.norms q [])
  pub places : b.held.places ≡ set a.held.places q (get_or b.held.places q [])
  pub blocks : b.held.blocks ≡ set a.held.blocks q (get_or b.held.blocks q [])

-- in the slots from n on nothing has changed
pub record Untouched (n : ℕ) (a b : Tables) : Type 0 where
  pub lists : (q : ℕ) → n ≤ q → get_or b.lists q [] ≡ get_or a.lists q []
  pub norms : (q : ℕ) → n ≤ q → get_or b.norms q [] ≡ get_or a.norms q []
  pub places : (q : ℕ) → n ≤ q → get_or b.held.places q [] ≡ get_or a.held.places q []
  pub blocks : (q : ℕ) → n ≤ q → get_or b.held.blocks q [] ≡ get_or a.held.blocks q []

-- list l has been opened in slot q
pub record OneOpened (scoring : Scoring) (file : List ℕ) (l q : ℕ) (a b : Tables) (r : TermScorer) : Type 0 where
  pub open-slot : OpenSlot scoring file b l q
  pub only : OnlySlot q a b
  pub scorer-is : r ≡ opened_scorer scoring file l q

-- the first n numbers of a query have been opened, each in its slot, with its scorer
pub record QueryOpened (scoring : Scoring) (file query : List ℕ) (n : ℕ) (a : Tables) (scorers : List TermScorer) : Type 0 where
  pub room : Room a
  pub open-slots : (q : ℕ) → q < n → OpenSlot scoring file a (get_or query q 0) q
  pub long : length scorers ≡ 16
  pub scorers-are : (q : ℕ) → q < n → get_or scorers q no_scorer ≡ opened_scorer scoring file (get_or query q 0) q
  pub behind : Blank unopened n scorers

-- every number of the query is a list's
abbrev pub Named : List ℕ → List ℕ → Type 0
Named file query = (q : ℕ) → q < length query → get_or query q 0 < list_count file
