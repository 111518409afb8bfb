-- Where the scorers of a plain scan stand: none has passed a document that is still to be taken.
use Rattle.std.specs.Prelude.{◌≡◌, List, ℕ, suc, ◌≤◌, ◌<◌, get_or, Float}
use Rattle.route.specs.Plain.{present}
use Rattle.route.specs.Inner.Cursors.{Wf, Past}
use Rattle.bm25.specs.declared.Scoring.{Scoring}
use Rattle.skip_reader.specs.Inner.Decoded.{doc_in}
use Rattle.term_scorer.specs.Inner.Slots.{Held, Sixteen, SlotIn, part_at, list_at, cursor_at, lists_from}
use Rattle.term_scorer.specs.Inner.Weights.{Weighed}
use Rattle.scan_heads.specs.Inner.Found.{found_of}
use Rattle.scan_heads.specs.declared.Found.{Found}

-- each of the first n slots has its list's norms
abbrev pub AllWeighed : List (List ℕ) → List (List Float) → ℕ → Type 0
AllWeighed lists norms n = (q : ℕ) → q < n → Weighed lists norms q

module _ (scoring : Scoring) (file : List ℕ) (lists : List (List ℕ)) where
  -- slot q's scorer has passed no document from d on, and stands on one from there on
  pub record RestsFrom (d : ℕ) (h : Held) (q : ℕ) : Type 0 where
    pub slot : SlotIn file lists h q
    pub wf : Wf 128 (list_at scoring file lists q) (cursor_at h.places q)
    pub past : Past 128 (list_at scoring file lists q) (cursor_at h.places q) d
    pub low : d ≤ doc_in file (part_at lists q) (cursor_at h.places q).at

  -- which its head names
  pub record StandsFrom (d : ℕ) (h : Held) (heads : List ℕ) (q : ℕ) : Type 0 where
    pub slot : SlotIn file lists h q
    pub wf : Wf 128 (list_at scoring file lists q) (cursor_at h.places q)
    pub past : Past 128 (list_at scoring file lists q) (cursor_at h.places q) d
    pub head-is : get_or heads q 0 ≡ doc_in file (part_at lists q) (cursor_at h.places q).at
    pub low : d ≤ get_or heads q 0

  -- and so do the first n
  pub record Standing (n d : ℕ) (h : Held) (heads : List ℕ) : Type 0 where
    pub long : Sixteen heads
    pub each : (q : ℕ) → q < n → StandsFrom d h heads q

  -- what `take_document` leaves: the document's scores in slot order, counted and summed, and every scorer behind it
  pub record Taken (n d : ℕ) (found : Found) (h : Held) (heads : List ℕ) : Type 0 where
    pub found-is : found ≡ found_of (present d (lists_from scoring file lists 0 n))
    pub standing : Standing n (suc d) h heads
