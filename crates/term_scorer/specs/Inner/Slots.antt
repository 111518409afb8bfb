-- The slots of a run: what the lent arrays hold of each scorer, and what a move of one leaves.
use Rattle.std.specs.Prelude.{Result, ◌≡◌, List, [], ◌∷◌, map, ℕ, zero, suc, ◌≤◌, ◌<◌, length, get_or, set, Float}
use Rattle.route.specs.Postings.{Postings}
use Rattle.route.specs.Cursor.{Cursor, fresh}
use Rattle.bm25.specs.declared.Scoring.{Scoring}
use Rattle.notefile.specs.declared.part.Part.{Part}
use Rattle.decoded.specs.Lists.{list_of}
use Rattle.skip_reader.specs.Inner.Decoded.{doc_in, ListIn}
use Rattle.postings.specs.Seek.{seek_answer}
use Rattle.slot_rows.specs.Inner.Rows.{part_in, part_row, PartRow, cursor_in, Standing, PlaceIn, MovedRow, ShallowRow, Unkept}

-- an array of 16 slots
abbrev pub Sixteen : {A : Type 0} → List A → Type 0
Sixteen xs = length xs ≡ 16

-- the cells of an array of 16 from place n on are d
pub record Blank {A : Type 0} (d : A) (n : ℕ) (xs : List A) : Type 0 where
  pub blank : (k : ℕ) → n ≤ k → k < 16 → get_or xs k d ≡ d

-- the tables that change as scorers move
pub record Held : Type 0 where
  pub places : List (List ℕ)
  pub blocks : List (List (List ℕ))

abbrev pub held : List (List ℕ) → List (List (List ℕ)) → Held
held places blocks = record { places = places; blocks = blocks }

-- the list of a slot, as the file's part and as the route has it
abbrev pub part_at : List (List ℕ) → ℕ → Part
part_at lists q = part_in (get_or lists q [])

abbrev pub list_at : Scoring → List ℕ → List (List ℕ) → ℕ → Postings Float
list_at scoring file lists q = list_of scoring file (part_at lists q)

-- m slots, from slot a on, and their lists
abbrev pub slots_from : ℕ → ℕ → List ℕ
slots_from a zero = []
slots_from a (suc m) = a ∷ slots_from (suc a) m

abbrev pub lists_from : Scoring → List ℕ → List (List ℕ) → ℕ → ℕ → List (Postings Float)
lists_from scoring file lists a m = map (list_at scoring file lists) (slots_from a m)

-- the route's cursor in a slot, and the last document of its skip reader's block
abbrev pub cursor_at : List (List ℕ) → ℕ → Cursor
cursor_at places q = cursor_in (get_or places q [])

abbrev pub last_at : List (List ℕ) → ℕ → ℕ
last_at places q = get_or (get_or places q []) 3 0

-- what stands in slot q is as it was
pub record SameRows (h h' : Held) (q : ℕ) : Type 0 where
  pub place : get_or h'.places q [] ≡ get_or h.places q []
  pub block : get_or h'.blocks q [] ≡ get_or h.blocks q []

module _ (file : List ℕ) (lists : List (List ℕ)) where
  -- slot q's list is one of an accepted file, and its skip reader stands in it
  pub record StandingIn (places : List (List ℕ)) (q : ℕ) : Type 0 where
    pub sixteen : Sixteen places
    pub part-row : PartRow (get_or lists q [])
    pub list : ListIn file (part_at lists q)
    pub standing : Standing file (part_at lists q) (get_or places q [])

  -- and its block is the one that it decoded last
  pub record SlotIn (h : Held) (q : ℕ) : Type 0 where
    pub sixteen : Sixteen h.places × Sixteen h.blocks
    pub part-row : PartRow (get_or lists q [])
    pub list : ListIn file (part_at lists q)
    pub place : PlaceIn file (part_at lists q) (get_or h.places q []) (get_or h.blocks q [])

  -- slot q's scorer has moved, and the other slots are as before
  pub record MovedSlot (q : ℕ) (to : Scoring → Cursor) (before after : Held) (doc : ℕ) : Type 0 where
    pub places-only : after.places ≡ set before.places q (get_or after.places q [])
    pub blocks-only : after.blocks ≡ set before.blocks q (get_or after.blocks q [])
    pub moved : MovedRow file (part_at lists q) to (get_or before.places q [])
        (get_or after.places q []) (get_or after.blocks q []) doc

  -- slot q's scorer has sought the target: it has moved, and the answer is that of the document there
  pub record SoughtSlot (q target : ℕ) (to : Scoring → Cursor) (before after : Held) (r : Result ℕ ℕ) : Type 0 where
    pub moved : MovedSlot q to before after (doc_in file (part_at lists q) (cursor_at after.places q).at)
    pub answer-is : r
        ≡ seek_answer target (doc_in file (part_at lists q) (cursor_at after.places q).at) (get_or (get_or after.places q []) 6 0)

  -- slot q's skip reader has moved
  pub record Shallowed (q : ℕ) (to : Scoring → Cursor) (before after : List (List ℕ)) : Type 0 where
    pub only : after ≡ set before q (get_or after q [])
    pub moved : ShallowRow file (part_at lists q) to (get_or before q []) (get_or after q [])

-- slot q has been given the list x, whose bound has the bits top
pub record Opened (file : List ℕ) (x : Part) (top q : ℕ) (lists lists' : List (List ℕ)) (before after : Held) (doc : ℕ) : Type 0 where
  pub lists-only : lists' ≡ set lists q (part_row x top)
  pub part-row : PartRow (part_row x top)
  pub opened : MovedSlot file lists' q (λ _. fresh) before after doc
  pub unkept : Unkept (get_or after.places q [])
