-- Block bounds that are found by slot, and what that leaves.
use Rattle.std.specs.Prelude.{◌≡◌, Option, Some, None, cond, ◌||◌, List, [], ℕ, ◌+◌, ◌*◌, ◌<◌, eqb, ltb, get_or, length, set, Float}
use Rattle.std.specs.Float.{nan}
use Rattle.route.specs.Cursor.{block_max}
use Rattle.route.specs.F32.{f32}
use Rattle.bm25.specs.declared.Scoring.{Scoring}
use Rattle.notefile.specs.Lists.{full_blocks}
use Rattle.term_scorer.specs.Inner.Slots.{part_at, list_at, cursor_at}
use Rattle.term_scorer.specs.Inner.Weights.{ReadyUpTo}

-- the row's cells of slot p are as they were
pub record SameCells (p : ℕ) (bounds bounds' : List Float) : Type 0 where
  pub bound : get_or bounds' p nan ≡ get_or bounds p nan
  pub ahead : (k : ℕ) → k < 7 → get_or bounds' (16 + 7 * p + k) nan ≡ get_or bounds (16 + 7 * p + k) nan

-- what a slot keeps of its block's bound: the flag says whether there is one
abbrev pub block_max_at : List (List ℕ) → List Float → ℕ → Option Float
block_max_at places bounds q = cond (eqb (get_or (get_or places q []) 7 0) 1) (Some (get_or bounds q nan)) None

-- the bound of slot q's block, a full one, as it stands ready: what was worked out for it changes nothing else
pub record Readied (scoring : Scoring) (file : List ℕ) (lists : List (List ℕ)) (q : ℕ) (places : List (List ℕ))
    (bounds : List Float) (places' : List (List ℕ)) (bounds' : List Float) (bound : Float) : Type 0 where
  pub end : ℕ
  pub bound-is : bound ≡ (list_at scoring file lists q).bound (cursor_at places q).blk
  pub places-are : places' ≡ set places q (set (get_or places q []) 9 end)
  pub ready : ReadyUpTo (list_at scoring file lists q) q end bounds'
  pub others : (p : ℕ) → p < 16 → (p ≡ q → ⊥) → SameCells p bounds bounds'
  pub long : length bounds' ≡ length bounds

-- slot q's bound is the route's, and is kept unless the block is a tail that is not loaded: of the other slots nothing has changed
pub record Bounded (scoring : Scoring) (file : List ℕ) (lists : List (List ℕ)) (q : ℕ) (places : List (List ℕ))
    (bounds : List Float) (places' : List (List ℕ)) (bounds' : List Float) (bound : Float) : Type 0 where
  pub flag : ℕ
  pub end : ℕ
  pub bound-is : bound ≡ block_max 128 f32 (list_at scoring file lists q) (cursor_at places q)
  pub places-are : places' ≡ set places q (set (set (get_or places q []) 9 end) 7 flag)
  pub bound-there : get_or bounds' q nan ≡ bound
  pub ready : ReadyUpTo (list_at scoring file lists q) q end bounds'
  pub others : (p : ℕ) → p < 16 → (p ≡ q → ⊥) → SameCells p bounds bounds'
  pub long : length bounds' ≡ length bounds
  pub flag_is : flag
      ≡ cond (ltb (cursor_at places q).blk (full_blocks (part_at lists q)) || (cursor_at places q).loaded) 1 (get_or (get_or places q []) 7 0)
