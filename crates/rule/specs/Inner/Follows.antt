-- What a run keeps of its rule, beside the threshold that the route's definition gives.
use Rattle.std.specs.Prelude.{◌≡◌, cond, List, [], ℕ, ◌+◌, ◌-◌, min, ◌≤◌, ◌<◌, ltb, leb, length, get_or, take, replicate, Float}
use Rattle.std.specs.Float.{nan}
use Rattle.floats.specs.Inner.Maximum.{larger}
use Rattle.route.specs.F32.{f32}
use Rattle.route.specs.Rule.{insert_down, rank_from, threshold_after}
use Rattle.rule.specs.Rules.{rule_of, start_of}
use Rattle.rule.specs.declared.Rule.{Rule}
use Rattle.rule.specs.declared.Rule.TheVariants.{Script, BestK}
use Rattle.rule.specs.declared.Threshold.{Threshold}

-- how many of the best scores are kept
abbrev pub kept_of : Rule → ℕ
kept_of (Script start) = 0
kept_of (BestK start k) = k

-- the array before any report
abbrev pub none_kept : List Float
none_kept = replicate 64 f32.nil

-- k is from 1 to 64
abbrev pub Keeps : Rule → Type 0
Keeps (Script start) = Unit {0}
Keeps (BestK start k) = (0 < k) × (k ≤ 64)

-- after reports that scored `scores`, in order: the route's threshold, their number, and in the array the first of them from the best down,
-- with 0 behind them
pub record Follows (rule : Rule) (l scores : List Float) (t : Threshold) (kept : List Float) : Type 0 where
  pub now-is : t.now ≡ threshold_after f32 (rule_of rule l) (start_of rule) scores
  pub reports-is : t.reports ≡ length scores
  pub long : length kept ≡ 64
  pub best-is : take (min (length scores) (kept_of rule)) kept ≡ take (kept_of rule) (rank_from f32 [] scores)
  pub behind-is : (i : ℕ) → min (length scores) (kept_of rule) ≤ i → i < 64 → get_or kept i nan ≡ f32.nil

-- what `insert` leaves: the first of what inserting the score into the first m leaves, as many as there are up to k; behind these all is as
-- it was
pub record Inserted (before : List Float) (m k : ℕ) (score : Float) (after : List Float) : Type 0 where
  pub long : length after ≡ 64
  pub front : take (min (m + 1) k) after ≡ take k (insert_down f32 score (take m before))
  pub behind : (i : ℕ) → min (m + 1) k ≤ i → get_or after i nan ≡ get_or before i nan

-- one more report under a script
pub record Scripted (t : Threshold) (l : List Float) (r : Threshold) : Type 0 where
  pub now-is : r.now ≡ cond (ltb t.reports (length l)) (get_or l t.reports nan) t.now
  pub reports-is : r.reports ≡ t.reports + 1

-- one more report under best k
pub record Ranked (t : Threshold) (start : Float) (k : ℕ) (score : Float) (old : List Float) (r : Threshold) (new : List Float) : Type 0 where
  pub now-is : r.now ≡ cond (leb k (t.reports + 1)) (larger start (get_or new (k - 1) nan)) start
  pub reports-is : r.reports ≡ t.reports + 1
  pub inserted : Inserted old (min t.reports k) k score new

-- one more report, from any threshold; a script does not look at the array
abbrev pub Next : Rule → List Float → Float → Threshold → List Float → Threshold → List Float → Type 0
Next (Script start) l score t old r new = Scripted t l r × (new ≡ old)
Next (BestK start k) l score t old r new = Ranked t start k score old r new
