-- The numbers of modes, scorings and rules in the C interface; those past the last stand for it, and are refused.
use Rattle.std.specs.Prelude.{ℕ, zero, suc, Float}
use Rattle.bm25.specs.declared.Scoring.{Scoring}
use Rattle.bm25.specs.declared.Scoring.TheVariants.{Unstepped, Stepped}
use Rattle.rule.specs.declared.Rule.{Rule}
use Rattle.rule.specs.declared.Rule.TheVariants.{Script, BestK}
use Rattle.request.specs.declared.Mode.{Mode}
use Rattle.request.specs.declared.Mode.TheVariants.{Union, Intersection, Single}

abbrev pub mode_at : ℕ → Mode
mode_at zero = Union
mode_at (suc zero) = Intersection
mode_at (suc (suc n)) = Single

abbrev pub scoring_at : ℕ → Scoring
scoring_at zero = Unstepped
scoring_at (suc n) = Stepped

abbrev pub rule_at : ℕ → Float → ℕ → Rule
rule_at zero start k = Script start
rule_at (suc n) start k = BestK start k
