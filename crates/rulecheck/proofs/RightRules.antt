-- A rule that refusal 11 lets through is what the theorems over the route ask for, and its state can be kept.
use mathlib.Core.Path.{◌≡◌, refl, sym, subst}
use mathlib.Core.Bool.{Bool, true, false, not, ◌&&◌}
use mathlib.Core.List.{List, [], ◌∷◌}
use lib.Dec.{T, leb}
use lib.Ieee.{Float, lt}
use borrow.Author.Tests.{leb-true}
use Rattle.arrays.proofs.Every.{first-true, second-true}
use Rattle.floats.specs.Threshold.{threshold_ok}
use Rattle.arrays.specs.Every.{All}
use Rattle.route.specs.F32.{f32}
use Rattle.route.specs.Inner.Rules.{Rises, RuleOk}
use Rattle.bm25.specs.declared.Scoring.{Scoring}
use Rattle.bm25.specs.declared.Scoring.TheVariants.{Stepped}
use Rattle.rulecheck.specs.Right.{threshold_right, script_right, rule_right}
use Rattle.rule.specs.Rules.{start_of, rule_of}
use Rattle.rule.specs.Inner.Follows.{Keeps}
use Rattle.rule.specs.declared.Rule.{Rule}
use Rattle.rule.specs.declared.Rule.TheVariants.{Script, BestK}

not-true : (a : Bool) → not a ≡ true → a ≡ false
not-true true e = sym e
not-true false e = refl

holds : {b : Bool} → b ≡ true → T b
holds e = subst T (sym e) tt

abbrev Ok : Float → Type 0
Ok x = T (threshold_ok x)

script-ok : (start : Float) (l : List Float) → script_right Stepped start l ≡ true → Rises f32 start l × All Ok l
script-ok start [] e = (tt, tt)
script-ok start (x ∷ xs) e =
    let p = second-true (threshold_ok x) (not (lt x start) && script_right Stepped x xs) e in
    let r = script-ok x xs (second-true (not (lt x start)) (script_right Stepped x xs) p) in
    ((not-true (lt x start) (first-true (not (lt x start)) (script_right Stepped x xs) p), r.0), (holds (first-true (threshold_ok x) (not (lt x start) && script_right Stepped x xs) e), r.1))

pub rule-ok : (rule : Rule) (l : List Float) → rule_right rule Stepped l ≡ true → RuleOk f32 Ok (rule_of rule l) (start_of rule)
rule-ok (Script start) l e =
    let r = script-ok start l (second-true (threshold_ok start) (script_right Stepped start l) e) in
    (holds (first-true (threshold_ok start) (script_right Stepped start l) e), r.0, r.1)
rule-ok (BestK start k) l e =
    let p = second-true (threshold_ok start) (leb 1 k && leb k 64) e in
    (holds (first-true (threshold_ok start) (leb 1 k && leb k 64) e), leb-true 1 k (first-true (leb 1 k) (leb k 64) p))

pub keeps : (rule : Rule) (scoring : Scoring) (l : List Float) → rule_right rule scoring l ≡ true → Keeps rule
keeps (Script start) scoring l e = tt
keeps (BestK start k) scoring l e =
    let p = second-true (threshold_right scoring start) (leb 1 k && leb k 64) e in
    (leb-true 1 k (first-true (leb 1 k) (leb k 64) p), leb-true k 64 (second-true (leb 1 k) (leb k 64) p))
