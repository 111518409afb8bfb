-- A rule of the code as 01 has it: a start threshold, and a script or best k.
use Rattle.std.specs.Prelude.{List, Float}
use Rattle.route.specs.Rule.{script, best}
use Rattle.rule.specs.declared.Rule.{Rule}
use Rattle.rule.specs.declared.Rule.TheVariants.{Script, BestK}

-- its start threshold
abbrev pub start_of : Rule → Float
start_of (Script start) = start
start_of (BestK start k) = start

-- the same rule without its start, as the route has it
abbrev pub rule_of : Rule → List Float → Rattle.route.specs.Rule.Rule Float
rule_of (Script start) l = script l
rule_of (BestK start k) l = best k
