-- `exit` meets its contract: its test is the exit's.
use mathlib.Core.Bool.{Bool, cond}
use mathlib.Core.Path.{ap, sym, ◌∙◌}
use Rattle.intersection_stage.specs.Inner.Steps.{quietly}
use Rattle.intersection_stage.specs.declared.Stage.TheVariants.{Over}
use Rattle.intersection_stage.proofs.exit.Goals as goal

pub returns-then-v-threshold : goal.returns-then-v-threshold
returns-then-v-threshold c =
    let a = c.args in
    c.quiet.ensures ∙ ap (λ (z : Bool). quietly a.v a.v.doc (cond z a.stage Over)) (sym c.if-v-threshold.true)

pub returns : goal.returns
returns c =
    let a = c.args in
    c.quiet-2.ensures ∙ ap (λ (z : Bool). quietly a.v a.v.doc (cond z a.stage Over)) (sym c.if-v-threshold.false)
