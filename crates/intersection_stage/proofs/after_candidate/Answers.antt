-- `after_candidate` meets its contract, by the answer.
use mathlib.Core.Path.{ap, sym, ◌∙◌}
use Rattle.intersection_candidate.specs.Inner.Candidates.{behind}
use Rattle.intersection_stage.specs.Inner.Steps.{behind_candidate}
use Rattle.intersection_stage.proofs.after_candidate.Goals as goal

pub returns-in_default : goal.returns-in_default
returns-in_default c =
    let a = c.args in
    c.quiet.ensures ∙ ap (behind_candidate a.v (behind a.left a.next) a.candidate) (sym c.in_default.is)

pub returns : goal.returns
returns c =
    let a = c.args in
    ap (behind_candidate a.v (behind a.left a.next) a.candidate) (sym c.in-Some.is)
