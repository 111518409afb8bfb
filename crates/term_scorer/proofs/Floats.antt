-- A row of the run's floats that is written.
use mathlib.Core.Path.{sym, ap, subst, ◌∙◌}
use mathlib.Core.List.{List, []}
use Prim.Native.Nat.{ℕ, ◌<◌}
use native.Mathlib.Omega.{arith}
use lib.Dec.{eqb}
use lib.ListN.{get_or, length, length-set, set}
use lib.Seq.{get_or-set_other, get_or-set_same}
use lib.Ieee.{Float}
use borrow.Author.Tests.{eqb-false, eqb-true}
use Rattle.route.proofs.Cases.{on_test}
use Rattle.term_scorer.specs.Inner.Weights.{FloatRow, FloatRows}

pub rows-set : {floats : List (List Float)} (r : ℕ) (row : List Float) → FloatRows floats → r < 18 → FloatRow row → FloatRows (set floats r row)
rows-set {floats} r row F h l = record {
  eighteen = length-set floats r row ∙ F.eighteen;
  row = λ k hk.
      let t = F.eighteen in
      on_test (eqb k r)
      (λ e. subst (λ (z : ℕ). FloatRow (get_or (set floats r row) z [])) (sym (eqb-true k r e)) (ap length (get_or-set_same floats r row [] (omega arith)) ∙ l))
      (λ e. ap length (get_or-set_other floats r k row [] (eqb-false k r e)) ∙ F.row k hk);
}
