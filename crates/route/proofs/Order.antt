-- What the theorems ask of scores and of the callback: an order on the values that occur, and a threshold that never falls.
use mathlib.Core.Bool.{false, true}
use mathlib.Core.Option.{Option, none, some}
use mathlib.Core.Path.{sym, ◌∙◌, ◌≡◌}
use Prim.Native.Nat.{max, ℕ, ◌<◌, ◌≤◌}
use native.Mathlib.Omega.{arith}
use lib.Dec.{ltb}
use borrow.Author.Tests.{le-ltb, lt-ltb, ltb-false, ltb-true}
use Rattle.route.specs.Score.{Ops, larger}
use Rattle.route.specs.Report.{Callback}
use Rattle.route.proofs.Cases.{by-test}

-- `Fin`: the values that comparisons are right about. `rank` is their order, as numbers.
pub record Ordered (O : Ops) : Type 1 where
  pub rank : O.S → ℕ
  pub Fin : O.S → Type 0
  pub above-rank : (x t : O.S) → Fin x → Fin t → O.above x t ≡ ltb (rank t) (rank x)

-- `Good`: the states that a run's callback comes to.
pub record NeverFalls (O : Ops) (L : Ordered O) (K : Callback O.S) : Type 1 where
  pub Good : K.State → Type 0
  pub threshold-fin : (r : K.State) → Good r → L.Fin (K.threshold r)
  pub call-good : (d : ℕ) (x : O.S) (r : K.State) → Good r → L.Fin x → Good (K.call d x r)
  pub call-rise : (d : ℕ) (x : O.S) (r : K.State) → Good r → L.Fin x → L.rank (K.threshold r) ≤ L.rank (K.threshold (K.call d x r))

-- `P`: the scores and bounds of lists, none below 0.
pub record Values (O : Ops) (L : Ordered O) (P : O.S → Type 0) : Type 0 where
  pub fin : (x : O.S) → P x → L.Fin x
  pub nil-ok : P O.nil
  pub nil-least : (x : O.S) → P x → L.rank O.nil ≤ L.rank x

-- a score, if there is one, has P
abbrev pub HasOf : {S : Type 0} → (S → Type 0) → Option S → Type 0
HasOf P none = Unit {0}
HasOf P (some x) = P x

module _ (O : Ops) (L : Ordered O) where
  -- a sum that is no report at threshold t
  abbrev pub LowOf : Option O.S → O.S → Type 0
  LowOf none t = Unit {0}
  LowOf (some x) t = L.rank x ≤ L.rank t

  abbrev pub FinOf : Option O.S → Type 0
  FinOf = HasOf L.Fin

  -- a comparison tells the order of the ranks
  pub above-true : (x t : O.S) → L.Fin x → L.Fin t → O.above x t ≡ true → L.rank t < L.rank x
  above-true x t fx ft e = ltb-true (L.rank t) (L.rank x) (sym (L.above-rank x t fx ft) ∙ e)

  pub above-false : (x t : O.S) → L.Fin x → L.Fin t → O.above x t ≡ false → L.rank x ≤ L.rank t
  above-false x t fx ft e = ltb-false (L.rank t) (L.rank x) (sym (L.above-rank x t fx ft) ∙ e)

  pub lt_above : (x t : O.S) → L.Fin x → L.Fin t → L.rank t < L.rank x → O.above x t ≡ true
  lt_above x t fx ft h = L.above-rank x t fx ft ∙ lt-ltb (L.rank t) (L.rank x) h

  pub le-above : (x t : O.S) → L.Fin x → L.Fin t → L.rank x ≤ L.rank t → O.above x t ≡ false
  le-above x t fx ft h = L.above-rank x t fx ft ∙ le-ltb (L.rank t) (L.rank x) h

  pub larger-rank : (s v : O.S) → L.Fin s → L.Fin v → L.rank (larger O s v) ≡ max (L.rank s) (L.rank v)
  larger-rank s v fs fv =
      by-test (λ z. L.rank z ≡ max (L.rank s) (L.rank v)) (O.above v s) v s
      (λ e. let h = above-true v s fv fs e in omega arith)
      (λ e. let h = above-false v s fv fs e in omega arith)
