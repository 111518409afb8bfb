-- Reports, and the callback that takes them and moves the threshold.
use Rattle.std.specs.Prelude.{cond, ℕ}
use Rattle.std.proofs.Math.Option.{Option, none, some}
use Rattle.route.specs.Score.{Ops}

-- One row of a run's list (01, demand 3): a document with its score.
pub record Report (S : Type 0) : Type 0 where
  pub doc : ℕ
  pub score : S

-- The Rust's `callback: &mut dyn FnMut(u32, Score) -> Score`, with the threshold that it returned last.
pub record Callback (S : Type 0) : Type 1 where
  pub State : Type 0
  pub threshold : State → S
  pub call : ℕ → S → State → State

-- A report that is due is handed to the callback.
abbrev pub reported : {S : Type 0} (K : Callback S) → Option (Report S) → K.State → K.State
reported K none r = r
reported K (some x) r = K.call x.doc x.score r

module _ (O : Ops) where
  -- `if score > threshold`: document d with score x is due; an equal score never is.
  abbrev pub due_at : O.S → ℕ → O.S → Option (Report O.S)
  due_at t d x = cond (O.above x t) (some (record { doc = d; score = x })) none

  -- `if score > threshold { threshold = callback(doc, score); }`
  abbrev pub offer : (K : Callback O.S) → ℕ → O.S → K.State → K.State
  offer K d x r = reported K (due_at (K.threshold r) d x) r
