-- Skipping and plain scanning over an accepted file: the route's theorems, with what they ask of lists taken from the file's conditions.
use mathlib.Core.Path.{◌≡◌, refl, ap}
use mathlib.Core.Bool.{true}
use mathlib.Core.List.{List, [], ◌∷◌}
use mathlib.Core.Logic.{◌↔◌}
use Prim.Native.Nat.{ℕ, suc, ◌≤◌, ◌<◌}
use native.Mathlib.Omega.{arith}
use lib.Dec.{T}
use lib.ListN.{length}
use lib.Ieee.{Float, lt}
use Rattle.floats.specs.Threshold.{threshold_ok}
use Rattle.arrays.specs.Every.{All}
use Rattle.route.specs.Score.{larger, smaller}
use Rattle.route.specs.F32.{f32}
use Rattle.route.specs.Report.{Report}
use Rattle.route.specs.Rule.{Rule, limited}
use Rattle.route.specs.Postings.{Postings, TERMINATED}
use Rattle.route.specs.Plain.{Mode, hit, plain}
use Rattle.route.specs.Skipping.{Skips}
use Rattle.route.specs.Inner.Rules.{RuleOk, Takes}
use Rattle.route.proofs.Hits.{hit-fin}
use Rattle.route.proofs.Order.{FinOf}
use Rattle.route.proofs.Stepped.{SteppedList, stepped, stepped-demand-3, stepped-order, stepped-plain}
use Rattle.bm25.specs.declared.Scoring.TheVariants.{Stepped}
use Rattle.notefile.specs.Header.{list_count, documents}
use Rattle.notefile.specs.Refusal.{file_refusal}
use Rattle.notefile.proofs.Accepted.{header-right}
use Rattle.notefile.proofs.Headers.{few-documents}
use Rattle.decoded.specs.Lists.{queried}
use Rattle.decoded.specs.Inner.Bytes.{Bytes}
use Rattle.decoded.proofs.AcceptedLists.{accepted-list, queried-all}

module _ (file : List ℕ) (bytes : Bytes file) (accepted : file_refusal file ≡ 0) where
  all-accepted : (query : List ℕ) → All (λ l. l < list_count file) query → All (SteppedList 128 (documents file)) (queried Stepped file query)
  all-accepted = queried-all Stepped file (SteppedList 128 (documents file)) (accepted-list file bytes accepted)

  few : documents file ≤ TERMINATED
  few = let d = few-documents file (header-right file accepted) in omega arith

  as_many : (query : List ℕ) → length (queried Stepped file query) ≡ length query
  unfolding queried
  as_many [] = refl
  as_many (l ∷ ls) = ap suc (as_many ls)

  -- a query that refusal 10 lets through: its numbers are those of lists, 16 at most, and as many as the mode takes
  module _ (query : List ℕ) (named : All (λ l. l < list_count file) query) (short : length query ≤ 16) (m : Mode) (takes : Takes m (length query)) (rule : Rule Float) where
    abbrev lists : List (Postings Float)
    lists = queried Stepped file query

    abbrev Right : Float → Type 0
    Right s = RuleOk f32 (λ x. T (threshold_ok x)) rule s

    short-lists : length lists ≤ 16
    short-lists = let e = as_many query in omega arith

    takes-lists : Takes m (length lists)
    takes-lists = rw (as_many query) takes

    -- the scores of its matches are among the values that thresholds take, which comparisons order
    pub file-hits : (d : ℕ) → FinOf f32 stepped-order (hit f32 m lists d)
    file-hits = hit-fin 128 (documents file) stepped.sums m lists (all-accepted query named) short-lists

    -- the list of a stepped skipping run over the file is the plain scan's
    pub file-plain : (s : Float) → Right s → (list : List (Report Float)) → Skips 128 f32 m lists rule s list → list ≡ plain f32 m lists rule s (documents file)
    file-plain = stepped-plain 128 (documents file) m lists (all-accepted query named) short-lists takes-lists few rule

    -- demand 3, over all accepted files, queries, modes, rules and pairs of starts
    pub file-demand-3 : (s t : Float) → Right s → Right t → (list : List (Report Float)) → Skips 128 f32 m lists rule s list → (n n' : ℕ)
        → (limited n list).code ≡ 0 → (limited n' (plain f32 m lists rule t (documents file))).code ≡ 0
        → ((limited n list).rows ≡ (limited n' (plain f32 m lists rule t (documents file))).rows)
        ↔ All (λ r. lt (larger f32 s t) r.score ≡ true) (plain f32 m lists rule (smaller f32 s t) (documents file))
    file-demand-3 = stepped-demand-3 128 (documents file) m lists (all-accepted query named) short-lists takes-lists few rule
