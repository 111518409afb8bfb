-- Where a union's scorers stand once those on a reported document have advanced.
use mathlib.Core.List.{List, map, ◌++◌}
use mathlib.Core.Path.{ap, refl, ◌∙◌, ◌≡◌}
use Prim.Native.Nat.{ℕ}
use lib.ListN.{drop, length, take}
use Rattle.route.specs.Score.{Ops, sum}
use Rattle.route.specs.Scorer.{Scorer, score_here}
use Rattle.route.specs.Route.{Load}
use Rattle.route.specs.Union.{Stage, UnionPlace, advance_all_scorers_on_pivot, called, go_on, looking, over, scored}
use Rattle.route.proofs.Cases.{by-test}
use Rattle.route.proofs.Lists.{drop-front, take-front}

module _ (B : ℕ) {S : Type 0} where
  abbrev pub landed_by : Stage → List (Scorer S) → List (Scorer S)
  landed_by looking ss = ss
  landed_by (called n) ss = advance_all_scorers_on_pivot B (take n ss) (drop n ss)
  landed_by over ss = ss

  abbrev pub landed : UnionPlace S → List (Scorer S)
  landed u = landed_by u.stage u.scorers

  pub called-lands : (on post : List (Scorer S)) → landed_by (called (length on)) (on ++ post) ≡ advance_all_scorers_on_pivot B on post
  called-lands on post =
      ap (λ z. advance_all_scorers_on_pivot B z (drop (length on) (on ++ post))) (take-front on post)
      ∙ ap (advance_all_scorers_on_pivot B on) (drop-front on post)

-- reported or not, the scorers on a document land behind it
pub scored-lands : (B : ℕ) (O : Ops) (t : O.S) (p : ℕ) (ls : List Load) (on post : List (Scorer O.S))
    → landed B (scored B O t p ls on post).next ≡ advance_all_scorers_on_pivot B on post
scored-lands B O t p ls on post =
    by-test (λ (u : UnionPlace O.S). landed B u ≡ advance_all_scorers_on_pivot B on post) (O.above (sum O (map score_here on)) t)
    (record { stage = called (length on); scorers = on ++ post }) (go_on (advance_all_scorers_on_pivot B on post))
    (λ _. called-lands B on post) (λ _. refl)
