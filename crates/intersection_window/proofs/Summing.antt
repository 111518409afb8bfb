-- `sum_rests`' loop: the sums behind the secondaries from place i on are written.
use mathlib.Core.List.{List, [], map}
use mathlib.Core.Logic.{inl, inr}
use mathlib.Core.Path.{ap, refl, sym, ◌∙◌, ◌≡◌}
use Prim.Native.Nat.{suc, ℕ, ◌+◌, ◌-◌, ◌<◌, ◌≤◌}
use native.Mathlib.Omega.{arith}
use lib.ListN.{drop, get_or, length-set, set, take}
use lib.Seq.{drop-drop, get_or-set_other, get_or-set_same}
use lib.Ieee.{Float, nan}
use Rattle.arrays.proofs.Order.{lt-or-ge}
use Rattle.route.specs.F32.{f32}
use Rattle.route.specs.Score.{sum_back}
use Rattle.ordering.proofs.Places.{map-drop}
use Rattle.term_scorer.specs.Inner.Slots.{Sixteen}
use Rattle.term_scorer.specs.Inner.Weights.{FloatRows}
use Rattle.term_scorer.proofs.Floats.{rows-set}
use Rattle.intersection_window.specs.Inner.Windows.{Sums, bounds_row, rests_row, scores_row}
use Rattle.intersection_order.proofs.Parts.{part-first, part_none}

module _ (n : ℕ) (order : List ℕ) (floats₀ : List (List Float)) where
  abbrev bound_at : ℕ → Float
  bound_at q = get_or (bounds_row floats₀) q nan

  -- the sum of the bounds from place i on
  abbrev sum_at : ℕ → Float
  sum_at i = sum_back f32 (map bound_at (drop i (take n order)))

  pub record Summing (i : ℕ) (running : Float) (floats : List (List Float)) : Type 0 where
    pub low : 1 ≤ i
    pub high : i ≤ n
    pub running-is : running ≡ sum_at i
    pub written : (k : ℕ) → i ≤ k → k < n → get_or (rests_row floats) k nan ≡ sum_at (suc k)
    pub same : bounds_row floats ≡ bounds_row floats₀
    pub scores : (q : ℕ) → scores_row floats q ≡ scores_row floats₀ q
    pub rows : FloatRows floats

  pub begun : 0 < n → FloatRows floats₀ → Summing n f32.nil floats₀
  begun h r = record {
    low = h;
    high = omega arith;
    running-is = sym (ap (sum_back f32) (part_none order bound_at n n (omega arith)));
    written = λ k u v. absurd (omega arith);
    same = refl;
    scores = λ q. refl;
    rows = r;
  }

  module _ (few : n ≤ 16) (ordered : Sixteen order) {i : ℕ} {running : Float} {floats : List (List Float)} (S : Summing i running floats) where
    abbrev next : List (List Float)
    next = set floats 1 (set (rests_row floats) (i - 1) running)

    rests-then : rests_row next ≡ set (rests_row floats) (i - 1) running
    rests-then = get_or-set_same floats 1 (set (rests_row floats) (i - 1) running) [] (omega (arith, S.rows.eighteen))

    bounds-then : bounds_row next ≡ bounds_row floats
    bounds-then = get_or-set_other floats 1 0 (set (rests_row floats) (i - 1) running) [] (λ z. omega arith)

    pub goes_on : 1 < i → Summing (i - 1) (f32.add running (get_or (bounds_row next) (get_or order (i - 1) 0) nan)) next
    goes_on h =
        let j = i - 1 in
        let up = S.high in
        let l = S.rows.row 1 (omega arith) in
        let e : suc j ≡ i = omega arith in
        let at : running ≡ sum_at (suc j) = S.running-is ∙ ap sum_at (sym e) in
        let b : bounds_row next ≡ bounds_row floats₀ = bounds-then ∙ S.same in
        record {
          low = omega arith;
          high = omega arith;
          running-is =
              ap (λ (z : Float). f32.add z (get_or (bounds_row next) (get_or order j 0) nan)) at ∙ ap (λ (z : List Float). f32.add (sum_at (suc j)) (get_or z (get_or order j 0) nan)) b
              ∙ sym (ap (sum_back f32) (part-first order bound_at j n (omega arith) (omega arith)));
          written = λ k u v.
              ap (λ (z : List Float). get_or z k nan) rests-then
              ∙ elim (lt-or-ge j k) [
                | inl w ↦ get_or-set_other (rests_row floats) j k running nan (λ z. omega arith) ∙ S.written k (omega arith) v
                | inr w ↦
                    let z : k ≡ j = omega arith in
                    rw z (get_or-set_same (rests_row floats) j running nan (omega arith) ∙ at)
              ];
          same = b;
          scores = λ q. get_or-set_other floats 1 (2 + q) (set (rests_row floats) j running) [] (λ z. omega (arith, z)) ∙ S.scores q;
          rows = rows-set 1 (set (rests_row floats) j running) S.rows (omega arith) (length-set (rests_row floats) j running ∙ l);
        }

    pub ended : i ≤ 1 → Sums n order floats₀ floats
    ended h = record {
      rests = λ k u v.
          let e : suc k ≡ 1 + k = omega arith in
          S.written k (omega arith) v ∙ ap sum_at e ∙ ap (sum_back f32) (sym (sym (map-drop bound_at k (drop 1 (take n order))) ∙ ap (map bound_at) (drop-drop k 1 (take n order))));
      bounds = S.same;
      scores = S.scores;
      rows = S.rows;
    }
