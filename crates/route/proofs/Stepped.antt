-- Stepped f32 scores meet the laws, with up to 16 summands: scores are multiples of 1/1024 up to 1,000, so sums and differences are exact.
use mathlib.Core.Bool.{false, true, true≢false}
use mathlib.Core.List.{List}
use mathlib.Core.Logic.{◌↔◌}
use mathlib.Core.Path.{ap, refl, subst, sym, ◌∙◌, ◌≡◌}
use Prim.Native.Nat.{ℕ, ◌%◌, ◌*◌, ◌+◌, ◌/◌, ◌≤◌}
use native.Mathlib.Nat.{mul-div_cancel, mul-le-mul_right, mul-mod_left}
use native.Mathlib.Omega.{arith}
use lib.Dec.{T, eqb, leb, le→leb, ltb}
use lib.Ieee.{Float, binary32, down, fin, inf, lt, nan, round, sub, up}
use lib.Ieee.Exact.{HasValue}
use lib.Ieee.Fits.{and_i, down_pos, eq→eqb}
use lib.ListN.{length}
use borrow.Author.Tests.{le-ltb, lt-ltb, ltb-false, ltb-true}
use Rattle.floats.specs.Step.{grid_f}
use Rattle.floats.specs.Threshold.{threshold_ok}
use Rattle.floats.specs.Inner.Steps.{level}
use Rattle.floats.proofs.Exact.{difference-exact}
use Rattle.floats.proofs.Grid.{grid-add, grid-has, grid-steps}
use Rattle.floats.proofs.Steps.{steps-lt}
use Rattle.floats.proofs.Threshold.{level-steps}
use Rattle.arrays.specs.Every.{All}
use Rattle.route.specs.Score.{larger, smaller}
use Rattle.route.specs.F32.{f32}
use Rattle.route.specs.Report.{Report}
use Rattle.route.specs.Rule.{Rule, limited}
use Rattle.route.specs.Postings.{Postings, TERMINATED}
use Rattle.route.specs.Plain.{Mode, plain}
use Rattle.route.specs.Skipping.{Skips}
use Rattle.route.specs.Inner.Rules.{RuleOk, Takes}
use Rattle.route.proofs.Cases.{on_test}
use Rattle.route.proofs.Order.{Ordered}
use Rattle.route.proofs.ListLaws.{Accepted}
use Rattle.route.proofs.Grid.{Grid, exact, sums}
use Rattle.route.proofs.Agree.{SteppedLaws}
use Rattle.route.proofs.Demand.{demand-3, skips-plain}

-- thresholds and sums as whole numbers: 1,024 for 0
pub shifted : (a b c : ℕ) → ltb (a + c) (b + c) ≡ ltb a b
shifted a b c =
    on_test (ltb a b)
    (λ e. let h = ltb-true a b e in lt-ltb (a + c) (b + c) (omega arith) ∙ sym e)
    (λ e. let h = ltb-false a b e in le-ltb (a + c) (b + c) (omega arith) ∙ sym e)

abbrev pub stepped-order : Ordered f32
stepped-order = record {
  rank = level;
  Fin = λ x. T (threshold_ok x);
  above-rank = λ x t fx ft. steps-lt t x (level t) 1024 (level x) 1024 (level-steps t ft) (level-steps x fx) ∙ shifted (level t) (level x) 1024;
}

-- a multiple of 1/1024 up to 16,000 is a threshold, and its level is its multiple and 1,024
pub grid-level : (x : Float) (a : ℕ) → a ≤ 16384000 → HasValue x false a 1024 → T (threshold_ok x) × (level x ≡ 1024 + a)
grid-level nan a h v = absurd v
grid-level (inf s) a h v = absurd v
grid-level (fin true m e) a h v = absurd (true≢false v.0)
grid-level (fin false m e) a h v =
    let M = m * up e in
    let k = mul-le-mul_right (down e) h in
    let w : M * 1024 ≡ a * down e = v.1 in (
      and_i (leb M (16000 * down e)) (eqb (M * 1024 % down e) 0) (le→leb M (16000 * down e) (omega arith))
          (eq→eqb (ap (λ z. z % down e) w ∙ mul-mod_left a (down e))),
      ap (λ z. 1024 + z / down e) w ∙ ap (λ z. 1024 + z) (mul-div_cancel a (down_pos e)),
    )

pub level-of : (a : ℕ) → a ≤ 16384000 → T (threshold_ok (grid_f a)) × (level (grid_f a) ≡ 1024 + a)
level-of a h = grid-level (grid_f a) a h (grid-has a (omega arith))

-- at most n scores' worth
abbrev pub PartOf : ℕ → Float → Type 0
PartOf n x = (a : ℕ) × (x ≡ grid_f a) × (a ≤ n * 1024000)

pub nil-grid : f32.nil ≡ grid_f 0
unfolding grid_f round
nil-grid = refl

pub part-level : (n : ℕ) (x : Float) → n ≤ 16 → (p : PartOf n x) → T (threshold_ok x) × (level x ≡ 1024 + p.0)
part-level n x h p = let k = p.2 in subst (λ z. T (threshold_ok z) × (level z ≡ 1024 + p.0)) (sym p.1) (level-of p.0 (omega arith))

-- `sub` is exact, so a leader's score above the difference is a sum above the threshold
pub difference : (x y t : Float) (a b : ℕ) → x ≡ grid_f a → y ≡ grid_f b → a ≤ 16384000 → b ≤ 16384000 → T (threshold_ok t)
    → lt (sub binary32 t y) x ≡ false → a + (1024 + b) ≤ level t
difference x y t a b p r h k f e =
    let d : lt (sub binary32 t (grid_f b)) (grid_f a) ≡ ltb (level t + 0) (a + (1024 + b)) =
    steps-lt (sub binary32 t (grid_f b)) (grid_f a) (level t) (1024 + b) a 0 (difference-exact t b f k) (grid-steps a (omega arith)) in
    let z = ltb-false (level t + 0) (a + (1024 + b)) (sym d ∙ sym (ap (lt (sub binary32 t (grid_f b))) p) ∙ sym (ap (λ w. lt (sub binary32 t w) x) r)
    ∙ e) in
    omega arith

abbrev pub stepped-grid : Grid f32 stepped-order 16
stepped-grid = record {
  zero-at = 1024;
  Part = PartOf;
  nil-part = λ n. (0, nil-grid, omega arith);
  nil-rank = refl;
  part-fin = λ n x h p. (part-level n x h p).0;
  part-least = λ n x h p. omega (arith, (part-level n x h p).1);
  add-part = λ m n x y h p r.
      let p2 = p.2 in
      let r2 = r.2 in (
        p.0 + r.0,
        ap (λ z. f32.add z y) p.1 ∙ ap (f32.add (grid_f p.0)) r.1 ∙ grid-add p.0 r.0 (omega arith) (omega arith),
        omega arith,
      );
  add-rank = λ m n x y h p r.
      let p2 = p.2 in
      let r2 = r.2 in
      let e = ap (λ z. level (f32.add z y)) p.1 ∙ ap (λ z. level (f32.add (grid_f p.0) z)) r.1 ∙ ap level
      (grid-add p.0 r.0 (omega arith) (omega arith)) in
      omega (arith, (level-of (p.0 + r.0) (omega arith)).1, (part-level m x (omega arith) p).1, (part-level n y (omega arith) r).1);
  rank-inj = λ m n x y h k p r e.
      let z : p.0 ≡ r.0 = omega (arith, (part-level m x h p).1, (part-level n y k r).1) in
      p.1 ∙ ap grid_f z ∙ sym r.1;
  sub-rank = λ n x y t h p r f e.
      let p2 = p.2 in
      let r2 = r.2 in
      let d = difference x y t p.0 r.0 p.1 r.1 (omega arith) (omega arith) f e in
      omega (arith, (part-level 1 x (omega arith) p).1, (part-level n y (omega arith) r).1);
}

-- THE LAWS OF STEPPED SCORING, for queries of up to 16 numbers
abbrev pub stepped : SteppedLaws f32 16
stepped = record {
  order = stepped-order;
  sums = sums f32 stepped-order 16 stepped-grid (omega arith);
  exact = exact f32 stepped-order 16 stepped-grid
      (omega arith);
}

-- what an accepted list gives of its stepped scores and bounds: multiples of 1/1024 up to 1,000
abbrev pub SteppedList : ℕ → ℕ → Postings Float → Type 0
SteppedList B N l = Accepted B N f32 stepped-order (PartOf 1) l

module _ (B N : ℕ) (m : Mode) (q : List (Postings Float)) (qs : All (SteppedList B N) q) (few : length q ≤ 16) (takes : Takes m (length q))
    (small : N ≤ TERMINATED) (rule : Rule Float) where
  -- the list of a stepped skipping run is the plain scan's
  pub stepped-plain : (s : Float) → RuleOk f32 (λ x. T (threshold_ok x)) rule s → (list : List (Report Float)) → Skips B f32 m q rule s list
      → list ≡ plain f32 m q rule s N
  stepped-plain = skips-plain B N 16 f32 stepped m q qs few takes small rule

  -- demand 3 of stepped runs: over all modes, rules and pairs of starts
  pub stepped-demand-3 : (s t : Float) → RuleOk f32 (λ x. T (threshold_ok x)) rule s → RuleOk f32 (λ x. T (threshold_ok x)) rule t
      → (list : List (Report Float)) → Skips B f32 m q rule s list → (n n' : ℕ)
      → (limited n list).code ≡ 0 → (limited n' (plain f32 m q rule t N)).code ≡ 0
      → ((limited n list).rows ≡ (limited n' (plain f32 m q rule t N)).rows)
      ↔ All (λ r. lt (larger f32 s t) r.score ≡ true) (plain f32 m q rule (smaller f32 s t) N)
  stepped-demand-3 = demand-3 B N 16 f32 stepped m q qs few takes small rule
