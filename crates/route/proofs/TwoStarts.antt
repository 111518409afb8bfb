-- Two starts: the plain scans from them are equal exactly when the one from the lower reports no score at or below the higher.
use mathlib.Core.Bool.{true}
use mathlib.Core.List.{List, [], ◌∷◌}
use mathlib.Core.Logic.{◌↔◌}
use mathlib.Core.Option.{Option, none, some}
use mathlib.Core.Path.{ap, refl, subst, sym, ◌∙◌, ◌≡◌}
use Prim.Native.Nat.{suc, zero, ℕ, ◌≤◌}
use native.Mathlib.Omega.{arith}
use Rattle.arrays.specs.Every.{All}
use Rattle.route.specs.Score.{Ops}
use Rattle.route.specs.Report.{Report}
use Rattle.route.specs.Rule.{Rule, ruled, scores, threshold_after}
use Rattle.route.specs.Plain.{scan, turn_of}
use Rattle.route.specs.Inner.Rules.{RuleOk}
use Rattle.route.proofs.Lists.{all_append, all_back, all-front}
use Rattle.route.proofs.Order.{FinOf, Ordered, above-false, above-true, le-above, lt_above}
use Rattle.route.proofs.Scan.{offer-all}
use Rattle.route.proofs.Rule.{GoodRows, after-fin, good-put, start-fin, two-starts}

module _ (O : Ops) (L : Ordered O) (q : Rule O.S) (lo hi : O.S) (ok_l : RuleOk O L.Fin q lo) (ok_h : RuleOk O L.Fin q hi)
    (up : L.rank lo ≤ L.rank hi) where
  -- a report that scores above the higher start
  abbrev pub Over : Report O.S → Type 0
  Over r = O.above r.score hi ≡ true

  module _ (hits : ℕ → Option O.S) (fin : (d : ℕ) → FinOf O L (hits d)) where
    -- the reports of a scan are those it began with, and more
    turn-keeps : (o : Option O.S) (s : O.S) (d : ℕ) (r : List (Report O.S)) → All Over (turn_of O (ruled O q s) o d r) → All Over r
    turn-keeps none s d r a = a
    turn-keeps (some x) s d r a =
        offer-all O (ruled O q s) (λ z. All Over z → All Over r) d x r
        (λ _ b. all-front Over r (record { doc = d; score = x } ∷ []) b) (λ _ b. b) a

    scan-keeps : (s : O.S) (n d : ℕ) (r : List (Report O.S)) → All Over (scan O (ruled O q s) hits n d r) → All Over r
    scan-keeps s zero d r a = a
    scan-keeps s (suc n) d r a = turn-keeps (hits d) s d r (scan-keeps s n (suc d) (turn_of O (ruled O q s) (hits d) d r) a)

    -- from the higher start every report scores above it
    turn-over : (o : Option O.S) (d : ℕ) (r : List (Report O.S)) → FinOf O L o → GoodRows O L r → All Over r
        → All Over (turn_of O (ruled O q hi) o d r) × GoodRows O L (turn_of O (ruled O q hi) o d r)
    turn-over none d r f g a = (a, g)
    turn-over (some x) d r f g a =
        offer-all O (ruled O q hi) (λ z. All Over z × GoodRows O L z) d x r
        (λ e.
        let h = above-true O L x (threshold_after O q hi (scores r)) f (after-fin O L q hi (scores r) ok_h g) e in
        let m = two-starts O L q lo hi (scores r) ok_l ok_h up g in (
          all_append Over r (record { doc = d; score = x } ∷ []) a
              (lt_above O L x hi f (start-fin O L q hi ok_h) (omega arith), tt),
          good-put O L d x r g f,
        ))
        (λ e. (a, g))

    scan-over : (n d : ℕ) (r : List (Report O.S)) → GoodRows O L r → All Over r → All Over (scan O (ruled O q hi) hits n d r)
    scan-over zero d r g a = a
    scan-over (suc n) d r g a = let t = turn-over (hits d) d r (fin d) g a in scan-over n (suc d) (turn_of O (ruled O q hi) (hits d) d r) t.1 t.0

    -- where the lower start reports only what scores above the higher, one document goes alike
    turn-same : (o : Option O.S) (d : ℕ) (r : List (Report O.S)) → FinOf O L o → GoodRows O L r
        → All Over (turn_of O (ruled O q lo) o d r)
        → (turn_of O (ruled O q lo) o d r ≡ turn_of O (ruled O q hi) o d r) × GoodRows O L (turn_of O (ruled O q lo) o d r)
    turn-same none d r f g a = (refl, g)
    turn-same (some x) d r f g a =
        offer-all O (ruled O q lo) (λ z. All Over z → (z ≡ turn_of O (ruled O q hi) (some x) d r) × GoodRows O L z) d x r
        (λ e b.
        let h = above-true O L x (threshold_after O q lo (scores r)) f (after-fin O L q lo (scores r) ok_l g) e in
        let m = two-starts O L q lo hi (scores r) ok_l ok_h up g in
        let w = above-true O L x hi f (start-fin O L q hi ok_h) (all_back Over r (record { doc = d; score = x } ∷ []) b).0 in
        (rw (lt_above O L x (threshold_after O q hi (scores r)) f (after-fin O L q hi (scores r) ok_h g) (omega arith)), good-put O L d x r g f))
        (λ e b.
        let h = above-false O L x (threshold_after O q lo (scores r)) f (after-fin O L q lo (scores r) ok_l g) e in
        let m = two-starts O L q lo hi (scores r) ok_l ok_h up g in
        (rw (le-above O L x (threshold_after O q hi (scores r)) f (after-fin O L q hi (scores r) ok_h g) (omega arith)), g))
        a

    scan-same : (n d : ℕ) (r : List (Report O.S)) → GoodRows O L r → All Over (scan O (ruled O q lo) hits n d r)
        → scan O (ruled O q lo) hits n d r ≡ scan O (ruled O q hi) hits n d r
    scan-same zero d r g a = refl
    scan-same (suc n) d r g a =
        let t = turn-same (hits d) d r (fin d) g (scan-keeps lo n (suc d) (turn_of O (ruled O q lo) (hits d) d r) a) in
        scan-same n (suc d) (turn_of O (ruled O q lo) (hits d) d r) t.1 a ∙ ap (scan O (ruled O q hi) hits n (suc d)) t.0

    -- the equivalence
    pub starts : (N : ℕ) → (scan O (ruled O q lo) hits N 0 [] ≡ scan O (ruled O q hi) hits N 0 []) ↔ All Over (scan O (ruled O q lo) hits N 0 [])
    starts N = (λ e. subst (All Over) (sym e) (scan-over N 0 [] tt tt), λ a. scan-same N 0 [] tt a)
