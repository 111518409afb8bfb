-- The plain scan offers all matching documents, upward; so best k's first are those of all matches above the start.
use mathlib.Core.List.{List, [], ◌∷◌, ◌++◌}
use mathlib.Core.Option.{Option, none, some}
use mathlib.Core.Path.{ap, refl, ◌∙◌, ◌≡◌}
use Prim.Native.Nat.{ℕ, suc, zero, ◌<◌}
use native.Mathlib.Omega.{arith}
use Rattle.arrays.specs.Every.{All}
use Rattle.route.specs.Score.{Ops}
use Rattle.route.specs.Report.{Callback, Report}
use Rattle.route.specs.Rule.{best, ruled}
use Rattle.route.specs.Postings.{Postings}
use Rattle.route.specs.Plain.{Mode, hit, plain, scan, turn_of}
use Rattle.route.proofs.Order.{FinOf, Ordered}
use Rattle.best_notes.specs.Best.{best_of}
use Rattle.best_notes.specs.Matches.{matches, matching_from, scored}
use Rattle.best_notes.specs.Inner.Offered.{Rising, offered}
use Rattle.best_notes.proofs.Reported.{best-of-reports}

-- no other document is offered, and none twice
pub scan-offered : (O : Ops) (K : Callback O.S) (h : ℕ → Option O.S) (n d : ℕ) (r : K.State) → scan O K h n d r ≡ offered O K (matching_from h n d) r
scan-offered O K h zero d r = refl
scan-offered O K h (suc n) d r = scan-offered O K h n (suc d) (turn_of O K (h d) d r) ∙ one (h d)
  where
    one : (o : Option O.S) → offered O K (matching_from h n (suc d)) (turn_of O K o d r) ≡ offered O K (scored d o ++ matching_from h n (suc d)) r
    one none = refl
    one (some x) = refl

module _ {S : Type 0} where
  from-later : (d : ℕ) (l : List (Report S)) → Rising (suc d) l → Rising d l
  from-later d [] r = tt
  from-later d (x ∷ xs) r = let h = r.0 in (omega arith, r.1)

  pub matching-rises : (h : ℕ → Option S) (n d : ℕ) → Rising d (matching_from h n d)
  matching-rises h zero d = tt
  matching-rises h (suc n) d = go (h d) (matching-rises h n (suc d))
    where
      go : (o : Option S) → Rising (suc d) (matching_from h n (suc d)) → Rising d (scored d o ++ matching_from h n (suc d))
      go none r = from-later d (matching_from h n (suc d)) r
      go (some x) r = (omega arith, r)

module _ (O : Ops) (L : Ordered O) where
  matching-fine : (h : ℕ → Option O.S) → ((d : ℕ) → FinOf O L (h d)) → (n d : ℕ) → All (λ y. L.Fin y.score) (matching_from h n d)
  matching-fine h fin zero d = tt
  matching-fine h fin (suc n) d = go (h d) (fin d) (matching-fine h fin n (suc d))
    where
      go : (o : Option O.S) → FinOf O L o → All (λ y. L.Fin y.score) (matching_from h n (suc d))
          → All (λ y. L.Fin y.score) (scored d o ++ matching_from h n (suc d))
      go none f a = a
      go (some x) f a = (f, a)

  -- THE FIRST k OF THE PLAIN SCAN UNDER BEST k ARE THE FIRST k OF ALL MATCHES ABOVE THE START
  pub plain-best : (k : ℕ) (s : O.S) → 0 < k → L.Fin s → (m : Mode) (q : List (Postings O.S)) (N : ℕ) → ((d : ℕ) → FinOf O L (hit O m q d))
      → best_of O k (plain O m q (best k) s N) ≡ best_of O k (matches O m q s N)
  plain-best k s some-kept fs m q N fin =
      ap (best_of O k) (scan-offered O (ruled O (best k) s) (hit O m q) N 0 [])
      ∙ best-of-reports O L k s some-kept fs (matching_from (hit O m q) N 0) (matching-rises (hit O m q) N 0) (matching-fine (hit O m q) fin N 0)
