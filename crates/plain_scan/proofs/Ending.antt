-- The route of the plain scan ends, and its list is 01's.
use mathlib.Core.Path.{◌≡◌, refl, sym, ap, ◌∙◌}
use mathlib.Core.List.{[]}
use mathlib.Core.Option.{Option, none, some}
use Prim.Native.Nat.{ℕ, zero, suc, ◌+◌, ◌-◌, ◌≤◌}
use native.Mathlib.Nat.{add-zero, le_refl}
use native.Mathlib.Omega.{arith}
use lib.Dec.{leb}
use lib.Ieee.{Float}
use borrow.Author.Tests.{le-leb, leb-false, lt-leb}
use Rattle.route.specs.F32.{f32}
use Rattle.route.specs.Report.{Callback, reported}
use Rattle.route.specs.Postings.{TERMINATED}
use Rattle.route.specs.Plain.{scan, turn_of}
use Rattle.route.specs.Route.{Ends, Run, after}
use Rattle.route.proofs.Ending.{Nears, Stays}
use Rattle.plain_scan.specs.Inner.Turns.{due_for, scan_route}

module _ (H : ℕ → Option Float) where
  pub scan-stays : Stays (scan_route H)
  scan-stays t d e = rw e

  pub scan-nears : Nears (scan_route H) (λ d. Unit {0}) (λ d. TERMINATED - d)
  scan-nears = record {
    begins = tt;
    nears = λ t d e k. (tt, rw e (let l = leb-false TERMINATED d e in omega arith));
  }

  module _ (K : Callback Float) where
    -- a turn offers its document
    offers : (d : ℕ) (o : Option Float) (r : K.State) → reported K (due_for (K.threshold r) d o) r ≡ turn_of f32 K o d r
    offers d none r = refl
    offers d (some x) r = refl

    scan-snoc : (n d : ℕ) (r : K.State) → scan f32 K H (suc n) d r ≡ turn_of f32 K (H (d + n)) (d + n) (scan f32 K H n d r)
    scan-snoc zero d r = ap (λ (i : ℕ). turn_of f32 K (H i) i r) (sym (add-zero d))
    scan-snoc (suc n) d r = scan-snoc n (suc d) (turn_of f32 K (H d) d r)
        ∙ ap (λ (i : ℕ). turn_of f32 K (H i) i (scan f32 K H (suc n) d r)) (let e : suc d + n ≡ d + suc n = omega arith in e)

    -- as many turns as documents
    after-scan : (n : ℕ) (r : K.State) → n ≤ TERMINATED → after K (scan_route H) r n ≡ record { place = n; state = scan f32 K H n 0 r }
    after-scan zero r h = refl
    after-scan (suc n) r h =
        let l = lt-leb TERMINATED n (omega arith) in
        let z : 0 + n ≡ n = omega arith in
        rw (after-scan n r (omega arith), l)
        (ap (λ (s : K.State). record { place = suc n; state = s }) (offers n (H n) (scan f32 K H n 0 r) ∙ sym (scan-snoc n 0 r ∙ ap (λ (i : ℕ). turn_of f32 K (H i) i (scan f32 K H n 0 r)) z)))

    -- behind the last document nothing matches
    scan-none : (n d : ℕ) (r : K.State) → ((x : ℕ) → d ≤ x → H x ≡ none) → scan f32 K H n d r ≡ r
    scan-none zero d r f = refl
    scan-none (suc n) d r f =
        ap (λ (o : Option Float). scan f32 K H n (suc d) (turn_of f32 K o d r)) (f d (omega arith)) ∙ scan-none n (suc d) r (λ x h. f x (omega arith))

    scan-cut : (m n d : ℕ) (r : K.State) → scan f32 K H (m + n) d r ≡ scan f32 K H n (d + m) (scan f32 K H m d r)
    scan-cut zero n d r = rw (let e : 0 + n ≡ n = omega arith in e, add-zero d)
    scan-cut (suc m) n d r =
        ap (λ (i : ℕ). scan f32 K H i d r) (let e : suc m + n ≡ suc (m + n) = omega arith in e) ∙ scan-cut m n (suc d) (turn_of f32 K (H d) d r)
        ∙ ap (λ (i : ℕ). scan f32 K H n i (scan f32 K H (suc m) d r)) (let e : suc d + m ≡ d + suc m = omega arith in e)

    ends_at : (M N : ℕ) → TERMINATED ≤ M → M ≤ TERMINATED → N ≤ M → ((x : ℕ) → N ≤ x → H x ≡ none) → (r : K.State) → Ends K (scan_route H) r (scan f32 K H N 0 r)
    ends_at M N g h few f r =
        let e = after-scan M r h in
        let m : N + (M - N) ≡ M = omega arith in
        record {
          steps = M;
          ended = ap (λ (u : Run ℕ K.State). leb TERMINATED u.place) e ∙ le-leb TERMINATED M g;
          leaves = ap (λ (u : Run ℕ K.State). u.state) e ∙ ap (λ (i : ℕ). scan f32 K H i 0 r) (sym m) ∙ scan-cut N (M - N) 0 r
              ∙ scan-none (M - N) (0 + N) (scan f32 K H N 0 r) (λ x k. f x (omega arith));
        }

    -- THE LIST OF THE ROUTE is what the scan makes of the documents below N
    pub scan-ends : (N : ℕ) → N ≤ TERMINATED → ((x : ℕ) → N ≤ x → H x ≡ none) → (r : K.State) → Ends K (scan_route H) r (scan f32 K H N 0 r)
    scan-ends N few f r = ends_at TERMINATED N (le_refl TERMINATED) (le_refl TERMINATED) few f r
