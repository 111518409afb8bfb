-- A route whose turns come nearer to its end gets there in a bounded number of steps, and leaves one list.
use mathlib.Core.Bool.{false, true}
use mathlib.Core.List.{[]}
use mathlib.Core.Path.{ap, sym, ◌∙◌, ◌≡◌}
use Prim.Native.Nat.{suc, zero, ℕ, ◌+◌, ◌<◌, ◌≤◌}
use native.Mathlib.Nat.{add_comm, add-suc, add-zero}
use native.Mathlib.Omega.{arith}
use Rattle.route.specs.Report.{Callback, reported}
use Rattle.route.specs.Route.{Ends, Route, Turn, after, quiet, step}
use Rattle.route.proofs.Cases.{on_test}

module _ {S : Type 0} (W : Route S) where
  -- each turn that is not at the end keeps `Kept` and lowers `cost`
  pub record Nears (Kept : W.Place → Type 0) (cost : W.Place → ℕ) : Type 0 where
    pub begins : Kept W.first
    pub nears : (t : S) (p : W.Place) → W.ended p ≡ false → Kept p → Kept (W.turn t p).next × (cost (W.turn t p).next < cost p)

  module _ (K : Callback S) (Kept : W.Place → Type 0) (cost : W.Place → ℕ) (h : Nears Kept cost) (r : K.State) where
    nearer : (n : ℕ) → W.ended (after K W r n).place ≡ false → Kept (after K W r n).place
        → Kept (after K W r (suc n)).place × (cost (after K W r (suc n)).place < cost (after K W r n).place)
    nearer n e kept = h.nears (K.threshold (after K W r n).state) (after K W r n).place e kept

    ends-from : (m n : ℕ) → Kept (after K W r n).place → cost (after K W r n).place ≤ m
        → (k : ℕ) × (k ≤ n + m) × (W.ended (after K W r k).place ≡ true)
    ends-from zero n kept c =
        on_test (W.ended (after K W r n).place) (λ e. (n, omega arith, e)) (λ e. absurd (omega (arith, (nearer n e kept).1)))
    ends-from (suc m) n kept c =
        on_test (W.ended (after K W r n).place) (λ e. (n, omega arith, e))
        (λ e.
        let s = nearer n e kept in
        let z = ends-from m (suc n) s.0 (omega (arith, s.1)) in
        (z.0, omega (arith, z.1), z.2))

    -- THE ROUTE ENDS, within `cost` steps
    pub ends-within : (n : ℕ) × (n ≤ cost W.first) × (W.ended (after K W r n).place ≡ true)
    ends-within = let z = ends-from (cost W.first) 0 h.begins (omega arith) in (z.0, omega (arith, z.1), z.2)

  -- a route stays at its end, so that it leaves one list
  abbrev pub Stays : Type 0
  Stays = (t : S) (p : W.Place) → W.ended p ≡ true → W.turn t p ≡ quiet p []

  module _ (K : Callback S) (stays : Stays) where
    pub stays_on : (r : K.State) (n m : ℕ) → W.ended (after K W r n).place ≡ true → after K W r (n + m) ≡ after K W r n
    stays_on r n zero e = ap (after K W r) (add-zero n)
    stays_on r n (suc m) e =
        let u = after K W r n in
        ap (after K W r) (add-suc n m) ∙ ap (step K W) (stays_on r n m e)
        ∙ ap (λ (t : Turn W.Place S). record { place = t.next; state = reported K t.due u.state })
        (stays (K.threshold u.state) u.place e)

    pub one_end : (r a b : K.State) → Ends K W r a → Ends K W r b → a ≡ b
    one_end r a b x y =
        let n = x.steps in
        let m = y.steps in
        sym x.leaves ∙ ap (λ u. u.state) (sym (stays_on r n m x.ended) ∙ ap (after K W r) (add_comm n m) ∙ stays_on r m n y.ended)
        ∙ y.leaves
