-- How a run by turns is put together: no turn yet, one more without a report, and its three ends.
use mathlib.Core.Path.{◌≡◌, refl, ap, sym, subst, ◌∙◌}
use mathlib.Core.Bool.{Bool, true, false}
use mathlib.Core.Logic.{inl, inr}
use mathlib.Core.Option.{none, some}
use Prim.Native.Nat.{ℕ, zero, suc, ◌+◌, ◌≤◌, ◌<◌}
use native.Mathlib.Nat.{add-suc, add-zero}
use native.Mathlib.Omega.{arith}
use lib.Ieee.{Float}
use Rattle.arrays.proofs.Order.{lt-or-ge}
use Rattle.route.specs.Route.{Turn}
use Rattle.reports.specs.Inner.Turns.{after_turns, Silent, Went}
use Rattle.reports.specs.declared.Event.TheVariants.{Over, Paused, Report}

module _ {P : Type 0} (turn : Float → P → Turn P Float) (ended : P → Bool) (t : Float) where
  abbrev at : P → ℕ → P
  at p n = after_turns turn ended t p n

  -- n turns lead from p to q without a report
  pub record Quietly (p : P) (n : ℕ) (q : P) : Type 0 where
    pub place_is : q ≡ at p n
    pub silent : Silent turn ended t p n

  pub none_yet : (p : P) → Quietly p 0 p
  none_yet p = record { place_is = refl; silent = λ k h. absurd (omega arith) }

  module _ {p : P} {n : ℕ} {q : P} (S : Quietly p n q) where
    -- one turn more
    pub one_more : {r : P} → ended q ≡ false → (turn t q).due ≡ none → (turn t q).next ≡ r → Quietly p (suc n) r
    one_more e f g = record {
      place_is = sym (ap (λ (z : P). (turn t z).next) (sym S.place_is) ∙ g);
      silent = λ k h. last k h;
    }
      where
        here : (ended (at p n) ≡ false) × ((turn t (at p n)).due ≡ none)
        here = subst (λ (z : P). (ended z ≡ false) × ((turn t z).due ≡ none)) S.place_is (e, f)

        last : (k : ℕ) → k < suc n → (ended (at p k) ≡ false) × ((turn t (at p k)).due ≡ none)
        last k h = elim (lt-or-ge k n) [
          | inl l ↦ S.silent k l
          | inr b ↦ let e : n ≡ k = omega arith in subst (λ (i : ℕ). (ended (at p i) ≡ false) × ((turn t (at p i)).due ≡ none)) e here
        ]

    -- its three ends
    pub at-end : {turns : ℕ} → n ≤ turns → ended q ≡ true → Went turn ended t p turns n q Over
    at-end h e = record { place_is = S.place_is; few = h; stood = (S.silent, ap ended (sym S.place_is) ∙ e) }

    pub at_pause : ended q ≡ false → Went turn ended t p n n q Paused
    at_pause e = record { place_is = S.place_is; few = omega arith; stood = (S.silent, ap ended (sym S.place_is) ∙ e, refl) }

    pub at-report : {turns : ℕ} {r : P} {doc : ℕ} {score : Float} → n < turns → ended q ≡ false → (turn t q).due ≡ some (record { doc = doc; score = score })
        → (turn t q).next ≡ r → Went turn ended t p turns (suc n) r (Report doc score)
    at-report h e f g = record {
      place_is = sym (ap (λ (z : P). (turn t z).next) (sym S.place_is) ∙ g);
      few = omega arith;
      stood = (n, refl, S.silent, ap ended (sym S.place_is) ∙ e, ap (λ (z : P). (turn t z).due) (sym S.place_is) ∙ f);
    }

  -- a stretch behind another
  pub and_then : {p q : P} {n : ℕ} → Quietly p n q → {m : ℕ} {r : P} → Quietly q m r → Quietly p (n + m) r
  and_then {p} {q} {n} S {m} T = chain m T.place_is T.silent
    where
      chain : (m : ℕ) {r : P} → r ≡ at q m → Silent turn ended t q m → Quietly p (n + m) r
      chain zero {r} e s = subst (λ (i : ℕ). Quietly p i r) (sym (add-zero n)) (record { place_is = e ∙ S.place_is; silent = S.silent })
      chain (suc m) {r} e s =
          let l = s m (omega arith) in
          subst (λ (i : ℕ). Quietly p i r) (sym (add-suc n m)) (one_more (chain m refl (λ i h. s i (omega arith))) l.0 l.1 (sym e))
