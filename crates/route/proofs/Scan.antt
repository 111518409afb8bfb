-- The plain scan can be cut in two, and documents that do not exceed the threshold can be passed over.
use mathlib.Core.Bool.{Bool, false, true}
use mathlib.Core.Option.{Option, none, some}
use mathlib.Core.Path.{ap, refl, sym, ◌∙◌, ◌≡◌}
use Prim.Native.Nat.{suc, zero, ℕ, ◌+◌, ◌-◌, ◌<◌, ◌≤◌}
use native.Mathlib.Nat.{add-suc, add-zero, suc-add, zero-add}
use native.Mathlib.Omega.{arith}
use lib.Dec.{leb}
use borrow.Author.Tests.{leb-false, leb-true}
use Rattle.route.specs.Score.{Ops}
use Rattle.route.specs.Report.{Callback, offer}
use Rattle.route.specs.Plain.{scan, turn_of}
use Rattle.route.proofs.Cases.{on_test}
use Rattle.route.proofs.Order.{FinOf, LowOf, NeverFalls, Ordered, le-above}

module _ (O : Ops) (K : Callback O.S) where
  -- an offer calls the callback, or leaves it as it was
  pub offer-all : (P : K.State → Type 0) (d : ℕ) (x : O.S) (r : K.State) → (O.above x (K.threshold r) ≡ true → P (K.call d x r))
      → (O.above x (K.threshold r) ≡ false → P r)
      → P (offer O K d x r)
  offer-all P d x r f g = on_test (O.above x (K.threshold r)) (λ e. rw e (f e)) (λ e. rw e (g e))

  pub scan-ext : (hits hits' : ℕ → Option O.S) → ((d : ℕ) → hits d ≡ hits' d) → (n d : ℕ) (r : K.State)
      → scan O K hits n d r ≡ scan O K hits' n d r
  scan-ext hits hits' e zero d r = refl
  scan-ext hits hits' e (suc n) d r = scan-ext hits hits' e n (suc d) (turn_of O K (hits d) d r) ∙ ap
      (λ o. scan O K hits' n (suc d) (turn_of O K o d r)) (e d)

module _ {O : Ops} {L : Ordered O} {K : Callback O.S} (G : NeverFalls O L K) where
  -- a score at or below the threshold changes nothing
  pub offer-low : (d : ℕ) (x : O.S) (r : K.State) → G.Good r → L.Fin x → L.rank x ≤ L.rank (K.threshold r) → offer O K d x r ≡ r
  offer-low d x r g f h = rw (le-above O L x (K.threshold r) f (G.threshold-fin r g) h)

  pub offer-good : (d : ℕ) (x : O.S) (r : K.State) → G.Good r → L.Fin x → G.Good (offer O K d x r)
  offer-good d x r g f = offer-all O K G.Good d x r (λ _. G.call-good d x r g f) (λ _. g)

  pub offer-rise : (d : ℕ) (x : O.S) (r : K.State) → G.Good r → L.Fin x → L.rank (K.threshold r) ≤ L.rank (K.threshold (offer O K d x r))
  offer-rise d x r g f = offer-all O K (λ z. L.rank (K.threshold r) ≤ L.rank (K.threshold z)) d x r (λ _. G.call-rise d x r g f)
      (λ _. omega arith)

  module _ (hits : ℕ → Option O.S) (fin : (d : ℕ) → FinOf O L (hits d)) where
    abbrev pub Low : ℕ → O.S → Type 0
    Low d t = LowOf O L (hits d) t

    turn_of-low : (o : Option O.S) (d : ℕ) (r : K.State) → G.Good r → FinOf O L o → LowOf O L o (K.threshold r) → turn_of O K o d r ≡ r
    turn_of-low none d r g f h = refl
    turn_of-low (some x) d r g f h = offer-low d x r g f h

    pub turn_low : (d : ℕ) (r : K.State) → G.Good r → Low d (K.threshold r) → turn_of O K (hits d) d r ≡ r
    turn_low d r g h = turn_of-low (hits d) d r g (fin d) h

    pub scan-add : (m n a : ℕ) (r : K.State) → scan O K hits (m + n) a r ≡ scan O K hits n (a + m) (scan O K hits m a r)
    scan-add zero n a r = rw (zero-add, add-zero)
    scan-add (suc m) n a r = rw (suc-add m n, add-suc a m, ← suc-add a m) (scan-add m n (suc a) (turn_of O K (hits a) a r))

    -- nothing from a up to a + n exceeds the threshold: the scan passes over it
    pub pass : (n a : ℕ) (r : K.State) → G.Good r → ((d : ℕ) → a ≤ d → d < a + n → Low d (K.threshold r)) → scan O K hits n a r ≡ r
    pass zero a r g h = refl
    pass (suc n) a r g h =
        rw (turn_low a r g (h a (omega arith) (omega arith))) (pass n (suc a) r g (λ d p q. h d (omega arith) (omega arith)))

    module _ (N : ℕ) where
      -- what the scan makes of the documents from a on
      abbrev pub rest : ℕ → K.State → K.State
      rest a r = scan O K hits (N - a) a r

      pass-in : (a b : ℕ) (r : K.State) → a ≤ b → b ≤ N → G.Good r → ((d : ℕ) → a ≤ d → d < b → d < N → Low d (K.threshold r))
          → rest a r ≡ rest b r
      pass-in a b r ab bn g h =
          let e : N - a ≡ (b - a) + (N - b) = omega arith in
          let f : a + (b - a) ≡ b = omega arith in
          ap (λ (k : ℕ). scan O K hits k a r) e
          ∙ scan-add (b - a) (N - b) a r
          ∙ ap (λ (k : ℕ). scan O K hits (N - b) k (scan O K hits (b - a) a r)) f
          ∙ ap (scan O K hits (N - b) b) (pass (b - a) a r g (λ d p q. h d p (omega arith) (omega arith)))

      pub rest_end : (a : ℕ) (r : K.State) → N ≤ a → rest a r ≡ r
      rest_end a r h = let e : N - a ≡ 0 = omega arith in ap (λ (k : ℕ). scan O K hits k a r) e

      -- THE LAW OF PASSING OVER
      pub pass-to : (a b : ℕ) (r : K.State) → a ≤ b → G.Good r → ((d : ℕ) → a ≤ d → d < b → d < N → Low d (K.threshold r)) → rest a r ≡ rest b r
      pass-to a b r ab g h = go (leb a N) (leb b N) refl refl
        where
          go : (s t : Bool) → leb a N ≡ s → leb b N ≡ t → rest a r ≡ rest b r
          go true true e f = pass-in a b r ab (leb-true b N f) g h
          go true false e f =
              let bn = leb-false b N f in
              pass-in a N r (leb-true a N e) (omega arith) g (λ d p q k. h d p (omega arith) k) ∙ rest_end N r (omega arith)
              ∙ sym (rest_end b r (omega arith))
          go false t e f = let an = leb-false a N e in rest_end a r (omega arith) ∙ sym (rest_end b r (omega arith))

      -- nothing from a on exceeds the threshold: the scan is over
      pub pass_all : (a : ℕ) (r : K.State) → G.Good r → ((d : ℕ) → a ≤ d → d < N → Low d (K.threshold r)) → rest a r ≡ r
      pass_all a r g h = pass-to a (a + N) r (omega arith) g (λ d p q k. h d p k) ∙ rest_end (a + N) r (omega arith)

      -- one document
      pub rest-turn : (a : ℕ) (r : K.State) → a < N → rest a r ≡ rest (suc a) (turn_of O K (hits a) a r)
      rest-turn a r h = let e : N - a ≡ suc (N - suc a) = omega arith in ap (λ (k : ℕ). scan O K hits k a r) e
