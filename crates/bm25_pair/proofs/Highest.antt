-- The highest of n scores that are numbers: none lies above it, every earlier one lies below it, and no other place has both.
use mathlib.Core.Path.{◌≡◌, refl, sym, ap, ◌∙◌}
use mathlib.Core.Logic.{⊎_elim}
use mathlib.Core.Bool.{Bool, true, false, cond, true≢false}
use Prim.Native.Nat.{ℕ, zero, suc, ◌+◌, ◌≤◌, ◌<◌}
use native.Mathlib.Nat.{le_refl, le_of_lt, eq-or-lt_of_le, le_of_suc-le-suc, not-suc-le-zero}
use native.Mathlib.Numerals.{add-one}
use native.Mathlib.Omega.{arith}
use lib.Dec.{T, lit<}
use lib.Ieee.{Float, lt}
use Rattle.floats.specs.Step.{within}
use Rattle.floats.proofs.Order.{not-above, lower-below}
use Rattle.arrays.proofs.Order.{lt-or-ge}
use Rattle.bm25_pair.specs.Pair.{highest}
use Rattle.bm25_pair.proofs.Numbers.{not-below-itself, one_way}

-- what is asked of a place m among n scores
pub record Highest (s : ℕ → Float) (n m : ℕ) : Type 0 where
  pub most : (i : ℕ) → i < n → lt (s m) (s i) ≡ false
  pub first : (i : ℕ) → i < m → lt (s i) (s m) ≡ true

picked-in : (n m : ℕ) (b : Bool) → m ≤ n → cond b n m < suc n
picked-in n m true h = le_refl (suc n)
picked-in n m false h = omega arith

module _ (s : ℕ → Float) where
  up_to : (n : ℕ) → highest s n ≤ n
  unfolding highest
  up_to zero = le_refl 0
  up_to (suc n) = le_of_lt (picked-in n (highest s n) (lt (s (highest s n)) (s n)) (up_to n))

  pub highest-in : (n : ℕ) → 0 < n → highest s n < n
  unfolding highest
  highest-in zero h = absurd (not-suc-le-zero h)
  highest-in (suc n) h = picked-in n (highest s n) (lt (s (highest s n)) (s n)) (up_to n)

  -- a loop that keeps the place begins behind the first score, and looks at one score more
  pub begins : 0 ≡ highest s 1
  begins = let l = highest-in 1 (lit< tt) in omega arith

  pub moves : (n : ℕ) {m : ℕ} → m ≡ highest s n → lt (s m) (s n) ≡ true → n ≡ highest s (n + 1)
  unfolding highest
  moves n e t = rw (add-one, ← e, t)

  pub stays : (n : ℕ) {m : ℕ} → m ≡ highest s n → lt (s m) (s n) ≡ false → m ≡ highest s (n + 1)
  unfolding highest
  stays n e t = rw (add-one, ← e, t)

-- scores that agree have one place
pub highest-same : (s t : ℕ → Float) (n : ℕ) → ((i : ℕ) → i < n → s i ≡ t i) → highest s n ≡ highest t n
unfolding highest
highest-same s t zero h = refl
highest-same s t (suc n) h =
    step (highest s n) (up_to s n) ∙ ap (λ (m : ℕ). cond (lt (t m) (t n)) n m) (highest-same s t n (λ i l. h i (omega arith)))
  where
    step : (m : ℕ) → m ≤ n → cond (lt (s m) (s n)) n m ≡ cond (lt (t m) (t n)) n m
    step m l = rw (h m (omega arith), h n (omega arith))

module _ (N : ℕ) (s : ℕ → Float) where
  -- one score more
  raised : (n m : ℕ) → ((i : ℕ) → i < suc n → T (within N (s i))) → (0 < n → m < n) → Highest s n m → lt (s m) (s n) ≡ true
      → Highest s (suc n) n
  raised n m w h H t = record {
    most = λ i l. ⊎_elim (λ e. rw e (not-below-itself N (s n) (w n (le_refl (suc n)))))
        (λ k. one_way N (s i) (s n) (w i l) (w n (le_refl (suc n))) (lower i k)) (eq-or-lt_of_le (le_of_suc-le-suc l));
    first = lower;
  }
    where
      lower : (i : ℕ) → i < n → lt (s i) (s n) ≡ true
      lower i k =
          let M = w m (let g = h (omega arith) in omega arith) in
          let I = w i (omega arith) in
          lower-below N (s i) (s m) (s n) I M (not-above N (s i) (s m) I M (H.most i k)) t

  kept : (n m : ℕ) → Highest s n m → lt (s m) (s n) ≡ false → Highest s (suc n) m
  kept n m H t = record {
    most = λ i l. ⊎_elim (λ e. rw e t) (λ k. H.most i k) (eq-or-lt_of_le (le_of_suc-le-suc l));
    first = H.first;
  }

  picked : (n m : ℕ) (b : Bool) → ((i : ℕ) → i < suc n → T (within N (s i))) → (0 < n → m < n) → Highest s n m → lt (s m) (s n) ≡ b
      → Highest s (suc n) (cond b n m)
  picked n m true w h H t = raised n m w h H t
  picked n m false w h H t = kept n m H t

  pub highest-is : (n : ℕ) → ((i : ℕ) → i < n → T (within N (s i))) → Highest s n (highest s n)
  unfolding highest
  highest-is zero w = record { most = λ i l. absurd (not-suc-le-zero l); first = λ i l. absurd (not-suc-le-zero l) }
  highest-is (suc n) w =
      picked n (highest s n) (lt (s (highest s n)) (s n)) w (highest-in s n) (highest-is n (λ i l. w i (omega arith))) refl

  -- no score lies above it
  pub highest-most : (n i : ℕ) → ((i : ℕ) → i < n → T (within N (s i))) → i < n → lt (s (highest s n)) (s i) ≡ false
  highest-most n i w l = (highest-is n w).most i l

  -- every earlier one lies below it
  pub highest-first : (n i : ℕ) → ((i : ℕ) → i < n → T (within N (s i))) → i < highest s n → lt (s i) (s (highest s n)) ≡ true
  highest-first n i w l = (highest-is n w).first i l

  -- a place with both is the place
  pub highest-only : (n m : ℕ) → ((i : ℕ) → i < n → T (within N (s i))) → m < n → Highest s n m → highest s n ≡ m
  highest-only n m w l H =
      let h = highest s n in
      let inside = highest-in s n (omega arith) in
      ⊎_elim (λ k. absurd (true≢false (sym (H.first h k) ∙ highest-most n m w l)))
      (λ k. ⊎_elim (λ g. absurd (true≢false (sym (highest-first n m w g) ∙ H.most h inside))) (λ g. omega arith) (lt-or-ge m h))
      (lt-or-ge h m)
