-- Frequencies: a test in 32 bits is one of the frequency, and the loop over a block.
use Rattle.std.proofs.Common.{◌≡◌, ℕ, ◌+◌, ◌%◌, ◌<◌, ◌≤◌, Bool, true, false, ltb, leb, List, length, get_or, set, sym, refl, ap, ◌∙◌, ⊎_elim, mod-eq_of_lt, arith, leb-true}
use Rattle.arrays.specs.Every.{every}
use Rattle.arrays.proofs.Order.{lt-or-ge}
use Rattle.arrays.proofs.Every.{second-true, stays, lowered, each}
use Rattle.arrays.proofs.Filling.{Filling, begun as filling, goes_on}
use Rattle.compression.specs.Documents.{gap_of}
use Rattle.frequencies.specs.Frequencies.{freq_right}
use Rattle.frequencies.specs.Inner.Counts.{Counted}
use Rattle.compression.proofs.Differences.{gap-small}

-- one that leaves 32 bits is 0 there, which is wrong too
right-wraps : (f : ℕ) → f ≤ 4294967296 → freq_right (f % 4294967296) ≡ freq_right f
right-wraps f h = ⊎_elim (λ l. ap freq_right (mod-eq_of_lt l)) (λ l. let e : f ≡ 4294967296 = omega arith in rw e refl) (lt-or-ge f 4294967296)

-- i frequencies are in their places, and `right` says whether they are right
pub record Counting (vs : List ℕ) (n : ℕ) (strict : Bool) (out : List ℕ) (right : Bool) (i : ℕ) : Type 0 where
  pub within : i ≤ n
  pub same : right ≡ every i (λ k. freq_right (get_or vs k 0 + gap_of strict))
  pub place : Filling 0 128 (λ k. (get_or vs k 0 + gap_of strict) % 4294967296) vs i out

pub begun : {vs : List ℕ} (strict : Bool) (n : ℕ) → length vs ≡ 128 → Counting vs n strict vs true 0
begun {vs} strict n h = record { within = omega arith; same = refl; place = filling 0 128 (λ k. (get_or vs k 0 + gap_of strict) % 4294967296) vs h }

module _ {vs : List ℕ} {n : ℕ} {strict : Bool} {out : List ℕ} {right : Bool} {i : ℕ} (C : Counting vs n strict out right i) where
  module _ (h : i < n) (top : n ≤ 128) (small : (k : ℕ) → k < n → get_or vs k 0 < 4294967296) {g f : ℕ} (e : g ≡ gap_of strict) (s : f ≡ (get_or out i 0 + g) % 4294967296) where
    freq-is : f ≡ (get_or vs i 0 + gap_of strict) % 4294967296
    freq-is = s ∙ ap (λ (x : ℕ). (x + g) % 4294967296) (C.place.rest i (omega arith)) ∙ ap (λ (x : ℕ). (get_or vs i 0 + x) % 4294967296) e

    test-is : {b : Bool} → b ≡ freq_right f → freq_right (get_or vs i 0 + gap_of strict) ≡ b
    test-is t = sym (t ∙ ap freq_right freq-is ∙ right-wraps (get_or vs i 0 + gap_of strict) (omega (arith, gap-small strict, small i h)))

    counted : {a : Bool} → a ≡ every (i + 1) (λ k. freq_right (get_or vs k 0 + gap_of strict)) → Counting vs n strict (set out i f) a (i + 1)
    counted q = record { within = omega arith; same = q; place = goes_on 0 128 _ _ _ _ f (omega arith) freq-is C.place }

    pub one_right : {a b : Bool} → b ≡ freq_right f → b ≡ true → a ≡ right → Counting vs n strict (set out i f) a (i + 1)
    one_right t u q = counted (stays (λ k. freq_right (get_or vs k 0 + gap_of strict)) i C.same (test-is t ∙ u) q)

    pub one-wrong : {a b : Bool} → b ≡ freq_right f → b ≡ false → a ≡ false → Counting vs n strict (set out i f) a (i + 1)
    one-wrong t u q = counted (lowered (λ k. freq_right (get_or vs k 0 + gap_of strict)) i (test-is t ∙ u) q)

-- right frequencies fit
pub right-freq : {vs : List ℕ} {n : ℕ} {strict right : Bool} {out : List ℕ} → Counted vs n strict right out → right ≡ true → (i : ℕ) → i < n → get_or out i 0 ≡ get_or vs i 0 + gap_of strict
right-freq {vs} {n} {strict} C e i h =
    let f = get_or vs i 0 + gap_of strict in
    let r : freq_right f ≡ true = each (λ k. freq_right (get_or vs k 0 + gap_of strict)) n i (sym C.same ∙ e) h in
    C.freqs i h ∙ mod-eq_of_lt (omega (arith, leb-true f 2013265944 (second-true (ltb 0 f) (leb f 2013265944) r)))
