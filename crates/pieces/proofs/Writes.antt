-- Bytes written one after another.
use mathlib.Core.Path.{◌≡◌, refl, sym, ap, ◌∙◌, subst}
use mathlib.Core.List.{List}
use mathlib.Core.Bool.{cond}
use mathlib.Core.Logic.{⊎_elim}
use Prim.Native.Nat.{ℕ, ◌+◌, ◌-◌, ◌<◌}
use native.Mathlib.Nat.{not-suc-le-zero}
use native.Mathlib.Omega.{arith}
use lib.Dec.{ltb}
use lib.ListN.{length, set, length-set}
use lib.Seq.{get_or-set_same, get_or-set_other}
use borrow.Author.Tests.{lt-ltb, le-ltb}
use Rattle.arrays.proofs.Order.{lt-or-ge}
use Rattle.pieces.specs.Inner.Written.{Written}

pub none : (before : List ℕ) (p : ℕ) (f : ℕ → ℕ) → Written before p 0 f before
none before p f = record { long = refl; inside = λ k l. absurd (not-suc-le-zero l); below = λ k l. refl; past = λ k l. refl }

module _ {before : List ℕ} {p n : ℕ} {f : ℕ → ℕ} {xs : List ℕ} (W : Written before p n f xs) where
  -- one byte more, at place q
  pub one : (q x : ℕ) → q ≡ p + n → q < length before → x ≡ f n → Written before p (n + 1) f (set xs q x)
  one q x e h g = record {
    long = length-set xs q x ∙ W.long;
    inside = λ k l. ⊎_elim
        (λ m. get_or-set_other xs q (p + k) x 0 (λ (z : p + k ≡ q). omega arith) ∙ W.inside k m)
        (λ m.
        let z : k ≡ n = omega arith in
        let y : p + k ≡ q = omega arith in
        rw y (get_or-set_same xs q x 0 (let l = W.long in omega arith) ∙ g ∙ ap f (sym z)))
        (lt-or-ge k n);
    below = λ k l. get_or-set_other xs q k x 0 (λ (z : k ≡ q). omega arith) ∙ W.below k l;
    past = λ k l. get_or-set_other xs q k x 0 (λ (z : k ≡ q). omega arith) ∙ W.past k (omega arith);
  }

  -- m bytes more, from place q on
  pub also : {q m : ℕ} {g : ℕ → ℕ} {ys : List ℕ} → Written xs q m g ys → q ≡ p + n
      → ((k : ℕ) → k < m → g k ≡ f (n + k)) → Written before p (n + m) f ys
  also {q} {m} {g} {ys} X e h = record {
    long = X.long ∙ W.long;
    inside = λ k l. ⊎_elim
        (λ s. X.below (p + k) (omega arith) ∙ W.inside k s)
        (λ s.
        let z : p + k ≡ q + (k - n) = omega arith in
        let y : n + (k - n) ≡ k = omega arith in
        rw z (X.inside (k - n) (omega arith) ∙ h (k - n) (omega arith) ∙ ap f y))
        (lt-or-ge k n);
    below = λ k l. X.below k (omega arith) ∙ W.below k l;
    past = λ k l. X.past k (omega arith) ∙ W.past k (omega arith);
  }

  -- the same bytes, said otherwise
  pub recast : (g : ℕ → ℕ) → ((k : ℕ) → k < n → f k ≡ g k) → Written before p n g xs
  recast g h = record { long = W.long; inside = λ k l. W.inside k l ∙ h k l; below = W.below; past = W.past }

  -- as many bytes as it says
  pub fully : {m : ℕ} → n ≡ m → Written before p m f xs
  fully e = subst (λ (x : ℕ). Written before p x f xs) e W

-- n bytes, and others behind them
abbrev pub behind : ℕ → (ℕ → ℕ) → (ℕ → ℕ) → ℕ → ℕ
behind n f g k = cond (ltb k n) (f k) (g (k - n))

-- two writes one after another are one
pub both : {before mid after : List ℕ} {p n m : ℕ} {f g : ℕ → ℕ} → Written before p n f mid → Written mid (p + n) m g after
    → Written before p (n + m) (behind n f g) after
both {before} {mid} {after} {p} {n} {m} {f} {g} W X = also (recast W (behind n f g) low) X refl high
  where
    low : (k : ℕ) → k < n → f k ≡ behind n f g k
    low k h = simp (lt-ltb k n h)

    over : (n k : ℕ) → n + k - n ≡ k
    over n k = omega arith

    high : (k : ℕ) → k < m → g k ≡ behind n f g (n + k)
    high k h = simp (le-ltb (n + k) n (omega arith), over n k)
