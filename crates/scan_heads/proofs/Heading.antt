-- The documents on which scorers stand: filled in one by one, and the least of them.
use mathlib.Core.Path.{◌≡◌, ap, ◌∙◌}
use mathlib.Core.List.{List, []}
use mathlib.Core.Logic.{inl, inr}
use Prim.Native.Nat.{ℕ, zero, suc, min, ◌+◌, ◌≤◌, ◌<◌}
use native.Mathlib.Numerals.{add-one}
use native.Mathlib.Omega.{arith}
use lib.ListN.{get_or, set, length-set}
use lib.Seq.{get_or-set_same, get_or-set_other}
use Rattle.arrays.proofs.Order.{lt-or-ge}
use Rattle.notefile.specs.Inner.Reads.{docs_of}
use Rattle.term_scorer.specs.Inner.Slots.{Sixteen, Blank}
use Rattle.scan_heads.specs.Inner.Heads.{least_in, HeadsOf}

pub no-heads : (places : List (List ℕ)) (blocks : List (List (List ℕ))) (heads : List ℕ) → Sixteen heads → Blank 2147483647 0 heads → HeadsOf places blocks 0 heads
no-heads places blocks heads l b = record { long = l; are = λ q h. absurd (omega (arith, h)); behind = b }

pub one-more-head : (places : List (List ℕ)) (blocks : List (List (List ℕ))) (heads : List ℕ) (n : ℕ) → n < 16 → HeadsOf places blocks n heads
    → {doc : ℕ} → doc ≡ get_or (docs_of (get_or blocks n [])) (get_or (get_or places n []) 6 0) 0 → HeadsOf places blocks (n + 1) (set heads n doc)
one-more-head places blocks heads n h H {doc} is = record {
  long = length-set heads n doc ∙ H.long;
  are = λ q k. elim (lt-or-ge q n) [
    | inl l ↦ get_or-set_other heads n q _ 0 (λ e. omega (arith, e, l)) ∙ H.are q l
    | inr g ↦
        let e : q ≡ n = omega (arith, g, k) in
        rw e (get_or-set_same heads n _ 0 (omega (arith, h, H.long)) ∙ is)
  ];
  behind = record { blank = λ q g k. get_or-set_other heads n q _ 2147483647 (λ e. omega (arith, e, g)) ∙ H.behind.blank q (omega arith) k };
}

-- one document more
pub least-next : (heads : List ℕ) (q : ℕ) → least_in heads (q + 1) ≡ min (least_in heads q) (get_or heads q 0)
least-next heads q = ap (least_in heads) (add-one q)

-- ---- what the least is

pub least-low : (heads : List ℕ) (n q : ℕ) → q < n → least_in heads n ≤ get_or heads q 0
least-low heads zero q h = absurd (omega arith)
least-low heads (suc n) q h = elim (lt-or-ge q n) [
  | inl l ↦ omega (arith, least-low heads n q l)
  | inr g ↦ let e : q ≡ n = omega (arith, g, h) in rw e (omega arith)
]

pub least-cap : (heads : List ℕ) (n : ℕ) → least_in heads n ≤ 2147483647
least-cap heads zero = omega arith
least-cap heads (suc n) = omega (arith, least-cap heads n)

-- what is below each is below the least
pub least_above : (heads : List ℕ) (n d : ℕ) → d ≤ 2147483647 → ((q : ℕ) → q < n → d ≤ get_or heads q 0) → d ≤ least_in heads n
least_above heads zero d c f = c
least_above heads (suc n) d c f = omega (arith, least_above heads n d c (λ q h. f q (omega (arith, h))), f n (omega arith))

-- some scorer stands on it
pub least-found : (heads : List ℕ) (n : ℕ) → least_in heads n < 2147483647 → (q : ℕ) × (q < n) × (get_or heads q 0 ≡ least_in heads n)
least-found heads zero h = absurd (omega arith)
least-found heads (suc n) h = elim (lt-or-ge (get_or heads n 0) (least_in heads n)) [
  | inl l ↦ (n, omega arith, omega (arith, l))
  | inr g ↦ let f = least-found heads n (omega (arith, g, h)) in (f.0, omega (arith, f.1), omega (arith, f.2, g))
]
