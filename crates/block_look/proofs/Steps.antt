-- What the code's differences modulo 2^32 are.
use Rattle.std.proofs.Common.{◌≡◌, ℕ, zero, suc, ◌+◌, ◌-◌, ◌%◌, ◌<◌, ◌≤◌, List, get_or, sym, ap, ◌∙◌, subst, not-suc-le-zero, add-zero, arith}
use Rattle.block_look.specs.Inner.Joint.{behind, steps, less_one}

-- a difference is the number that wraps back
back : (a b x : ℕ) → x < 4294967296 → b ≤ 4294967296 → (x + b) % 4294967296 ≡ a → x ≡ behind a b
back a b x h k e = omega arith

-- and one of two differences, the second by 1
back_one : (a b s x : ℕ) → x < 4294967296 → b < 4294967296 → (s + b) % 4294967296 ≡ a → (x + 1) % 4294967296 ≡ s → x ≡ behind a (b + 1)
back_one a b s x h k e f = omega arith

module _ (l : List ℕ) (at : ℕ) where
  abbrev value : ℕ → ℕ
  value i = get_or l (at + i) 0

  pub first_step : (base : ℕ) {x : ℕ} → base ≤ 1048577 → x < 4294967296 → (x + base) % 4294967296 ≡ get_or l at 0 → x ≡ steps value base 0
  unfolding steps
  first_step base {x} b h e = back (value 0) base x h (omega arith) (e ∙ ap (λ (k : ℕ). get_or l k 0) (sym (add-zero at)))

  pub next-step : (base i : ℕ) {s x : ℕ} → 1 ≤ i → get_or l (at + i - 1) 0 < 4294967296 → x < 4294967296
      → (s + get_or l (at + i - 1) 0) % 4294967296 ≡ get_or l (at + i) 0 → (x + 1) % 4294967296 ≡ s → x ≡ steps value base i
  unfolding steps
  next-step base zero p k h e f = absurd (not-suc-le-zero p)
  next-step base (suc i) {s} {x} p k h e f =
      let z : get_or l (at + suc i - 1) 0 ≡ value i = ap (λ (k : ℕ). get_or l k 0) (omega arith) in
      back_one (value (suc i)) (value i) s x h (subst (λ (y : ℕ). y < 4294967296) z k)
      (subst (λ (y : ℕ). (s + y) % 4294967296 ≡ value (suc i)) z e) f

  pub less-one : (i : ℕ) {x : ℕ} → x < 4294967296 → (x + 1) % 4294967296 ≡ value i → x ≡ less_one value i
  unfolding less_one
  less-one i {x} h e = back (value i) 1 x h (omega arith) e
