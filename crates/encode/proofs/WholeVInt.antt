-- What a whole VInt says of its bytes: how many there are, and that its value was not cut.
use mathlib.Core.Path.{◌≡◌, refl, sym, ap, ◌∙◌}
use mathlib.Core.List.{List}
use mathlib.Core.Logic.{⊎_elim}
use Prim.Native.Nat.{ℕ, zero, suc, ◌+◌, ◌≤◌, ◌<◌}
use native.Mathlib.Omega.{arith}
use lib.ListN.{get_or}
use borrow.Author.Tests.{lt-ltb, le-ltb}
use Rattle.arrays.proofs.Order.{lt-or-ge}
use Rattle.codec.specs.VInt.{more, vint_from, capped, value_of, next_of}
use Rattle.codec.proofs.OneVInt.{from_end, from_last, from_more}
use Rattle.std.proofs.Common.{Option, Some, None}

pub no_value : {r : ℕ × ℕ} → None ≡ Some r → ⊥
no_value q = let z : ◌≡◌ {A = ℕ} 0 1 = cc in omega arith

-- equal VInts have one value and one place after them
pub same-value : {x m v next : ℕ} → ◌≡◌ {A = Option (ℕ × ℕ)} (Some (x, m)) (Some (v, next)) → x ≡ v
same-value q = ap value_of q

pub same-next : {x m v next : ℕ} → ◌≡◌ {A = Option (ℕ × ℕ)} (Some (x, m)) (Some (v, next)) → m ≡ next
same-next q = ap (next_of 0) q

-- a whole VInt ends behind its place, and below e
pub record Ends (n e p next : ℕ) : Type 0 where
  pub some : p < next
  pub most : next ≤ p + n
  pub inside : next ≤ e

module _ (s : List ℕ) (e : ℕ) where
  pub ends : (n p v next : ℕ) → vint_from n s e p ≡ Some (v, next) → Ends n e p next
  unfolding vint_from
  ends zero p v next q = absurd (no_value q)
  ends (suc n) p v next q = ⊎_elim
      (λ h. ⊎_elim
      (λ l. longer h (vint_from n s e (p + 1)) refl (ends n (p + 1)) (sym (from_more s e p n h l) ∙ q))
      (λ l. let b : p + 1 ≡ next = same-next (sym (from_last s e p n h l) ∙ q) in
      record { some = omega arith; most = omega arith; inside = omega arith })
      (lt-or-ge (get_or s p 0) 128))
      (λ h. absurd (no_value (sym (from_end s e p (suc n) h) ∙ q)))
      (lt-or-ge p e)
    where
      longer : p < e → (r : Option (ℕ × ℕ)) → vint_from n s e (p + 1) ≡ r → ((x m : ℕ) → vint_from n s e (p + 1) ≡ Some (x, m) → Ends n e (p + 1) m)
          → more (get_or s p 0) r ≡ Some (v, next) → Ends (suc n) e p next
      longer h (Some (x, m)) f H g =
          let b = same-next g in
          let i = H x m f in
          record { some = omega (arith, i.some); most = omega (arith, i.most); inside = omega (arith, i.inside) }
      longer h None f H g = absurd (no_value g)

  pub uncapped : (r : Option (ℕ × ℕ)) {v next : ℕ} → capped r ≡ Some (v, next) → (r ≡ Some (v, next)) × (v < 4294967296)
  uncapped (Some (x, m)) {v} {next} q = ⊎_elim
      (λ l. let k : capped (Some (x, m)) ≡ Some (x, m) = simp (lt-ltb x 4294967296 l) in let f = same-value (sym k ∙ q) in (sym k ∙ q, omega arith))
      (λ l. let k : capped (Some (x, m)) ≡ None = simp (le-ltb x 4294967296 l) in absurd (no_value (sym k ∙ q)))
      (lt-or-ge x 4294967296)
  uncapped None q = absurd (no_value q)
