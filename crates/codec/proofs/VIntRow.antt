-- VInts one after another: the loop that reads them.
use mathlib.Core.Path.{◌≡◌, refl, sym, ap, ◌∙◌}
use mathlib.Core.List.{List}
use mathlib.Core.Bool.{Bool, true, false, true≢false, cond}
use mathlib.Core.Logic.{⊎_elim}
use Prim.Native.Nat.{ℕ, suc, ◌+◌, ◌≤◌, ◌<◌}
use native.Mathlib.Nat.{le_of_suc-le-suc}
use native.Mathlib.Numerals.{add-one}
use native.Mathlib.Omega.{arith}
use lib.Dec.{ltb}
use lib.ListN.{length, set}
use borrow.Author.Tests.{ltb-true}
use Rattle.arrays.specs.Every.{every}
use Rattle.arrays.proofs.Order.{lt-or-ge}
use Rattle.arrays.proofs.Every.{fails, one_more, stopped}
use Rattle.arrays.proofs.Filling.{Filling, begun as filling, goes_on}
use Rattle.codec.specs.VInt.{capped, vint_from, vint_at, whole, value_of, next_of}
use Rattle.codec.specs.VInts.{vint_place, vint_value, vint_whole}
use Rattle.codec.specs.Inner.VIntRows.{end_or, VIntsRead}
use Rattle.std.proofs.Common.{Option, Some, None}

-- each value fits 32 bits
pub value-fits : (s : List ℕ) (e p k : ℕ) → vint_value s e p k < 4294967296
unfolding vint_value vint_at
value-fits s e p k = capped_fits (vint_from 5 s e (vint_place s e p k))
  where
    capped_fits : (v : Option (ℕ × ℕ)) → value_of (capped v) < 4294967296
    capped_fits (Some (v, next)) = go (ltb v 4294967296) refl
      where
        go : (t : Bool) → ltb v 4294967296 ≡ t → value_of (cond t (Some (v, next)) None) < 4294967296
        go true e = ltb-true v 4294967296 e
        go false e = omega arith
    capped_fits None = omega arith

-- i of n VInts are read, and the next stands at p
pub record Reading (s : List ℕ) (e at n : ℕ) (vs out : List ℕ) (p i : ℕ) : Type 0 where
  pub within : i ≤ n
  pub place_is : p ≡ vint_place s e at i
  pub right : every i (vint_whole s e at) ≡ true
  pub place : Filling 0 128 (vint_value s e at) vs i out

pub begun : (s : List ℕ) (e at n : ℕ) {vs : List ℕ} → length vs ≡ 128 → Reading s e at n vs vs at 0
unfolding vint_place
begun s e at n {vs} h = record { within = omega arith; place_is = refl; right = refl; place = filling 0 128 (vint_value s e at) vs h }

module _ {s : List ℕ} {e at n : ℕ} {vs out : List ℕ} {p i : ℕ} (R : Reading s e at n vs out p i) where
  unread : (k : ℕ) → every (suc k) (vint_whole s e at) ≡ false → i ≤ k
  unread k f = le_of_suc-le-suc (stopped (vint_whole s e at) i (suc k) R.right f)

  pub all_read : n ≤ i → VIntsRead s e at n vs (Some p) out
  all_read h =
      let q : i ≡ n = omega (arith, R.within) in
      let w : every n (vint_whole s e at) ≡ true = ap (λ (k : ℕ). every k (vint_whole s e at)) (sym q) ∙ R.right in
      record {
        same = ap Some (R.place_is ∙ ap (vint_place s e at) q) ∙ sym (ap (λ (b : Bool). end_or b (vint_place s e at n)) w);
        long = R.place.long;
        values = λ k l _. R.place.done k (omega arith);
        kept = λ k c. R.place.rest k (⊎_elim (λ l. omega arith) (unread k) c);
      }

  module _ (h : i < n) {r : Option (ℕ × ℕ)} (f : r ≡ vint_at s e p) where
    read_is : vint_at s e (vint_place s e at i) ≡ r
    read_is = sym (f ∙ ap (vint_at s e) R.place_is)

    pub one-broken : r ≡ None → VIntsRead s e at n vs None out
    unfolding vint_whole
    one-broken b =
        let w : vint_whole s e at i ≡ false = ap whole (read_is ∙ b) in
        record {
          same = sym (ap (λ (b : Bool). end_or b (vint_place s e at n)) (fails (vint_whole s e at) n i h w));
          long = R.place.long;
          values = λ k l t. R.place.done k (⊎_elim (λ g. g) (λ g. absurd (true≢false (sym t ∙ fails (vint_whole s e at) (suc k) i (omega arith) w))) (lt-or-ge k i));
          kept = λ k c. R.place.rest k (⊎_elim (λ l. omega arith) (unread k) c);
        }

    pub one-read : n ≤ 128 → {x next : ℕ} → r ≡ Some (x, next) → Reading s e at n vs (set out i x) next (i + 1)
    unfolding vint_whole vint_value
    one-read m {x} {next} b = record {
      within = omega arith;
      place_is = rw add-one (sym (ap (next_of (vint_place s e at i)) (read_is ∙ b)));
      right = one_more (vint_whole s e at) i R.right (ap whole (read_is ∙ b));
      place = goes_on 0 128 _ _ _ _ x (omega arith) (sym (ap value_of (read_is ∙ b))) R.place;
    }
