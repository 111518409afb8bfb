-- The shortest VInt of a number reads back as it; every other whole VInt of the number is longer.
use mathlib.Core.Path.{◌≡◌, refl, sym, ap, ◌∙◌, subst}
use mathlib.Core.List.{List, [], ◌∷◌}
use mathlib.Core.Logic.{⊎_elim}
use Prim.Native.Nat.{ℕ, zero, suc, ◌+◌, ◌-◌, ◌*◌, ◌/◌, ◌%◌, ◌^◌, ◌≤◌, ◌<◌}
use native.Mathlib.Nat.{not-suc-le-zero, add-zero, zero-add}
use native.Mathlib.Omega.{arith}
use lib.ListN.{length, get_or, set}
use lib.Pow.{shr_lt}
use borrow.Author.Tests.{lt-ltb, le-ltb}
use Rattle.arrays.proofs.Order.{lt-or-ge}
use Rattle.codec.specs.VInt.{more, vint_from, capped, vint_at}
use Rattle.codec.proofs.OneVInt.{from_end, from_last, from_more}
use Rattle.pieces.specs.Inner.Written.{Written, Put, Stands}
use Rattle.pieces.proofs.Writes.{none, one, fully}
use Rattle.encode.proofs.WholeVInt.{no_value, same-value, same-next, Ends, ends, uncapped}
use Rattle.encode.specs.ShortVInt.{short_from, short_vint}
use Rattle.encode.specs.Inner.VIntBytes.{vint_length, vint_byte}
use Rattle.std.proofs.Common.{Option, Some, None}

-- a number that fits the last byte, and one that does not
pub short-last : (n v : ℕ) → v < 128 → short_from (suc n) v ≡ (v + 128) ∷ []
unfolding short_from
short-last n v h = simp (lt-ltb v 128 h)

pub short-more : (n v : ℕ) → 128 ≤ v → short_from (suc n) v ≡ (v % 128) ∷ short_from n (v / 128)
unfolding short_from
short-more n v h = simp (le-ltb v 128 h)

-- seven bits less
pub less : (n v : ℕ) → v < 2 ^ (7 * suc n) → v / 128 < 2 ^ (7 * n)
less n v h = shr_lt (7 * n) 7 (subst (λ (x : ℕ). v < 2 ^ x) (up n) h)
  where
    up : (n : ℕ) → 7 * suc n ≡ 7 * n + 7
    up n = omega arith

-- how long they are
last-long : (n v : ℕ) → v < 128 → length (short_from (suc n) v) ≡ 1
last-long n v h = ap length (short-last n v h)

more-long : (n v : ℕ) → 128 ≤ v → length (short_from (suc n) v) ≡ suc (length (short_from n (v / 128)))
more-long n v h = ap length (short-more n v h)

pub some-long : (n v : ℕ) → 0 < length (short_from (suc n) v)
some-long n v = ⊎_elim (λ h. omega (arith, last-long n v h)) (λ h. omega (arith, more-long n v h)) (lt-or-ge v 128)

-- a number over seven bits wants two bytes or more
pub some : (n v : ℕ) → v < 2 ^ (7 * suc n) → 128 ≤ v → 0 < n
some zero v h m = absurd (none v h m)
  where
    none : (v : ℕ) → v < 128 → 128 ≤ v → ⊥
    none v h m = omega arith
some (suc n) v h m = omega arith

-- what stands from p to next is not shorter than l, and of that length it is l
record Shortest (s : List ℕ) (p next : ℕ) (l : List ℕ) : Type 0 where
  least : p + length l ≤ next
  same : next ≡ p + length l → (k : ℕ) → k < length l → get_or s (p + k) 0 ≡ get_or l k 0

-- a number from its low seven bits
joined : (b x v : ℕ) → b < 128 → v ≡ b + 128 * x → (v % 128 ≡ b) × (v / 128 ≡ x)
joined b x v h e = (omega arith, omega arith)

module _ (s : List ℕ) (e : ℕ) where
  -- the bytes of the shortest VInt of v stand at p, below e
  short-reads : (n v p : ℕ) → v < 2 ^ (7 * n) → 0 < n → p + length (short_from n v) ≤ e
      → ((k : ℕ) → k < length (short_from n v) → get_or s (p + k) 0 ≡ get_or (short_from n v) k 0)
      → vint_from n s e p ≡ Some (v, p + length (short_from n v))
  short-reads zero v p h z l b = absurd (not-suc-le-zero z)
  short-reads (suc n) v p h z l b = ⊎_elim
      (λ m.
      let q = short-last n v m in
      let k = last-long n v m in
      let x : get_or s p 0 ≡ v + 128 = head ∙ ap (λ (y : List ℕ). get_or y 0 0) q in
      from_last s e p n (omega arith) (omega arith)
      ∙ ap (λ (y : ℕ). Some (y, p + 1)) (omega arith)
      ∙ ap (λ (y : ℕ). Some (v, p + y)) (sym k))
      (λ m.
      let q = short-more n v m in
      let k = more-long n v m in
      let x : get_or s p 0 ≡ v % 128 = head ∙ ap (λ (y : List ℕ). get_or y 0 0) q in
      let i : vint_from n s e (p + 1) ≡ Some (v / 128, p + 1 + length (short_from n (v / 128))) =
      short-reads n (v / 128) (p + 1) (less n v h) (some n v h m) (omega arith)
      (λ j g. ap (λ (y : ℕ). get_or s y 0) (next p j) ∙ b (suc j) (omega arith) ∙ ap (λ (y : List ℕ). get_or y (suc j) 0) q) in
      from_more s e p n (omega arith) (omega arith)
      ∙ ap (more (get_or s p 0)) i
      ∙ ap (λ (y : ℕ). Some (y, p + 1 + length (short_from n (v / 128)))) (whole (get_or s p 0) v x)
      ∙ ap (λ (y : ℕ). Some (v, y)) (omega arith))
      (lt-or-ge v 128)
    where
      head : get_or s p 0 ≡ get_or (short_from (suc n) v) 0 0
      head = ap (λ (y : ℕ). get_or s y 0) (sym (add-zero p)) ∙ b 0 (some-long n v)

      next : (p j : ℕ) → p + 1 + j ≡ p + suc j
      next p j = omega arith

      whole : (b v : ℕ) → b ≡ v % 128 → b + 128 * (v / 128) ≡ v
      whole b v x = omega arith

  module _ (bytes : (i : ℕ) → get_or s i 0 < 256) where
    -- a whole VInt is not shorter than the shortest of its value, and of that length it has its bytes
    shortest : (n p v next : ℕ) → vint_from n s e p ≡ Some (v, next)
        → Shortest s p next (short_from n v)
    unfolding vint_from
    shortest zero p v next q = absurd (no_value q)
    shortest (suc n) p v next q = ⊎_elim
        (λ h. ⊎_elim
        (λ l. longer h l (vint_from n s e (p + 1)) refl (shortest n (p + 1)) (sym (from_more s e p n h l) ∙ q))
        (λ l. last (sym (from_last s e p n h l) ∙ q) l)
        (lt-or-ge (get_or s p 0) 128))
        (λ h. absurd (no_value (sym (from_end s e p (suc n) h) ∙ q)))
        (lt-or-ge p e)
      where
        last : ◌≡◌ {A = Option (ℕ × ℕ)} (Some (get_or s p 0 - 128, p + 1)) (Some (v, next)) → 128 ≤ get_or s p 0
            → Shortest s p next (short_from (suc n) v)
        last g l =
            let a = same-value g in
            let b = same-next g in
            let m : v < 128 = omega (arith, bytes p) in
            let j = last-long n v m in
            record {
              least = omega arith;
              same = λ _ k f. let z : k ≡ 0 = omega arith in rw (z, add-zero p, short-last n v m) (omega arith);
            }

        longer : p < e → get_or s p 0 < 128 → (r : Option (ℕ × ℕ)) → vint_from n s e (p + 1) ≡ r
            → ((x m : ℕ) → vint_from n s e (p + 1) ≡ Some (x, m) → Shortest s (p + 1) m (short_from n x)) → more (get_or s p 0) r ≡ Some (v, next)
            → Shortest s p next (short_from (suc n) v)
        longer h l (Some (x, m)) f H g =
            let a = same-value g in
            let b = same-next g in
            let E : Ends n e (p + 1) m = ends s e n (p + 1) x m f in
            let J = joined (get_or s p 0) x v l (sym a) in
            ⊎_elim
            (λ u. let j = last-long n v u in record { least = omega (arith, E.some); same = λ w k i. absurd (never w j E.some b) })
            (λ u. let j = more-long n v u in
            let I = H x m f in
            let y : length (short_from n (v / 128)) ≡ length (short_from n x) = ap (λ (z : ℕ). length (short_from n z)) J.1 in
            record { least = omega (arith, I.least); same = λ w k i. each u J.0 J.1 (I.same (omega arith)) k (omega arith) })
            (lt-or-ge v 128)
          where
            never : next ≡ p + length (short_from (suc n) v) → length (short_from (suc n) v) ≡ 1 → p + 1 < m → m ≡ next → ⊥
            never w j s b = omega arith

            next' : (p k : ℕ) → p + suc k ≡ p + 1 + k
            next' p k = omega arith

            each : 128 ≤ v → v % 128 ≡ get_or s p 0 → v / 128 ≡ x
                → ((k : ℕ) → k < length (short_from n x) → get_or s (p + 1 + k) 0 ≡ get_or (short_from n x) k 0)
                → (k : ℕ) → k < suc (length (short_from n x)) → get_or s (p + k) 0 ≡ get_or (short_from (suc n) v) k 0
            each u c d I zero i = rw (add-zero p, short-more n v u) (sym c)
            each u c d I (suc k) i = rw (short-more n v u, d) (ap (λ (y : ℕ). get_or s y 0) (next' p k) ∙ I k (omega arith))
        longer h l None f H g = absurd (no_value g)

-- the shortest VInt of a number of 32 bits, written at p, is read as the number
module _ (s : List ℕ) (e p v : ℕ) where
  pub vint-back : v < 4294967296 → p + vint_length v ≤ e → Stands s p (short_vint v) → vint_at s e p ≡ Some (v, p + vint_length v)
  unfolding vint_at short_vint
  vint-back h l S = ap capped (short-reads s e 5 v p (omega arith) (omega arith) l S.at) ∙ simp (lt-ltb v 4294967296 h)

  module _ (bytes : (i : ℕ) → get_or s i 0 < 256) (next : ℕ) (q : vint_at s e p ≡ Some (v, next)) where
    -- no whole VInt of the number is shorter
    pub vint-shortest : p + vint_length v ≤ next
    unfolding vint_at short_vint
    vint-shortest = (shortest s e bytes 5 p v next (uncapped s e (vint_from 5 s e p) q).0).least

    -- and one as short has its bytes
    pub vint-only : next ≡ p + vint_length v → Stands s p (short_vint v)
    unfolding vint_at short_vint
    vint-only f = record { at = (shortest s e bytes 5 p v next (uncapped s e (vint_from 5 s e p) q).0).same f }

-- a byte or more, and five at the most
short-most : (n v : ℕ) → length (short_from n v) ≤ n
unfolding short_from
short-most zero v = omega arith
short-most (suc n) v = ⊎_elim
    (λ h. omega (arith, last-long n v h))
    (λ h. omega (arith, more-long n v h, short-most n (v / 128)))
    (lt-or-ge v 128)

pub vint-most : (v : ℕ) → vint_length v ≤ 5
unfolding short_vint
vint-most v = short-most 5 v

-- how many bytes, by the number's size
module _ (v : ℕ) where
  pub one_byte : v < 128 → 1 ≡ vint_length v
  unfolding short_vint
  one_byte h = sym (last-long 4 v h)

  pub two_bytes : 128 ≤ v → v < 16384 → 2 ≡ vint_length v
  unfolding short_vint
  two_bytes l h = sym (more-long 4 v l ∙ ap suc (last-long 3 (v / 128) (omega arith)))

  pub three-bytes : 16384 ≤ v → v < 2097152 → 3 ≡ vint_length v
  unfolding short_vint
  three-bytes l h =
      sym (more-long 4 v (omega arith)
      ∙ ap suc (more-long 3 (v / 128) (omega arith)
      ∙ ap suc (last-long 2 (v / 128 / 128) (omega arith))))

  pub four_bytes : 2097152 ≤ v → v < 268435456 → 4 ≡ vint_length v
  unfolding short_vint
  four_bytes l h =
      sym (more-long 4 v (omega arith)
      ∙ ap suc (more-long 3 (v / 128) (omega arith)
      ∙ ap suc (more-long 2 (v / 128 / 128) (omega arith)
      ∙ ap suc (last-long 1 (v / 128 / 128 / 128) (omega arith)))))

  pub five-bytes : 268435456 ≤ v → v < 4294967296 → 5 ≡ vint_length v
  unfolding short_vint
  five-bytes l h =
      sym (more-long 4 v (omega arith)
      ∙ ap suc (more-long 3 (v / 128) (omega arith)
      ∙ ap suc (more-long 2 (v / 128 / 128) (omega arith)
      ∙ ap suc (more-long 1 (v / 128 / 128 / 128) (omega arith)
      ∙ ap suc (last-long 0 (v / 128 / 128 / 128 / 128) (omega arith))))))

-- n bytes are written, and `rest` is to be
pub record Writing (before : List ℕ) (at v : ℕ) (out : List ℕ) (rest n : ℕ) : Type 0 where
  pub top : n < 5
  pub size : rest < 2 ^ (7 * (5 - n))
  pub count : vint_length v ≡ n + length (short_from (5 - n) rest)
  pub each : (k : ℕ) → vint_byte v (n + k) ≡ get_or (short_from (5 - n) rest) k 0
  pub place : Written before at n (vint_byte v) out

pub begun : (before : List ℕ) (at v : ℕ) → v < 4294967296 → Writing before at v before v 0
unfolding short_vint
begun before at v h = record {
  top = omega arith;
  size = omega arith;
  count = sym (zero-add (length (short_from 5 v)));
  each = λ k. ap (λ (x : ℕ). get_or (short_from 5 v) x 0) (zero-add k);
  place = none before at (vint_byte v);
}

module _ {before : List ℕ} {at v : ℕ} {out : List ℕ} {rest n : ℕ} (W : Writing before at v out rest n) where
  fuel : 5 - n ≡ suc (5 - (n + 1))
  fuel = omega (arith, W.top)

  -- a place for the next byte
  pub room : n < vint_length v
  room = rw (W.count, fuel) (omega (arith, some-long (5 - (n + 1)) rest))

  pub goes_on : 128 ≤ rest → at + vint_length v ≤ length before → Writing before at v (set out (at + n) (rest % 128)) (rest / 128) (n + 1)
  goes_on h l =
      let z : rest < 2 ^ (7 * suc (5 - (n + 1))) = subst (λ (x : ℕ). rest < 2 ^ (7 * x)) fuel W.size in
      let q : short_from (5 - n) rest ≡ (rest % 128) ∷ short_from (5 - (n + 1)) (rest / 128)
      = ap (λ (x : ℕ). short_from x rest) fuel ∙ short-more (5 - (n + 1)) rest h in
      record {
        top = omega (arith, some (5 - (n + 1)) rest z h);
        size = less (5 - (n + 1)) rest z;
        count = W.count ∙ ap (λ (x : List ℕ). n + length x) q ∙ on n (length (short_from (5 - (n + 1)) (rest / 128)));
        each = λ k. ap (vint_byte v) (next n k) ∙ W.each (suc k) ∙ ap (λ (x : List ℕ). get_or x (suc k) 0) q;
        place =
            one W.place (at + n) (rest % 128) refl (omega (arith, room))
            (sym (ap (vint_byte v) (sym (add-zero n)) ∙ W.each 0 ∙ ap (λ (x : List ℕ). get_or x 0 0) q));
      }
    where
      on : (n x : ℕ) → n + suc x ≡ n + 1 + x
      on n x = omega arith

      next : (n k : ℕ) → n + 1 + k ≡ n + suc k
      next n k = omega arith

  module _ (h : rest < 128) where
    last-is : short_from (5 - n) rest ≡ (rest + 128) ∷ []
    last-is = ap (λ (x : ℕ). short_from x rest) fuel ∙ short-last (5 - (n + 1)) rest h

    pub all-long : n + 1 ≡ vint_length v
    all-long = sym (W.count ∙ ap (λ (x : List ℕ). n + length x) last-is)

    pub all-written : at + vint_length v ≤ length before → Put before at (short_vint v) (set out (at + n) (rest + 128))
    all-written l = record {
      written =
          fully
          (one W.place (at + n) (rest + 128) refl (omega (arith, room))
          (sym (ap (vint_byte v) (sym (add-zero n)) ∙ W.each 0 ∙ ap (λ (x : List ℕ). get_or x 0 0) last-is)))
          all-long;
    }
