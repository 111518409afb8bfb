-- What a list's bounds cover.
use mathlib.Core.Bool.{cond}
use mathlib.Core.Path.{ap, ◌≡◌}
use Prim.Native.Nat.{suc, zero, ℕ, ◌+◌, ◌-◌, ◌<◌, ◌≤◌}
use native.Mathlib.Omega.{arith}
use lib.Dec.{eqb, ltb}
use borrow.Author.Tests.{eq-eqb, lt-ltb, ltb-false, ltb-true}
use Rattle.route.specs.Score.{Ops, larger}
use Rattle.route.specs.Postings.{Postings, start}
use Rattle.route.specs.Cursor.{Cursor, block_max, max_from, tail_max}
use Rattle.route.specs.Inner.Lists.{ListOk}
use Rattle.route.proofs.Cases.{by-test, on_test}
use Rattle.route.proofs.Order.{Ordered, Values, larger-rank}
use Rattle.route.proofs.ListLaws.{ScoresOk}

module _ (B : ℕ) {O : Ops} {L : Ordered O} {P : O.S → Type 0} (vs : Values O L P) where
  larger-fin : (s v : O.S) → P s → P v → P (larger O s v)
  larger-fin s v f g = by-test P (O.above v s) v s (λ _. g) (λ _. f)

  module _ (N : ℕ) (l : Postings O.S) (k : ListOk B N l) (v : ScoresOk B O L P l) where
    max-fin : (n p : ℕ) (acc : O.S) → p + n ≤ l.len → P acc → P (max_from B O l n p acc)
    max-fin zero p acc h f = f
    max-fin (suc n) p acc h f = max-fin n (suc p) (larger O acc (l.score p)) (omega arith)
        (larger-fin acc (l.score p) f (v.score-ok p (omega arith)))

    max-acc : (n p : ℕ) (acc : O.S) → p + n ≤ l.len → P acc → L.rank acc ≤ L.rank (max_from B O l n p acc)
    max-acc zero p acc h f = omega arith
    max-acc (suc n) p acc h f =
        let g = v.score-ok p (omega arith) in
        let m = max-acc n (suc p) (larger O acc (l.score p)) (omega arith) (larger-fin acc (l.score p) f g) in
        let e = larger-rank O L acc (l.score p) (vs.fin acc f) (vs.fin (l.score p) g) in
        omega arith

    max-covers : (n p : ℕ) (acc : O.S) (i : ℕ) → p + n ≤ l.len → P acc → p ≤ i → i < p + n → L.rank (l.score i) ≤ L.rank (max_from B O l n p acc)
    max-covers zero p acc i h f a b = absurd (omega arith)
    max-covers (suc n) p acc i h f a b =
        let g = v.score-ok p (omega arith) in
        on_test (ltb p i)
        (λ e. max-covers n (suc p) (larger O acc (l.score p)) i (omega arith) (larger-fin acc (l.score p) f g) (ltb-true p i e) (omega arith))
        (λ e.
        let q = ltb-false p i e in
        let j : p ≡ i = omega arith in
        let m = max-acc n (suc p) (larger O acc (l.score p)) (omega arith) (larger-fin acc (l.score p) f g) in
        let w = larger-rank O L acc (l.score p) (vs.fin acc f) (vs.fin (l.score p) g) in
        let u = ap (λ z. L.rank (l.score z)) j in
        omega arith)

    pub tail-fin : P (tail_max B O l)
    tail-fin =
        by-test P (ltb (start B l.full) l.len) (max_from B O l (l.len - suc (start B l.full)) (suc (start B l.full))
        (l.score (start B l.full))) O.nil
        (λ e.
        let h = ltb-true (start B l.full) l.len e in
        max-fin (l.len - suc (start B l.full)) (suc (start B l.full)) (l.score (start B l.full)) (omega arith)
        (v.score-ok (start B l.full) h))
        (λ e. vs.nil-ok)

    pub tail-covers : (i : ℕ) → start B l.full ≤ i → i < l.len → L.rank (l.score i) ≤ L.rank (tail_max B O l)
    tail-covers i a b =
        let h : start B l.full < l.len = omega arith in
        let n : ℕ = l.len - suc (start B l.full) in
        let p : ℕ = suc (start B l.full) in
        let f = v.score-ok (start B l.full) h in
        rw (lt-ltb (start B l.full) l.len h)
        (on_test (ltb (start B l.full) i)
        (λ e. max-covers n p (l.score (start B l.full)) i (omega arith) f (ltb-true (start B l.full) i e) (omega arith))
        (λ e.
        let q = ltb-false (start B l.full) i e in
        let j : start B l.full ≡ i = omega arith in
        let u = ap (λ z. L.rank (l.score z)) j in
        let m = max-acc n p (l.score (start B l.full)) (omega arith) f in
        omega arith))

    pub block-fin : (c : Cursor) → c.blk ≤ l.full → P (block_max B O l c)
    block-fin c h =
        by-test P (ltb c.blk l.full) (l.bound c.blk) (cond c.loaded (cond (eqb c.blk l.full) (tail_max B O l) O.nil) l.top)
        (λ e. v.bound-ok c.blk (ltb-true c.blk l.full e))
        (λ e. by-test P c.loaded (cond (eqb c.blk l.full) (tail_max B O l) O.nil) l.top
        (λ _. by-test P (eqb c.blk l.full) (tail_max B O l) O.nil (λ _. tail-fin) (λ _. vs.nil-ok)) (λ _. v.top-ok))

    -- the present block's bound covers the block's scores
    pub block-covers : (c : Cursor) (i : ℕ) → c.blk ≤ l.full → i < l.len → start B c.blk ≤ i → i < start B c.blk + B
        → L.rank (l.score i) ≤ L.rank (block_max B O l c)
    block-covers c i h b p q =
        by-test (λ z. L.rank (l.score i) ≤ L.rank z) (ltb c.blk l.full) (l.bound c.blk)
        (cond c.loaded (cond (eqb c.blk l.full) (tail_max B O l) O.nil) l.top)
        (λ e. v.bound-covers c.blk i (ltb-true c.blk l.full e) p q)
        (λ e.
        let f = ltb-false c.blk l.full e in
        let g : c.blk ≡ l.full = omega arith in
        let s = ap (start B) g in
        by-test (λ z. L.rank (l.score i) ≤ L.rank z) c.loaded (cond (eqb c.blk l.full) (tail_max B O l) O.nil) l.top
        (λ _. rw (eq-eqb c.blk l.full g) (tail-covers i (omega arith) b)) (λ _. v.top-covers i b))

    max-below : (n p : ℕ) (acc : O.S) (m : ℕ) → p + n ≤ l.len → P acc → L.rank acc ≤ m → ((i : ℕ) → i < l.len → L.rank (l.score i) ≤ m)
        → L.rank (max_from B O l n p acc) ≤ m
    max-below zero p acc m h f a g = a
    max-below (suc n) p acc m h f a g =
        let w = v.score-ok p (omega arith) in
        let e = larger-rank O L acc (l.score p) (vs.fin acc f) (vs.fin (l.score p) w) in
        let s = g p (omega arith) in
        max-below n (suc p) (larger O acc (l.score p)) m (omega arith) (larger-fin acc (l.score p) f w) (omega arith) g

    -- the list bound covers the tail's largest score
    pub tail-top : L.rank (tail_max B O l) ≤ L.rank l.top
    tail-top =
        by-test (λ z. L.rank z ≤ L.rank l.top) (ltb (start B l.full) l.len)
        (max_from B O l (l.len - suc (start B l.full)) (suc (start B l.full)) (l.score (start B l.full))) O.nil
        (λ e.
        let h = ltb-true (start B l.full) l.len e in
        max-below (l.len - suc (start B l.full)) (suc (start B l.full)) (l.score (start B l.full)) (L.rank l.top) (omega arith)
        (v.score-ok (start B l.full) h) (v.top-covers (start B l.full) h) v.top-covers)
        (λ e. vs.nil-least l.top v.top-ok)
