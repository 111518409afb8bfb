-- A window of the intersection: the leader's places in it, and the secondaries' blocks that cover it.
use mathlib.Core.Bool.{Bool, cond, false, true}
use mathlib.Core.List.{List, [], map, ◌++◌, ◌∷◌}
use mathlib.Core.Option.{Option, none, some}
use mathlib.Core.Path.{ap, refl, subst, sym, ◌≡◌}
use Prim.Native.Nat.{suc, zero, ℕ, ◌+◌, ◌<◌, ◌≤◌}
use native.Mathlib.Omega.{arith}
use lib.Dec.{ltb}
use lib.ListN.{length, length-map}
use borrow.Author.Tests.{ltb-false, ltb-true}
use Rattle.arrays.specs.Every.{All}
use Rattle.route.specs.Score.{Ops}
use Rattle.route.specs.Postings.{Postings, TERMINATED, doc_at, score_of, start}
use Rattle.route.specs.Plain.{opt_list, present}
use Rattle.route.specs.Cursor.{find_in}
use Rattle.route.specs.Scorer.{Scorer, seek_block}
use Rattle.route.specs.Intersection.{all_remain, has_remaining_docs, load_leader, seek_block_all}
use Rattle.route.specs.Inner.Lists.{ListOk}
use Rattle.route.proofs.Cases.{by-test, on_test}
use Rattle.route.proofs.Order.{Ordered}
use Rattle.route.proofs.Places.{doc_at-le}
use Rattle.route.proofs.Cursor.{find-up, first-wf}
use Rattle.route.proofs.Looking.{score-all}
use Rattle.route.proofs.Sums.{Sums}
use Rattle.route.proofs.Scorers.{Sc, lists, present-length, sc-shallow}

module _ (B N : ℕ) {O : Ops} {L : Ordered O} {M : ℕ} (Z : Sums O L M) where
  abbrev T : Type 0
  T = Scorer O.S

  abbrev Pl : Type 0
  Pl = Postings O.S

  abbrev Fit : ℕ → T → Type 0
  Fit f s = Sc B N Z f s

  pub pos-passes : (l : Pl) (k : ListOk B N l) (t n p i : ℕ) → p ≤ i → i < p + n → doc_at l i < t → i < find_in l t n p
  pos-passes l k t zero p i a b c = absurd (omega arith)
  pos-passes l k t (suc n) p i a b c =
      by-test (λ z. i < z) (ltb (doc_at l p) t) (find_in l t n (suc p)) p
      (λ e.
      on_test (ltb p i) (λ u. pos-passes l k t n (suc p) i (ltb-true p i u) (omega arith) c)
      (λ u. omega (arith, ltb-false p i u, find-up B N l k t n (suc p))))
      (λ e. absurd (omega (arith, ltb-false (doc_at l p) t e, doc_at-le B N l k p i a)))

  pub shallow-all : (d : ℕ) (ss : List T) → all_remain B d ss ≡ true → seek_block_all B d ss ≡ map (seek_block B d) ss
  shallow-all d [] e = refl
  shallow-all d (s ∷ ss) e = go (has_remaining_docs B (seek_block B d s)) e (shallow-all d ss)
    where
      go : (b : Bool) → cond b (all_remain B d ss) false ≡ true → (all_remain B d ss ≡ true → seek_block_all B d ss ≡ map (seek_block B d) ss)
          → cond b (seek_block B d s ∷ seek_block_all B d ss) (seek_block B d s ∷ ss) ≡ seek_block B d s ∷ map (seek_block B d) ss
      go true w f = ap (λ z. seek_block B d s ∷ z) (f w)
      go false w f = let z : ◌≡◌ {A = ℕ} 0 1 = cc in absurd (omega arith)

  -- a secondary without documents left rules out every document from d on
  pub none_left : (d c : ℕ) (ss : List T) → d ≤ TERMINATED → d ≤ c → All (Fit d) ss → all_remain B d ss ≡ false
      → length (present c (lists ss)) < length ss
  none_left d c [] cap h a e = let z : ◌≡◌ {A = ℕ} 0 1 = cc in absurd (omega arith)
  none_left d c (s ∷ ss) cap h a e = go (has_remaining_docs B (seek_block B d s)) refl e (none_left d c ss cap h a.1)
    where
      P : List O.S
      P = present c (lists ss)

      pl : length P ≤ length ss
      pl = omega (arith, present-length c (lists ss), length-map ss (λ z. z.list))

      f : Fit d (seek_block B d s)
      f = sc-shallow B N Z d d s (omega arith) cap a.0

      more : (o : Option O.S) → length P < length ss → length (opt_list o ++ P) < suc (length ss)
      more none k = omega arith
      more (some x) k = omega arith

      go : (b : Bool) → has_remaining_docs B (seek_block B d s) ≡ b → cond b (all_remain B d ss) false ≡ false
          → (all_remain B d ss ≡ false → length P < length ss)
          → length (opt_list (score_of s.list c) ++ P) < suc (length ss)
      go true u w k = more (score_of s.list c) (k w)
      go false u w k =
          let out = ltb-false (start B (seek_block B d s).cur.blk) s.list.len u in
          let no : score_of s.list c ≡ none =
          score-all s.list (λ o. o ≡ none) c refl
          (λ i m n. absurd (omega (arith, (f.past i m (omega arith)).1))) in
          subst (λ o. length (opt_list o ++ P) < suc (length ss)) (sym no) (let z : length P < suc (length ss) = omega (arith, pl) in z)

  pub front-fit : (f : ℕ) (s : T) → Fit f s → Fit f (load_leader B s)
  front-fit f s c = record {
    good = c.good;
    wf = first-wf B N s.list c.good.ok s.cur c.wf;
    past = λ i m n. let p = (c.past i m n).1 in (p, p);
  }

  pub lists-shallow : (d : ℕ) (ss : List T) → lists (map (seek_block B d) ss) ≡ lists ss
  lists-shallow d [] = refl
  lists-shallow d (s ∷ ss) = ap (λ z. s.list ∷ z) (lists-shallow d ss)
