-- A query's scorers, what a document gets from them, and what their moves keep.
use mathlib.Core.List.{List, [], append_assoc, map, ◌++◌, ◌∷◌}
use mathlib.Core.Option.{Option, none, some}
use mathlib.Core.Path.{ap, refl, subst, sym, ◌∙◌, ◌≡◌}
use Prim.Native.Nat.{suc, ℕ, ◌<◌, ◌≤◌}
use native.Mathlib.Omega.{arith}
use lib.ListN.{length}
use Rattle.arrays.specs.Every.{All}
use Rattle.route.specs.Score.{Ops}
use Rattle.route.specs.Postings.{Postings, TERMINATED, doc_at, score_of}
use Rattle.route.specs.Plain.{opt_list, present}
use Rattle.route.specs.Cursor.{Cursor, seek_in}
use Rattle.route.specs.Scorer.{Scorer, advance, block_max_score, doc_of, last_doc_in_block, max_score, on_cur, score_here, scorers_from, seek, seek_block}
use Rattle.route.specs.Inner.Cursors.{Past, Wf}
use Rattle.route.proofs.Lists.{Perm, all-imp, all_map, p-cons, p-nil, p-swap, p-trans, perm-left, perm-map, perm-refl}
use Rattle.route.proofs.Order.{LowOf, Ordered}
use Rattle.route.proofs.ListLaws.{Accepted, Scored}
use Rattle.route.proofs.Places.{doc_at-in, doc_at-le, doc_at-lt, doc_at-rises, last-le}
use Rattle.route.proofs.Cursor.{advance-is, fresh-is, on-block, past_up, seek_is, seek_block-is}
use Rattle.route.proofs.Bounds.{block-covers, block-fin}
use Rattle.route.proofs.Looking.{score-all, score-at}
use Rattle.route.proofs.Sums.{Dom, Sums, d-nil, dom-opt}

module _ {S : Type 0} where
  -- the scorers' lists
  abbrev pub lists : List (Scorer S) → List (Postings S)
  lists ss = map (λ s. s.list) ss

  -- document d's scores, in the scorers' order
  abbrev pub contrib : ℕ → List (Scorer S) → List S
  contrib d ss = present d (lists ss)

  pub present-length : (d : ℕ) (q : List (Postings S)) → length (present d q) ≤ length q
  present-length d [] = omega arith
  present-length d (l ∷ ls) = go (score_of l d) (present-length d ls)
    where
      go : (o : Option S) → length (present d ls) ≤ length ls → length (opt_list o ++ present d ls) ≤ suc (length ls)
      go none h = omega arith
      go (some x) h = omega arith

  opt-swap : (o u : Option S) (xs : List S) → Perm (opt_list o ++ (opt_list u ++ xs)) (opt_list u ++ (opt_list o ++ xs))
  opt-swap none u xs = perm-refl (opt_list u ++ xs)
  opt-swap (some x) none xs = perm-refl (x ∷ xs)
  opt-swap (some x) (some y) xs = p-swap x y xs

  pub present-perm : (d : ℕ) {xs ys : List (Postings S)} → Perm xs ys → Perm (present d xs) (present d ys)
  present-perm d p-nil = p-nil
  present-perm d (p-cons x p) = perm-left (opt_list (score_of x d)) (present-perm d p)
  present-perm d (p-swap x y xs) = opt-swap (score_of x d) (score_of y d) (present d xs)
  present-perm d (p-trans p q) = p-trans (present-perm d p) (present-perm d q)

  pub present-has : (P : S → Type 0) (d : ℕ) (q : List (Postings S)) → All (Scored P) q → All P (present d q)
  present-has P d [] a = tt
  present-has P d (l ∷ ls) a =
      let ih = present-has P d ls a.1 in
      score-all l (λ o. All P (opt_list o ++ present d ls)) d ih (λ i m e. (a.0 i m, ih))

  pub contrib-perm : (d : ℕ) {xs ys : List (Scorer S)} → Perm xs ys → Perm (contrib d xs) (contrib d ys)
  contrib-perm d p = present-perm d (perm-map (λ s. s.list) p)

  pub contrib-app : (d : ℕ) (xs ys : List (Scorer S)) → contrib d (xs ++ ys) ≡ contrib d xs ++ contrib d ys
  contrib-app d [] ys = refl
  contrib-app d (x ∷ xs) ys = ap (λ z. opt_list (score_of x.list d) ++ z) (contrib-app d xs ys) ∙ sym
      (append_assoc (opt_list (score_of x.list d)) (contrib d xs) (contrib d ys))

  -- cursors do not matter to it
  pub contrib-map : (d : ℕ) (c : Scorer S → Cursor) (xs : List (Scorer S)) → contrib d (map (λ s. on_cur s (c s)) xs) ≡ contrib d xs
  contrib-map d c [] = refl
  contrib-map d c (x ∷ xs) = ap (λ z. opt_list (score_of x.list d) ++ z) (contrib-map d c xs)

  pub fresh-lists : (n : ℕ) (ls : List (Postings S)) → lists (scorers_from n ls) ≡ ls
  fresh-lists n [] = refl
  fresh-lists n (l ∷ ls) = ap (λ z. l ∷ z) (fresh-lists (suc n) ls)

-- a query of at most M accepted lists
pub record QueryOk (B N : ℕ) {O : Ops} {L : Ordered O} {M : ℕ} (Z : Sums O L M) (q : List (Postings O.S)) : Type 0 where
  pub all-ok : All (Accepted B N O L Z.Ok) q
  pub few : length q ≤ M
  pub small : N ≤ TERMINATED

module _ (B N : ℕ) {O : Ops} {L : Ordered O} {M : ℕ} (Z : Sums O L M) where
  -- a scorer that has passed no document from f on
  pub record Sc (f : ℕ) (s : Scorer O.S) : Type 0 where
    pub good : Accepted B N O L Z.Ok s.list
    pub wf : Wf B s.list s.cur
    pub past : Past B s.list s.cur f

  -- a scorer that stands behind d, and has passed nothing from f on, has no d
  pub absent : (f d : ℕ) (s : Scorer O.S) → Sc f s → f ≤ d → d < doc_of s → score_of s.list d ≡ none
  absent f d s c h k =
      let g = c.good.ok in
      score-all s.list (λ o. o ≡ none) d refl
      (λ i m e.
      let p = (c.past i m (omega arith)).0 in
      absurd (omega (arith, doc_at-le B N s.list g s.cur.at i p, doc_at-in B N s.list g i m)))

  pub absent-all : (f d : ℕ) (ss : List (Scorer O.S)) → All (Sc f) ss → f ≤ d → All (λ s. d < doc_of s) ss → contrib d ss ≡ []
  absent-all f d [] a h b = refl
  absent-all f d (s ∷ ss) a h b =
      ap (λ o. opt_list o ++ contrib d ss) (absent f d s a.0 h b.0) ∙ absent-all f d ss a.1 h b.1

  -- finished: no document from f on is left
  pub finished : (f d : ℕ) (s : Scorer O.S) → Sc f s → f ≤ d → doc_of s ≡ TERMINATED → score_of s.list d ≡ none
  finished f d s c h k =
      let g = c.good.ok in
      score-all s.list (λ o. o ≡ none) d refl
      (λ i m e.
      let p = (c.past i m (omega arith)).0 in
      absurd (omega (arith, doc_at-le B N s.list g s.cur.at i p, doc_at-in B N s.list g i m, g.below i m, g.few)))

  -- the list bounds dominate
  pub top-low : (d : ℕ) (s : Scorer O.S) → Accepted B N O L Z.Ok s.list → LowOf O L (score_of s.list d) s.list.top
  top-low d s g = score-all s.list (λ o. LowOf O L o s.list.top) d tt (λ i m e. g.vals.top-covers i m)

  pub dom-tops : (f d : ℕ) (ss : List (Scorer O.S)) → All (Sc f) ss → Dom O L (contrib d ss) (map max_score ss)
  dom-tops f d [] a = d-nil
  dom-tops f d (s ∷ ss) a = dom-opt O L (score_of s.list d) s.list.top (top-low d s a.0.good) (dom-tops f d ss a.1)

  -- the block bounds dominate, up to the blocks' ends
  pub block-low : (f d : ℕ) (s : Scorer O.S) → Sc f s → f ≤ d → d ≤ last_doc_in_block B s → LowOf O L (score_of s.list d) (block_max_score B O s)
  block-low f d s c h k =
      let g = c.good.ok in
      score-all s.list (λ o. LowOf O L o (block_max_score B O s)) d tt
      (λ i m e.
      let p = (c.past i m (omega arith)).1 in
      block-covers B Z.values N s.list g c.good.vals s.cur i c.wf.in_list m p
      (last-le B N s.list g s.cur.blk i m c.wf.in_list (omega arith)))

  pub dom-blocks : (f d : ℕ) (ss : List (Scorer O.S)) → All (Sc f) ss → f ≤ d → All (λ s. d ≤ last_doc_in_block B s) ss
      → Dom O L (contrib d ss) (map (block_max_score B O) ss)
  dom-blocks f d [] a h b = d-nil
  dom-blocks f d (s ∷ ss) a h b = dom-opt O L (score_of s.list d) (block_max_score B O s) (block-low f d s a.0 h b.0)
      (dom-blocks f d ss a.1 h b.1)

  -- scorers on document d: their scores
  pub contrib-here : (f d : ℕ) (ss : List (Scorer O.S)) → All (Sc f) ss → d < TERMINATED → All (λ s. doc_of s ≡ d) ss
      → contrib d ss ≡ map score_here ss
  contrib-here f d [] a h b = refl
  contrib-here f d (s ∷ ss) a h b =
      let g = a.0.good in
      let e = b.0 in
      let i = doc_at-lt B N s.list g.ok s.cur.at (omega arith) in
      let q : s.list.doc s.cur.at ≡ d = sym (doc_at-in B N s.list g.ok s.cur.at i) ∙ e in
      let w : score_of s.list d ≡ some (score_here s) =
      subst (λ z. score_of s.list z ≡ some (score_here s)) q (score-at s.list B N g.ok (s.list.doc s.cur.at) s.cur.at i refl) in
      ap (λ o. opt_list o ++ contrib d ss) w ∙ ap (λ z. score_here s ∷ z) (contrib-here f d ss a.1 h b.1)

  -- ---- values that sums are right about

  pub present-ok : (d : ℕ) (q : List (Postings O.S)) → All (Accepted B N O L Z.Ok) q → All Z.Ok (present d q)
  present-ok d q a = present-has Z.Ok d q (all-imp (Accepted B N O L Z.Ok) (Scored Z.Ok) q (λ l k. k.vals.score-ok) a)

  pub contrib-ok : (f d : ℕ) (ss : List (Scorer O.S)) → All (Sc f) ss → All Z.Ok (contrib d ss)
  contrib-ok f d ss a = present-ok d (lists ss) (all_map (Sc f) (Accepted B N O L Z.Ok) (λ s. s.list) ss (λ s c. c.good) a)

  pub tops-ok : (f : ℕ) (ss : List (Scorer O.S)) → All (Sc f) ss → All Z.Ok (map max_score ss)
  tops-ok f ss a = all_map (Sc f) Z.Ok max_score ss (λ s c. c.good.vals.top-ok) a

  pub blocks-ok : (f : ℕ) (ss : List (Scorer O.S)) → All (Sc f) ss → All Z.Ok (map (block_max_score B O) ss)
  blocks-ok f ss a =
      all_map (Sc f) Z.Ok (block_max_score B O) ss
      (λ s c. block-fin B Z.values N s.list c.good.ok c.good.vals s.cur c.wf.in_list) a

  -- ---- moving

  pub sc-up : (f g : ℕ) (ss : List (Scorer O.S)) → f ≤ g → All (Sc f) ss → All (Sc g) ss
  sc-up f g ss h a = all-imp (Sc f) (Sc g) ss (λ s c. record {
    good = c.good;
    wf = c.wf;
    past = past_up B N s.list c.good.ok s.cur f g h
        c.past;
  }) a

  pub sc-shallow : (f t : ℕ) (s : Scorer O.S) → t ≤ f → t ≤ TERMINATED → Sc f s → Sc f (seek_block B t s)
  sc-shallow f t s h k c =
      let m = seek_block-is B N s.list c.good.ok t s.cur k c.wf in
      record { good = c.good; wf = m.moved.wf; past = m.moved.past f h c.past }

  pub sc-seek : (f t : ℕ) (s : Scorer O.S) → t ≤ f → t ≤ TERMINATED → Sc f s → Sc f (seek B t s)
  sc-seek f t s h k c =
      let m = seek_is B N s.list c.good.ok t s.cur k c.wf in
      record { good = c.good; wf = m.moved.wf; past = m.moved.past f h c.past }

  pub seek-lands : (f t : ℕ) (s : Scorer O.S) → t ≤ TERMINATED → Sc f s → (t ≤ doc_of (seek B t s)) × (doc_of s ≤ doc_of (seek B t s))
  seek-lands f t s k c =
      let m = seek_is B N s.list c.good.ok t s.cur k c.wf in
      (m.lands, doc_at-le B N s.list c.good.ok s.cur.at (seek_in s.list B t s.cur).at m.moved.on)

  pub shallow-is : (f t : ℕ) (s : Scorer O.S) → t ≤ TERMINATED → Sc f s
      → (t ≤ last_doc_in_block B (seek_block B t s)) × (doc_of (seek_block B t s) ≡ doc_of s)
  shallow-is f t s k c =
      let m = seek_block-is B N s.list c.good.ok t s.cur k c.wf in
      (m.covers, ap (doc_at s.list) m.same_at)

  -- a scorer on document p, from which on it has passed nothing, goes behind it
  pub sc-advance : (p : ℕ) (s : Scorer O.S) → p < TERMINATED → doc_of s ≡ p → Sc p s → Sc (suc p) (advance B s) × (suc p ≤ doc_of (advance B s))
  sc-advance p s h e c =
      let k = c.good.ok in
      let l = s.list in
      let o = on-block B N l k s.cur p c.wf c.past (omega arith) (omega arith) in
      let a = advance-is B N l k s.cur c.wf o (omega arith) in
      let nx = a.next in (
        record { good = c.good; wf = a.wf; past = a.past (suc p) (omega arith) (past_up B N l k s.cur p (suc p) (omega arith) c.past) },
        omega (arith, doc_at-rises B N l k s.cur.at (advance B s).cur.at (omega arith) (omega arith)),
      )

  pub fresh-fit : (n : ℕ) (ls : List (Postings O.S)) → All (Accepted B N O L Z.Ok) ls → All (Sc 0) (scorers_from n ls)
  fresh-fit n [] a = tt
  fresh-fit n (l ∷ ls) a = let f = fresh-is B N l a.0.ok in (record { good = a.0; wf = f.0; past = f.1 0 }, fresh-fit (suc n) ls a.1)
