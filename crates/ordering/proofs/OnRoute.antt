-- From scorers in their order to the route's scorers: f takes a scorer to the route's, which stands on its document and has its list bound.
use mathlib.Core.List.{List, map, [], ◌++◌, ◌∷◌}
use mathlib.Core.Option.{Option, none, some}
use mathlib.Core.Path.{ap, refl, sym, ◌∙◌, ◌≡◌}
use Prim.Native.Nat.{min, suc, ℕ, ◌+◌, ◌-◌, ◌<◌}
use native.Mathlib.Omega.{arith}
use lib.Dec.{eqb}
use lib.ListN.{drop, get_or, length, take}
use lib.Seq.{drop-drop}
use lib.Ieee.{Float}
use Rattle.arrays.specs.Every.{All}
use Rattle.route.specs.F32.{f32}
use Rattle.route.specs.Postings.{TERMINATED}
use Rattle.route.specs.Ordering.{put_back, restore_ordering, retain, sort_by, sweep}
use Rattle.route.specs.Scorer.{Scorer, doc_of, max_score}
use Rattle.route.specs.Union.{Around, Pivot, find_pivot_doc, least_doc, live_only, missed_on, off_doc, on_doc, pivot_from, push_pre, scorer_to_seek}
use Rattle.route.proofs.Cases.{on_test}
use Rattle.route.proofs.Lists.{all-imp}
use Rattle.ordering.specs.Inner.Scorers.{by_doc, least_doc_of, moved, no_scorer, returned}
use Rattle.ordering.specs.Inner.Pivots.{before_pivot, count_on, highest, pivot_at, pivot_of, place_to_seek}
use Rattle.term_scorer.specs.declared.TermScorer.{TermScorer}
use Rattle.ordering.specs.declared.Pivot as code
use Rattle.std.specs.Prelude.{Some, None}
use Rattle.std.specs.Prelude as prelude
use Rattle.ordering.proofs.Places.{all-at, all_drop, drop-take, from_place-split, join, map-append}
use Rattle.ordering.proofs.Carried as carried

-- the route's scorer stands on the same document
abbrev pub SameDoc : (TermScorer → Scorer Float) → TermScorer → Type 0
SameDoc f s = doc_of (f s) ≡ s.doc

-- and has the same list bound
pub record Fair (f : TermScorer → Scorer Float) (s : TermScorer) : Type 0 where
  pub doc-is : SameDoc f s
  pub max-is : max_score (f s) ≡ s.max_score

pub fair-docs : (f : TermScorer → Scorer Float) (l : List TermScorer) → All (Fair f) l → All (SameDoc f) l
fair-docs f l a = all-imp (Fair f) (SameDoc f) l (λ s h. h.doc-is) a

module _ (f : TermScorer → Scorer Float) where
  -- the scorers around place i
  abbrev pub around : List TermScorer → ℕ → Around Float
  around l i = record { left = map f (take i l); one = f (get_or l i no_scorer); right = map f (drop (suc i) l) }

  -- the route's answer at the places that a pivot names
  abbrev pub pivot_in : List TermScorer → prelude.Option code.Pivot → Option (Pivot Float)
  pivot_in l None = none
  pivot_in l (Some c) = some (record {
    pre = map f (take c.before_pivot_len l);
    piv = map f (drop c.before_pivot_len (take c.pivot_len l));
    post = map f (drop c.pivot_len l);
    doc = c.pivot_doc;
  })

  -- ---- orders

  pub restored-on-route : (l : List TermScorer) (ord : ℕ) → ord < length l → All (SameDoc f) l
      → map f (moved l ord) ≡ map f (take ord l) ++ restore_ordering doc_of (f (get_or l ord no_scorer)) (map f (drop (suc ord) l))
  restored-on-route l ord h a =
      let here = get_or l ord no_scorer in
      ap (map f) (from_place-split (restore_ordering by_doc) l ord no_scorer h)
      ∙ map-append f (take ord l) (restore_ordering by_doc here (drop (suc ord) l))
      ∙ ap (λ z. map f (take ord l) ++ z)
      (carried.restore-map by_doc doc_of f here (drop (suc ord) l) (all-at (SameDoc f) l ord no_scorer h a) (all_drop (SameDoc f) (suc ord) l a))

  pub sorted-on-route : (l : List TermScorer) → All (SameDoc f) l → map f (sort_by by_doc l) ≡ sort_by doc_of (map f l)
  sorted-on-route = carried.sort-map by_doc doc_of f

  pub retained-on-route : (l : List TermScorer) → All (SameDoc f) l → map f (retain by_doc l) ≡ retain doc_of (map f l)
  retained-on-route = carried.retain-map by_doc doc_of f

  pub swept-on-route : (n : ℕ) (l : List TermScorer) → All (SameDoc f) l → map f (sweep by_doc n l) ≡ sweep doc_of n (map f l)
  swept-on-route = carried.sweep-map by_doc doc_of f

  -- after a miss at place i, before place b
  pub missed-on-route : (l : List TermScorer) (i b : ℕ) → i < b → i < length l → All (SameDoc f) l
      → map f (returned l i)
      ≡ missed_on (record { left = map f (take i l); one = f (get_or l i no_scorer); right = map f (drop (suc i) (take b l)) }) (map f (drop b l))
  missed-on-route l i b h k a =
      let here = get_or l i no_scorer in
      let rest = drop (suc i) l in
      ap (map f) (from_place-split (put_back by_doc) l i no_scorer k) ∙ map-append f (take i l) (put_back by_doc here rest)
      ∙ ap (λ z. map f (take i l) ++ z)
      (carried.put_back-map by_doc doc_of f here rest (all-at (SameDoc f) l i no_scorer k a) (all_drop (SameDoc f) (suc i) l a)
      ∙ ap (put_back doc_of (f here)) (sym (ap (map f) (join (suc i) b l h)) ∙ map-append f (drop (suc i) (take b l)) (drop b l)))

  -- ---- documents

  pub least-on-route : (t : ℕ) (l : List TermScorer) → All (SameDoc f) l → least_doc t (map f l) ≡ least_doc_of t l
  least-on-route t [] a = refl
  least-on-route t (x ∷ xs) a = ap (λ (z : ℕ). least_doc (min z t) (map f xs)) a.0 ∙ least-on-route (min x.doc t) xs a.1

  on-is : (d : ℕ) (xs : List TermScorer) → All (SameDoc f) xs → on_doc d (map f xs) ≡ map f (take (count_on d xs) xs)
  on-is d [] a = refl
  on-is d (x ∷ xs) a =
      let e = a.0 in
      let t : eqb (doc_of (f x)) d ≡ eqb x.doc d = rw e in
      let ih = on-is d xs a.1 in
      on_test (eqb x.doc d) (λ b. rw (t, b) (ap (λ z. f x ∷ z) ih)) (λ b. rw (t, b))

  off-is : (d : ℕ) (xs : List TermScorer) → All (SameDoc f) xs → off_doc d (map f xs) ≡ map f (drop (count_on d xs) xs)
  off-is d [] a = refl
  off-is d (x ∷ xs) a =
      let e = a.0 in
      let t : eqb (doc_of (f x)) d ≡ eqb x.doc d = rw e in
      let ih = off-is d xs a.1 in
      on_test (eqb x.doc d) (λ b. rw (t, b) ih) (λ b. rw (t, b))

  -- ---- list bounds

  -- the pivot before its document is looked at: pre, then the scorers from the pivot on
  abbrev cut : List (Scorer Float) → List TermScorer → Option (Pivot Float)
  cut pre [] = none
  cut pre (s ∷ ss) = some (record {
    pre = pre;
    piv = f s ∷ map f (take (count_on s.doc ss) ss);
    post = map f (drop (count_on s.doc ss) ss);
    doc = s.doc;
  })

  cut-push : (x : Scorer Float) (pre : List (Scorer Float)) (l : List TermScorer) → push_pre x (cut pre l) ≡ cut (x ∷ pre) l
  cut-push x pre [] = refl
  cut-push x pre (s ∷ ss) = refl

  cut-is : (t acc : Float) (l : List TermScorer) → All (Fair f) l
      → pivot_from f32 t acc (map f l) ≡ cut (map f (take (before_pivot t acc l) l)) (drop (before_pivot t acc l) l)
  cut-is t acc [] a = refl
  cut-is t acc (x ∷ xs) a =
      let m = a.0.max-is in
      let e = a.0.doc-is in
      let acc' = f32.add acc x.max_score in
      let docs = fair-docs f xs a.1 in
      let on = on-is x.doc xs docs in
      let off = off-is x.doc xs docs in
      let b' = before_pivot t acc' xs in
      let test : f32.above (f32.add acc (max_score (f x))) t ≡ f32.above acc' t = rw m in
      let later =
      ap (λ (z : Float). push_pre (f x) (pivot_from f32 t (f32.add acc z) (map f xs))) m
      ∙ ap (push_pre (f x)) (cut-is t acc' xs a.1) ∙ cut-push (f x) (map f (take b' xs)) (drop b' xs) in
      on_test (f32.above acc' t) (λ b. rw (test, b, e, on, off)) (λ b. rw (test, b) later)

  -- the pivot's document, and its places from the start
  live-is : (l : List TermScorer) (b : ℕ) (m : List TermScorer) → drop b l ≡ m → live_only (cut (map f (take b l)) m) ≡ pivot_in l (pivot_at b m)
  live-is l b [] e = refl
  live-is l b (s ∷ ss) e =
      let k = count_on s.doc ss in
      let n : b + 1 + k - b ≡ suc k = omega arith in
      let piv : drop b (take (b + 1 + k) l) ≡ s ∷ take k ss = drop-take b (b + 1 + k) l ∙ (rw (n, e)) in
      let q : b + 1 + k ≡ b + suc k = omega arith in
      let post : drop (b + 1 + k) l ≡ drop k ss = ap (λ (z : ℕ). drop z l) q ∙ sym (drop-drop (suc k) b l) ∙ ap (drop (suc k)) e in
      on_test (eqb s.doc TERMINATED) (λ t. rw t) (λ t. rw (t, piv, post))

  pub pivot-on-route : (t : Float) (l : List TermScorer) → All (Fair f) l → find_pivot_doc f32 t (map f l) ≡ pivot_in l (pivot_of t l)
  unfolding pivot_of
  pivot-on-route t l a =
      let b = before_pivot t f32.nil l in
      ap live_only (cut-is t f32.nil l a) ∙ live-is l b (drop b l) refl

  -- ---- the scorer to seek

  seek-max : (x : TermScorer) (xs : List TermScorer) → All (Fair f) (x ∷ xs)
      → max_score (scorer_to_seek f32 (f x) (map f xs)).one ≡ highest x xs
  seek-max x [] a = a.0.max-is
  seek-max x (y ∷ ys) a =
      let ih = seek-max y ys a.1 in
      let m = a.0.max-is in
      let test : f32.above (max_score (f x)) (max_score (scorer_to_seek f32 (f y) (map f ys)).one) ≡ f32.above x.max_score (highest y ys) = rw (ih, m) in
      on_test (f32.above x.max_score (highest y ys)) (λ b. rw (test, b) m) (λ b. rw (test, b) ih)

  pub seek-on-route : (x : TermScorer) (xs : List TermScorer) → All (Fair f) (x ∷ xs)
      → scorer_to_seek f32 (f x) (map f xs) ≡ around (x ∷ xs) (place_to_seek (x ∷ xs))
  seek-on-route x [] a = refl
  seek-on-route x (y ∷ ys) a =
      let ih = seek-on-route y ys a.1 in
      let h = seek-max y ys a.1 in
      let m = a.0.max-is in
      let test : f32.above (max_score (f x)) (max_score (scorer_to_seek f32 (f y) (map f ys)).one) ≡ f32.above x.max_score (highest y ys) = rw (h, m) in
      on_test (f32.above x.max_score (highest y ys)) (λ b. rw (test, b)) (λ b. rw (test, b, ih))
