-- The order parts of a union's turn: a run moves one scorer, or several, each in its own slot, puts them in order, and has the route's next scorers.
use mathlib.Core.List.{List, map, [], ◌++◌, ◌∷◌}
use mathlib.Core.Path.{ap, refl, sym, ◌∙◌, ◌≡◌}
use Prim.Native.Nat.{suc, ℕ, ◌<◌, ◌≤◌}
use native.Mathlib.Omega.{arith}
use lib.ListN.{drop, get_or, length, length-map, length-set, length-take, set, take}
use lib.Seq.{drop-set-lt, get_or-set_same, get_or-take, map-set_same, set_split, take-set-le, take-take}
use lib.Ieee.{Float}
use Rattle.arrays.specs.Every.{All}
use Rattle.route.specs.F32.{f32}
use Rattle.route.specs.Postings.{TERMINATED}
use Rattle.route.specs.Ordering.{restore_ordering, sort_by, sweep}
use Rattle.route.specs.Scorer.{Scorer, advance, doc_of, seek}
use Rattle.route.specs.Union.{advance_all_scorers_on_pivot, behind, block_max_was_too_low, least_doc, least_last_doc}
use Rattle.route.proofs.Lists.{all_append}
use Rattle.ordering.specs.Inner.Scorers.{Apart, by_doc, least_doc_of, moved, no_scorer, slot_of}
use Rattle.ordering.specs.Inner.Pivots.{place_to_seek}
use Rattle.term_scorer.specs.declared.TermScorer.{TermScorer}
use Rattle.ordering.proofs.Places.{all_drop, all_take, join, map-append}
use Rattle.ordering.proofs.Kept.{Off, kept-all, others_apart, sweep-kept}
use Rattle.ordering.proofs.Found.{seek-inside}
use Rattle.ordering.proofs.OnRoute.{Fair, SameDoc, around, fair-docs, least-on-route, restored-on-route, seek-on-route, sorted-on-route, swept-on-route}

-- ---- one scorer is replaced

pub all-off : (P Q : TermScorer → Type 0) (q : ℕ) → ((s : TermScorer) → Off q s → P s → Q s) → (l : List TermScorer) → All (Off q) l → All P l → All Q l
all-off P Q q h [] o a = tt
all-off P Q q h (x ∷ l) o a = (h x o.0 a.0, all-off P Q q h l o.1 a.1)

module _ (l : List TermScorer) (i : ℕ) (x' : TermScorer) (h : i < length l) (apart : Apart l) where
  abbrev here : ℕ
  here = (get_or l i no_scorer).slot

  -- what changes in its slot alone leaves what holds of the others
  pub replaced-all : (P Q : TermScorer → Type 0) → ((s : TermScorer) → Off here s → P s → Q s) → Q x' → All P l → All Q (set l i x')
  replaced-all P Q k q a =
      let o = others_apart l i h apart in
      rw (set_split l i x' h)
      (all_append Q (take i l) (x' ∷ drop (suc i) l) (all-off P Q here k (take i l) o.0 (all_take P i l a))
      (q, all-off P Q here k (drop (suc i) l) o.1 (all_drop P (suc i) l a)))

-- a scorer stays in its slot
pub replaced-slots : (l : List TermScorer) (i : ℕ) (x' : TermScorer) → x'.slot ≡ (get_or l i no_scorer).slot → map slot_of (set l i x') ≡ map slot_of l
replaced-slots l i x' e = map-set_same slot_of l i x' no_scorer e

-- g says of the scorers in other slots than q what f says
abbrev pub SameOff : ℕ → (f g : TermScorer → Scorer Float) → Type 0
SameOff q f g = (s : TermScorer) → Off q s → g s ≡ f s

module _ (f g : TermScorer → Scorer Float) where
  pub same_map : (q : ℕ) → SameOff q f g → (l : List TermScorer) → All (Off q) l → map g l ≡ map f l
  same_map q h [] o = refl
  same_map q h (x ∷ l) o = let a = h x o.0 in let b = same_map q h l o.1 in rw (a, b)

  -- the others, before place i and behind it
  pub same-others : (l : List TermScorer) (i : ℕ) → i < length l → Apart l → SameOff (get_or l i no_scorer).slot f g
      → (map g (take i l) ≡ map f (take i l)) × (map g (drop (suc i) l) ≡ map f (drop (suc i) l))
  same-others l i h apart s =
      let o = others_apart l i h apart in
      let q = (get_or l i no_scorer).slot in
      (same_map q s (take i l) o.0, same_map q s (drop (suc i) l) o.1)

-- ---- blocks too low: one scorer seeks

-- the least last document of the present blocks
abbrev pub least_last : ℕ → (TermScorer → Scorer Float) → List TermScorer → ℕ
least_last B f [] = TERMINATED
least_last B f (x ∷ xs) = least_last_doc B (f x) (map f xs)

module _ (B : ℕ) (f g : TermScorer → Scorer Float) where
  low-is : (xs : List TermScorer) (post : List (Scorer Float)) (at : ℕ) → 0 < length xs → All (Fair f) xs → at ≡ place_to_seek xs
      → block_max_was_too_low B f32 (map f xs) post
      ≡ map f (take at xs) ++ restore_ordering doc_of (seek B (least_doc (behind (least_last B f xs)) post) (f (get_or xs at no_scorer))) (map f (drop (suc at) xs) ++ post)
  low-is [] post at h a e = absurd (omega arith)
  low-is (x ∷ xs) post at h a e =
      let p = seek-on-route f x xs a ∙ ap (around f (x ∷ xs)) (sym e) in
      rw p

  pub too-low-on-route : (l : List TermScorer) (len at d : ℕ) (x' : TermScorer) → 0 < len → len ≤ length l → All (Fair f) l → Apart l
      → at ≡ place_to_seek (take len l) → d ≡ least_doc_of (behind (least_last B f (take len l))) (drop len l)
      → SameOff (get_or l at no_scorer).slot f g → g x' ≡ seek B d (f (get_or l at no_scorer)) → SameDoc g x'
      → map g (moved (set l at x') at) ≡ block_max_was_too_low B f32 (map f (take len l)) (map f (drop len l))
  too-low-on-route l len at d x' pos k a apart e q same s doc =
      let tl : length (take len l) ≡ len = omega (arith, length-take len l) in
      let al : at < len = let z = seek-inside (take len l) (omega arith) in omega arith in
      let h : at < length l = omega arith in
      let l' = set l at x' in
      let docs = fair-docs f l a in
      let docs' = replaced-all l at x' h apart (SameDoc f) (SameDoc g) (λ y o z. ap doc_of (same y o) ∙ z) doc docs in
      let o = same-others f g l at h apart same in
      let front : map g (take at l') ≡ map f (take at l) = ap (map g) (take-set-le at l at x' (omega arith)) ∙ o.0 in
      let one : g (get_or l' at no_scorer) ≡ seek B d (f (get_or l at no_scorer)) = ap g (get_or-set_same l at x' no_scorer h) ∙ s in
      let back : map g (drop (suc at) l') ≡ map f (drop (suc at) l) = ap (map g) (drop-set-lt (suc at) l at x' (omega arith)) ∙ o.1 in
      let post = map f (drop len l) in
      let q' : least_doc (behind (least_last B f (take len l))) post ≡ d = least-on-route f (behind (least_last B f (take len l))) (drop len l) (all_drop (SameDoc f) len l docs) ∙ sym q in
      let front_cut : take at (take len l) ≡ take at l = take-take at len l (omega arith) in
      let one-cut : get_or (take len l) at no_scorer ≡ get_or l at no_scorer = get_or-take len l at no_scorer al in
      let back_cut : map f (drop (suc at) (take len l)) ++ post ≡ map f (drop (suc at) l) =
      sym (map-append f (drop (suc at) (take len l)) (drop len l)) ∙ ap (map f) (join (suc at) len l al) in
      let next : List (Scorer Float) = map f (take at l) ++ restore_ordering doc_of (seek B d (f (get_or l at no_scorer))) (map f (drop (suc at) l)) in
      let run : map g (moved l' at) ≡ next = rw (front, one, back) at (restored-on-route g l' at (rw (length-set l at x') h) docs') in
      let route : block_max_was_too_low B f32 (map f (take len l)) post ≡ next =
      rw (q', front_cut, one-cut, back_cut) at (low-is (take len l) post at (omega arith) (all_take (Fair f) len l a) e) in
      run ∙ sym route

-- ---- a hit: the scorers on the pivot have advanced
pub advanced-on-route : (B : ℕ) (g : TermScorer → Scorer Float) (l : List TermScorer) (n : ℕ) (on post : List (Scorer Float)) → length l ≡ n → All (SameDoc g) l
    → map g l ≡ map (advance B) on ++ post → map g (sort_by by_doc (sweep by_doc n l)) ≡ advance_all_scorers_on_pivot B on post
advanced-on-route B g l n on post e a p =
    let n' : length (map (advance B) on ++ post) ≡ n = sym (ap length p) ∙ length-map l g ∙ e in
    sorted-on-route g (sweep by_doc n l) (kept-all (SameDoc g) (sweep-kept by_doc n l) a) ∙ ap (sort_by doc_of) (swept-on-route g n l a)
    ∙ ap (λ z. sort_by doc_of (sweep doc_of n z)) p ∙ ap (λ (z : ℕ). sort_by doc_of (sweep doc_of z (map (advance B) on ++ post))) (sym n')
