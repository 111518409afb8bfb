-- The tail's VInts: what the tests of condition 6 find, in its order.
use mathlib.Core.Path.{◌≡◌, refl, sym, ap, ◌∙◌}
use mathlib.Core.Bool.{Bool, true, false, ◌&&◌, true≢false}
use mathlib.Core.List.{List}
use mathlib.Core.Logic.{inl}
use Prim.Native.Nat.{ℕ, suc, ◌≤◌, ◌<◌}
use native.Mathlib.Nat.{le_refl}
use native.Mathlib.Omega.{arith}
use lib.Dec.{eqb}
use lib.ListN.{length, get_or, set}
use borrow.Author.Tests.{le-leb, lt-leb, le-ltb}
use Rattle.arrays.specs.Every.{every}
use Rattle.arrays.proofs.Every.{each, all}
use Rattle.codec.specs.VInts.{vint_place, vint_value, vint_whole}
use Rattle.codec.specs.Inner.VIntRows.{end_or, VIntsRead}
use Rattle.notefile.specs.Lists.{full_blocks, tail_size, is_full, tail_at, tail_freqs_at, doc_value, freq_value}
use Rattle.notefile.specs.Conditions.{postings_right}
use Rattle.notefile.specs.Inner.Reads.{docs_of, freqs_of, Sized, TailRead}
use Rattle.notefile.proofs.Pairs.{new-docs, new-freqs, old-docs, old-freqs, two-still}
use Rattle.notefile.specs.declared.part.Part.{Part}
use Rattle.std.proofs.Common.{Option, Some, None}

-- what an answer of the VInts says
broke : (z : Bool) (p : ℕ) {r : Option ℕ} → r ≡ end_or z p → r ≡ None → z ≡ false
broke true p e f = cc
broke false p e f = refl

whole : (z : Bool) (p : ℕ) {q : ℕ} {r : Option ℕ} → r ≡ end_or z p → r ≡ Some q → z ≡ true
whole true p e f = refl
whole false p e f = cc

ends : (z : Bool) (p : ℕ) {q : ℕ} {r : Option ℕ} → r ≡ end_or z p → r ≡ Some q → q ≡ p
ends true p e f = cc
ends false p e f = cc

-- all of a row's values, where all are whole
row : {s : List ℕ} {e p n : ℕ} {vs out : List ℕ} {r : Option ℕ} → VIntsRead s e p n vs r out → every n (vint_whole s e p) ≡ true → (i : ℕ) → i < n → get_or out i 0 ≡ vint_value s e p i
row {s} {e} {p} {n} R w i h = R.values i h (all (vint_whole s e p) (suc i) (λ k l. each (vint_whole s e p) n k w (omega arith)))

-- the parts of condition 6
module _ (file : List ℕ) (x : Part) where
  abbrev docs-whole : Bool
  docs-whole = every (tail_size x) (vint_whole file x.end (tail_at file x))

  abbrev freqs-whole : Bool
  freqs-whole = every (tail_size x) (vint_whole file x.end (tail_freqs_at file x))

  abbrev fills : Bool
  fills = eqb (vint_place file x.end (tail_freqs_at file x) (tail_size x)) x.end

module _ (file : List ℕ) (x : Part) {at : ℕ} (ea : at ≡ tail_at file x) where
  -- nothing is written behind the tail
  abbrev Kept : List ℕ → List ℕ → Type 0
  Kept before out = (i : ℕ) → tail_size x ≤ i → get_or out i 0 ≡ get_or before i 0

  wrong : {docs₀ freqs₀ docs freqs : List ℕ} → postings_right file x ≡ false → Kept docs₀ docs → Kept freqs₀ freqs → TailRead file x docs₀ freqs₀ false docs freqs
  wrong e k l = record { same = sym e; values = λ t. absurd (true≢false (sym t)); docs-kept = k; freqs-kept = l }

  pub past_end : {docs freqs : List ℕ} → x.end < at → TailRead file x docs freqs false docs freqs
  unfolding postings_right
  past_end l = wrong (rw (lt-leb (tail_at file x) x.end (omega arith))) (λ i h. refl) (λ i h. refl)

  module _ (inside : at ≤ x.end) {before docs : List ℕ} {r : Option ℕ} (R : VIntsRead file x.end at (tail_size x) before r docs) where
    rest-is : postings_right file x ≡ docs-whole file x && (freqs-whole file x && fills file x)
    unfolding postings_right
    rest-is = rw (le-leb (tail_at file x) x.end (omega arith))

    same-1 : r ≡ end_or (docs-whole file x) (tail_freqs_at file x)
    same-1 = rw ea at R.same

    docs-here : Kept before docs
    docs-here i h = R.kept i (inl h)

    pub docs-broken : {freqs : List ℕ} → r ≡ None → TailRead file x before freqs false docs freqs
    docs-broken b = wrong (rest-is ∙ ap (λ (z : Bool). z && (freqs-whole file x && fills file x)) (broke (docs-whole file x) _ same-1 b)) docs-here (λ i h. refl)

    module _ {middle : ℕ} (m : r ≡ Some middle) {before2 freqs : List ℕ} {r2 : Option ℕ} (R2 : VIntsRead file x.end middle (tail_size x) before2 r2 freqs) where
      whole-1 : docs-whole file x ≡ true
      whole-1 = whole (docs-whole file x) _ same-1 m

      mid : middle ≡ tail_freqs_at file x
      mid = ends (docs-whole file x) _ same-1 m

      then_is : postings_right file x ≡ freqs-whole file x && fills file x
      then_is = rest-is ∙ ap (λ (z : Bool). z && (freqs-whole file x && fills file x)) whole-1

      same-2 : r2 ≡ end_or (freqs-whole file x) (vint_place file x.end (tail_freqs_at file x) (tail_size x))
      same-2 = rw mid at R2.same

      pub freqs-broken : r2 ≡ None → TailRead file x before before2 false docs freqs
      freqs-broken b = wrong (then_is ∙ ap (λ (z : Bool). z && fills file x) (broke (freqs-whole file x) _ same-2 b)) docs-here (λ i h. R2.kept i (inl h))

      module _ {last : ℕ} (l : r2 ≡ Some last) where
        whole-2 : freqs-whole file x ≡ true
        whole-2 = whole (freqs-whole file x) _ same-2 l

        no_more : is_full x (full_blocks x) ≡ false
        no_more = le-ltb (full_blocks x) (full_blocks x) (le_refl (full_blocks x))

        pub filled : TailRead file x before before2 (eqb last x.end) docs freqs
        unfolding doc_value freq_value
        filled = record {
          same = sym (then_is ∙ ap (λ (z : Bool). z && fills file x) whole-2 ∙ ap (λ (z : ℕ). eqb z x.end) (sym (ends (freqs-whole file x) _ same-2 l)));
          values = λ _. record {
            long-docs = R.long;
            long-freqs = R2.long;
            doc-at = λ i h. (rw ea at (row R (rw ea whole-1) i h)) ∙ rw no_more;
            freq-at = λ i h. (rw mid at (row R2 (rw mid whole-2) i h)) ∙ rw no_more;
          };
          docs-kept = docs-here;
          freqs-kept = λ i h. R2.kept i (inl h);
        }

-- the same of the block whose arrays they are written to, one after the other
module _ (file : List ℕ) (x : Part) {at : ℕ} (ea : at ≡ tail_at file x) (inside : at ≤ x.end) {block : List (List ℕ)} (Z : Sized block)
    {docs : List ℕ} {r : Option ℕ} (R : VIntsRead file x.end at (tail_size x) (docs_of block) r docs) where
  abbrev one : List (List ℕ)
  one = set block 0 docs

  freqs-same : freqs_of one ≡ freqs_of block
  freqs-same = old-freqs block docs

  pub freqs-fit : length (freqs_of one) ≡ 128
  freqs-fit = ap length freqs-same ∙ Z.long-freqs

  pub docs-broken-in : r ≡ None → TailRead file x (docs_of block) (freqs_of block) false (docs_of one) (freqs_of one)
  docs-broken-in b = rw (new-docs block Z.two docs, freqs-same) (docs-broken file x ea inside R b)

  module _ {middle : ℕ} (m : r ≡ Some middle) {freqs : List ℕ} {r2 : Option ℕ} (R2 : VIntsRead file x.end middle (tail_size x) (freqs_of one) r2 freqs) where
    abbrev both : List (List ℕ)
    both = set one 1 freqs

    docs-are : docs_of both ≡ docs
    docs-are = old-docs one freqs ∙ new-docs block Z.two docs

    freqs-are : freqs_of both ≡ freqs
    freqs-are = new-freqs one (two-still block Z.two 0 docs) freqs

    second : VIntsRead file x.end middle (tail_size x) (freqs_of block) r2 freqs
    second = rw freqs-same at R2

    pub freqs-broken-in : r2 ≡ None → TailRead file x (docs_of block) (freqs_of block) false (docs_of both) (freqs_of both)
    freqs-broken-in b = rw (docs-are, freqs-are) (freqs-broken file x ea inside R m second b)

    pub filled_in : {last : ℕ} → r2 ≡ Some last → TailRead file x (docs_of block) (freqs_of block) (eqb last x.end) (docs_of both) (freqs_of both)
    filled_in l = rw (docs-are, freqs-are) (filled file x ea inside R m second l)
