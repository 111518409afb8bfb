-- A query's numbers one by one, and what a request that is not refused gives.
use mathlib.Core.Path.{◌≡◌, refl, sym, ap, ◌∙◌}
use mathlib.Core.Bool.{Bool, true, false, ◌&&◌}
use mathlib.Core.List.{List, [], ◌∷◌}
use Prim.Native.Nat.{ℕ, zero, suc, ◌+◌, ◌≤◌, ◌<◌}
use native.Mathlib.Numerals.{add-one}
use native.Mathlib.Omega.{arith}
use lib.Dec.{leb, ltb, lit<, lit≤}
use lib.ListN.{length, get_or, drop, drop_of_length-le}
use lib.Seq.{drop-cons}
use borrow.Author.Tests.{lt-ltb, le-ltb, ltb-true, leb-true, eqb-true}
use Rattle.arrays.proofs.Every.{first-true, second-true}
use Rattle.route.specs.Inner.Rules.{Takes}
use Rattle.rulecheck.specs.Right.{rule_right}
use Rattle.notefile.specs.Header.{list_count}
use Rattle.notefile.specs.Refusal.{Test, test, unless, first_refusal, file_tests, file_refusal}
use Rattle.notefile.specs.Inner.Order.{or_else}
use Rattle.notefile.specs.Inner.Structs.{header_of}
use Rattle.notefile.specs.declared.header.Header.{Header}
use Rattle.notefile.proofs.Order.{Numbered, numbered-append, first-append, first_below, file-numbered}
use Rattle.outcome.specs.Refusals.{number_of}
use Rattle.outcome.specs.declared.refusal.Refusal.{Refusal}
use Rattle.outcome.proofs.ByNumber.{no-refusal}
use Rattle.request.specs.Request.{Request, mode_of, numbers_right, count_right, query_right, query_tests, request_tests, refusal_of}
use Rattle.request.specs.declared.Mode.{Mode}
use Rattle.request.specs.declared.Mode.TheVariants.{Union, Intersection, Single}

-- the numbers from i on decide
module _ (lists : ℕ) (whole : Bool) (query : List ℕ) (i : ℕ) (left : whole ≡ numbers_right lists (drop i query)) where
  module _ (h : i < length query) where
    apart : whole ≡ (ltb (get_or query i 0) lists && numbers_right lists (drop (suc i) query))
    apart = left ∙ ap (numbers_right lists) (drop-cons query i 0 h)

    pub number-high : lists ≤ get_or query i 0 → false ≡ whole
    number-high g = sym (apart ∙ rw (le-ltb (get_or query i 0) lists g))

    pub number-right : get_or query i 0 < lists → whole ≡ numbers_right lists (drop (i + 1) query)
    number-right g = apart ∙ rw (lt-ltb (get_or query i 0) lists g, add-one i)

  pub all-numbers : length query ≤ i → true ≡ whole
  all-numbers h = sym (left ∙ ap (numbers_right lists) (drop_of_length-le query h))

-- every number is a list's
numbers-named : (lists : ℕ) (query : List ℕ) → numbers_right lists query ≡ true → (q : ℕ) → q < length query → get_or query q 0 < lists
numbers-named lists [] e q h = absurd (omega (arith, h))
numbers-named lists (l ∷ ls) e zero h = ltb-true l lists (first-true (ltb l lists) (numbers_right lists ls) e)
numbers-named lists (l ∷ ls) e (suc q) h = numbers-named lists ls (second-true (ltb l lists) (numbers_right lists ls) e) q (omega arith)

-- as many as the mode takes
count-few : (mode : Mode) (n : ℕ) → count_right mode n ≡ true → n ≤ 16
count-few Union n e = leb-true n 16 e
count-few Intersection n e = leb-true n 16 (second-true (leb 2 n) (leb n 16) e)
count-few Single n e = let q = eqb-true n 1 e in omega arith

count-takes : (mode : Mode) (n : ℕ) → count_right mode n ≡ true → Takes (mode_of mode) n
count-takes Union n e = tt
count-takes Intersection n e = leb-true 2 n (first-true (leb 2 n) (leb n 16) e)
count-takes Single n e = eqb-true n 1 e

-- ---- the table's order

first-stays : (r n : ℕ) → (r ≡ 0 → ⊥) → r ≡ or_else r n
first-stays zero n h = absurd (h refl)
first-stays (suc r) n h = refl

or-none : (r n : ℕ) → or_else r n ≡ 0 → (r ≡ 0) × (n ≡ 0)
or-none zero n e = (refl, e)
or-none (suc r) n e = absurd (omega (arith, e))

unless-none : (b : Bool) (n : ℕ) → unless b (suc n) 0 ≡ 0 → b ≡ true
unless-none true n e = refl
unless-none false n e = absurd (omega (arith, e))

query-numbered : (file query : List ℕ) (mode : Mode) → Numbered 11 (query_tests file query mode)
unfolding query_tests
query-numbered file query mode = numbered-append 11 (file_tests file) _ (numbered-up (file_tests file) (file-numbered file)) (lit< tt, lit≤ tt, tt)
  where
    numbered-up : (ts : List Test) → Numbered 9 ts → Numbered 11 ts
    numbered-up [] h = tt
    numbered-up (test n right ∷ ts) h = (h.0, omega (arith, h.1), numbered-up ts h.2)

module _ (file query : List ℕ) (mode : Mode) where
  -- the file's refusal, or else the query's
  pub query-or : first_refusal (query_tests file query mode) ≡ or_else (file_refusal file) (unless (query_right (list_count file) mode query) 10 0)
  unfolding query_tests file_refusal
  query-or = first-append 9 (file_tests file) (test 10 (query_right (list_count file) mode query) ∷ []) (file-numbered file)

  -- a file's refusal comes first
  pub file-refused : (r : Refusal) → number_of r ≡ file_refusal file → number_of r ≡ first_refusal (query_tests file query mode)
  file-refused r e = first-stays (number_of r) _ (no-refusal r).0 ∙ ap (λ (n : ℕ). or_else n (unless (query_right (list_count file) mode query) 10 0)) e ∙ sym query-or

  module _ (accepted : file_refusal file ≡ 0) where
    pub query-refused : query_right (list_count file) mode query ≡ false → 10 ≡ first_refusal (query_tests file query mode)
    query-refused e = sym (query-or ∙ rw (accepted, e))

    pub query-let : query_right (list_count file) mode query ≡ true → 0 ≡ first_refusal (query_tests file query mode)
    query-let e = sym (query-or ∙ rw (accepted, e))

-- the header has the number of lists
pub lists-are : (file : List ℕ) {h : Header} → h ≡ header_of file → h.lists ≡ list_count file
unfolding header_of
lists-are file e = ap (λ (h : Header). h.lists) e

module _ (q : Request) where
  -- what rows 1 to 10 refuse, or else the rule's
  pub request-or : refusal_of q ≡ or_else (first_refusal (query_tests q.file q.query q.mode)) (unless (rule_right q.rule q.scoring q.script) 11 0)
  unfolding refusal_of
  request-or = first-append 11 (query_tests q.file q.query q.mode) (test 11 (rule_right q.rule q.scoring q.script) ∷ []) (query-numbered q.file q.query q.mode)

  -- no request is refused for more than 11
  pub request-numbered : Numbered 11 (request_tests q)
  unfolding request_tests
  request-numbered = numbered-append 11 (query_tests q.file q.query q.mode) _ (query-numbered q.file q.query q.mode) (lit< tt, lit≤ tt, tt)

  pub refusal-below : refusal_of q ≤ 11
  unfolding refusal_of
  refusal-below = first_below 11 (request_tests q) request-numbered

  -- what a request that is not refused gives to its run
  pub record Let : Type 0 where
    pub accepted : file_refusal q.file ≡ 0
    pub named : (i : ℕ) → i < length q.query → get_or q.query i 0 < list_count q.file
    pub few : length q.query ≤ 16
    pub takes : Takes (mode_of q.mode) (length q.query)
    pub rule-right : rule_right q.rule q.scoring q.script ≡ true

  pub let_through : refusal_of q ≡ 0 → Let
  let_through e =
      let r = or-none (first_refusal (query_tests q.file q.query q.mode)) _ (sym request-or ∙ e) in
      let f = or-none (file_refusal q.file) _ (sym (query-or q.file q.query q.mode) ∙ r.0) in
      let b = unless-none (query_right (list_count q.file) q.mode q.query) 9 f.1 in
      let n = first-true (numbers_right (list_count q.file) q.query) (count_right q.mode (length q.query)) b in
      let k = second-true (numbers_right (list_count q.file) q.query) (count_right q.mode (length q.query)) b in
      record {
        accepted = f.0;
        named = numbers-named (list_count q.file) q.query n;
        few = count-few q.mode (length q.query) k;
        takes = count-takes q.mode (length q.query) k;
        rule-right = unless-none (rule_right q.rule q.scoring q.script) 10 r.1;
      }

  -- the first refusal met
  pub first-refused : {n : ℕ} → n ≡ first_refusal (query_tests q.file q.query q.mode) → (n ≡ 0 → ⊥) → n ≡ refusal_of q
  first-refused {n} e ne = first-stays n _ ne ∙ ap (λ (r : ℕ). or_else r (unless (rule_right q.rule q.scoring q.script) 11 0)) e ∙ sym request-or

  module _ {n : ℕ} (e : n ≡ first_refusal (query_tests q.file q.query q.mode)) (z : n ≡ 0) where
    rule-decides : refusal_of q ≡ unless (rule_right q.rule q.scoring q.script) 11 0
    rule-decides = request-or ∙ rw (sym e ∙ z)

    pub rule-refused : rule_right q.rule q.scoring q.script ≡ false → 11 ≡ refusal_of q
    rule-refused f = sym (rule-decides ∙ rw f)

    pub not-refused : rule_right q.rule q.scoring q.script ≡ true → 0 ≡ refusal_of q
    not-refused f = sym (rule-decides ∙ rw f)
