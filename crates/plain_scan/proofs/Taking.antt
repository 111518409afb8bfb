-- The slots asked one after another for a document: its scores so far, scorers behind it, and scorers that are still to be asked.
use mathlib.Core.Path.{◌≡◌, refl, sym, ap, ◌∙◌, subst}
use mathlib.Core.List.{List, [], ◌∷◌, ◌++◌, append_assoc}
use mathlib.Core.Logic.{inl, inr}
use mathlib.Core.Option.{Option, some}
use Prim.Native.Nat.{ℕ, suc, ◌+◌, ◌-◌, ◌≤◌, ◌<◌}
use native.Mathlib.Numerals.{add-one}
use native.Mathlib.Omega.{arith}
use lib.ListN.{length, get_or, set, length-set, length-append}
use lib.Ieee.{Float}
use Rattle.arrays.proofs.Order.{lt-or-ge}
use Rattle.route.specs.Cursor.{advance_in}
use Rattle.route.specs.Plain.{opt_list, present}
use Rattle.route.specs.Postings.{score_of}
use Rattle.route.proofs.Cases.{lt_of_ne}
use Rattle.bm25.specs.declared.Scoring.{Scoring}
use Rattle.term_scorer.specs.Inner.Slots.{Held, Sixteen, MovedSlot, list_at, cursor_at, lists_from}
use Rattle.scan_heads.specs.Inner.Found.{found_of, with_score}
use Rattle.scan_heads.specs.declared.Found.{Found}
use Rattle.plain_scan.specs.Inner.Heads.{StandsFrom, Standing}
use Rattle.plain_scan.proofs.Sums.{found-snoc}
use Rattle.plain_scan.proofs.Slots.{raised, absent, has, goes_on, unmoved}

module _ (scoring : Scoring) (file : List ℕ) (lists : List (List ℕ)) (n d : ℕ) where
  abbrev Stands : ℕ → Held → List ℕ → ℕ → Type 0
  Stands = StandsFrom scoring file lists

  -- the document's scores in the slots from q on
  abbrev present_from : ℕ → List Float
  present_from q = present d (lists_from scoring file lists q (n - q))

  -- the first q slots have been asked
  pub record Taking (found : Found) (h : Held) (heads : List ℕ) (q : ℕ) : Type 0 where
    pub within : q ≤ n
    pub long : Sixteen heads
    pub behind : (p : ℕ) → p < q → Stands (suc d) h heads p
    pub ahead : (p : ℕ) → q ≤ p → p < n → Stands d h heads p
    pub values : List Float
    pub found-is : found ≡ found_of values
    pub counted : length values ≤ q
    pub whole : values ++ present_from q ≡ present d (lists_from scoring file lists 0 n)

  pub taking-begun : {h : Held} {heads : List ℕ} → Standing scoring file lists n d h heads → Taking (found_of []) h heads 0
  taking-begun S = record {
    within = omega arith;
    long = S.long;
    behind = λ p h. absurd (omega (arith, h));
    ahead = λ p _ h. S.each p h;
    values = [];
    found-is = refl;
    counted = omega arith;
    whole = let e : n - 0 ≡ n = omega arith in ap (λ (k : ℕ). present d (lists_from scoring file lists 0 k)) e;
  }

  -- the next slot's list comes first in what is left
  next-list : (q : ℕ) → q < n → present_from q ≡ opt_list (score_of (list_at scoring file lists q) d) ++ present_from (q + 1)
  next-list q h =
      let e : n - q ≡ suc (n - (q + 1)) = omega arith in
      ap (λ (k : ℕ). present d (lists_from scoring file lists q k)) e
      ∙ ap (λ (p : ℕ). opt_list (score_of (list_at scoring file lists q) d) ++ present d (lists_from scoring file lists p (n - (q + 1)))) (sym (add-one q))

  module _ {found : Found} {h : Held} {heads : List ℕ} {q : ℕ} (T : Taking found h heads q) (more : q < n) where
    -- the next slot's scorer
    pub this : Stands d h heads q
    this = T.ahead q (omega arith) more

    -- there is room in the count for it
    pub few-found : n ≤ 16 → found.matched < 18446744073709551615
    few-found few = let e = ap (λ (z : Found). z.matched) T.found-is in omega (arith, e, T.counted, more, few)

    -- one slot more
    up_to : (P : ℕ → Type 0) → ((p : ℕ) → p < q → P p) → P q → (p : ℕ) → p < q + 1 → P p
    up_to P f z p k = elim (lt-or-ge p q) [
      | inl l ↦ f p l
      | inr g ↦ let e : q ≡ p = omega (arith, g, k) in subst P e z
    ]

    -- its scorer stands behind the document
    pub taking-passes : (get_or heads q 0 ≡ d → ⊥) → Taking found h heads (q + 1)
    taking-passes ne =
        let low : d < get_or heads q 0 = lt_of_ne this.low (λ e. ne (sym e)) in
        record {
          within = omega (arith, more);
          long = T.long;
          behind = up_to (λ p. Stands (suc d) h heads p) T.behind (raised scoring file lists this (suc d) (omega arith) low);
          ahead = λ p a b. T.ahead p (omega (arith, a)) b;
          values = T.values;
          found-is = T.found-is;
          counted = omega (arith, T.counted);
          whole =
              ap (λ (o : Option Float). T.values ++ (opt_list o ++ present_from (q + 1))) (sym (absent scoring file lists this d (omega arith) low))
              ∙ ap (λ (zs : List Float). T.values ++ zs) (sym (next-list q more)) ∙ T.whole;
        }

    -- or on it: its score comes in, and it goes on
    pub taking-takes : n ≤ 16 → d < 2147483647 → get_or heads q 0 ≡ d → {value : Float} → value ≡ (list_at scoring file lists q).score (cursor_at h.places q).at
        → {h' : Held} {doc : ℕ} → MovedSlot file lists q (λ s. advance_in (list_at s file lists q) 128 (cursor_at h.places q)) h h' doc
        → {f : Found} → f ≡ with_score found value → Taking f h' (set heads q doc) (q + 1)
    taking-takes few t e {value} ev {h'} {doc} M ef = record {
      within = omega (arith, more);
      long = length-set heads q doc ∙ T.long;
      behind = up_to (λ p. Stands (suc d) h' (set heads q doc) p) (λ p l. unmoved scoring file lists (T.behind p l) (λ z. omega (arith, z, l)) M)
          (goes_on scoring file lists this e t (omega (arith, more, few)) T.long M);
      ahead = λ p a b. unmoved scoring file lists (T.ahead p (omega (arith, a)) b) (λ z. omega (arith, z, a)) M;
      values = T.values ++ (value ∷ []);
      found-is = ef ∙ ap (λ (z : Found). with_score z value) T.found-is ∙ found-snoc T.values value;
      counted = omega (arith, length-append T.values (value ∷ []), T.counted);
      whole =
          append_assoc T.values (value ∷ []) (present_from (q + 1))
          ∙ ap (λ (o : Option Float). T.values ++ (opt_list o ++ present_from (q + 1))) (ap some ev ∙ sym (has scoring file lists this e t))
          ∙ ap (λ (zs : List Float). T.values ++ zs) (sym (next-list q more)) ∙ T.whole;
    }
