-- A list that is opened in a slot leaves a fresh slot, and the others as they were.
use mathlib.Core.Path.{◌≡◌, refl, sym, ap, ◌∙◌, subst}
use mathlib.Core.Bool.{not}
use mathlib.Core.List.{List, [], ◌∷◌, map}
use mathlib.Core.Logic.{inl, inr}
use Prim.Native.Nat.{ℕ, suc, ◌+◌, ◌≤◌, ◌<◌}
use native.Mathlib.Nat.{add-zero, zero-add}
use native.Mathlib.Omega.{arith}
use lib.ListN.{length, get_or, set, take, drop, length-set, get_or-replicate, replicate}
use lib.Seq.{drop-cons, get_or-set_same, get_or-set_other}
use lib.Dec.{T}
use lib.Ieee.{Float, binary32, fits, is_nan, nan_bits, of_bits, to_bits}
use Rattle.arrays.proofs.Order.{lt-or-ge}
use Rattle.floats.specs.Step.{within}
use Rattle.floats.proofs.Pattern.{within-not-nan}
use Rattle.route.specs.Cursor.{Cursor, fresh}
use Rattle.route.specs.Scorer.{Scorer, scorers_from}
use Rattle.route.specs.Postings.{Postings}
use Rattle.bm25.specs.Scoring.{scored}
use Rattle.bm25.specs.Inner.Bound.{list_bound_in}
use Rattle.bm25.specs.declared.Bm25Weight.{Bm25Weight}
use Rattle.bm25.proofs.Bounds.{score-fits, scored-fits, scored-within}
use Rattle.bm25.specs.declared.Scoring.{Scoring}
use Rattle.bm25.specs.declared.Scoring.TheVariants.{Unstepped}
use Rattle.ordering.specs.Inner.Scorers.{no_scorer}
use Rattle.term_scorer.specs.declared.TermScorer.{TermScorer}
use Rattle.notefile.specs.Header.{list_count}
use Rattle.notefile.specs.Lists.{list_bound, score_for}
use Rattle.notefile.specs.Parts.{part_of}
use Rattle.notefile.specs.Inner.Structs.{header_of}
use Rattle.notefile.specs.Inner.Given.{Limits, NormsIn, WeightIn}
use Rattle.notefile.specs.declared.header.Header.{Header}
use Rattle.notefile.specs.declared.part.Part.{Part}
use Rattle.notefile.proofs.Scores.{list-bound-by, list-bound-in}
use Rattle.decoded.specs.Lists.{list_of, postings_of, queried}
use Rattle.skip_reader.specs.Inner.Decoded.{doc_in, ListIn}
use Rattle.slot_rows.specs.Inner.Rows.{part_in, part_row, PartRow}
use Rattle.slot_rows.proofs.Rows.{part-back}
use Rattle.term_scorer.specs.Inner.Slots.{Held, Sixteen, Opened, part_at, list_at, cursor_at, lists_from}
use Rattle.term_scorer.specs.Inner.Weights.{Weighed}
use Rattle.term_scorer.proofs.Tops.{top_kept}
use Rattle.query.specs.Inner.Openings.{Tables, Room, opened_scorer, unopened, OpenSlot, OnlySlot, OneOpened, QueryOpened, Untouched}

-- a list's number is below the header's
pub listed : (file : List ℕ) (h : Header) → h ≡ header_of file → (l : ℕ) → l < list_count file → l < h.lists
unfolding header_of
listed file h e l k = subst (λ (z : Header). l < z.lists) (sym e) k

-- an array in which one slot has changed has as many as before
same-long : {A : Type 0} (xs : List A) (q : ℕ) (y : A) {ys : List A} → ys ≡ set xs q y → Sixteen xs → Sixteen ys
same-long xs q y e l = ap length e ∙ length-set xs q y ∙ l

there : {A : Type 0} (xs : List A) (q : ℕ) (x d : A) → q < 16 → Sixteen xs → get_or (set xs q x) q d ≡ x
there xs q x d h l = get_or-set_same xs q x d (omega (arith, h, l))

put : {A : Type 0} (xs : List A) (q : ℕ) (x d : A) → q < 16 → Sixteen xs → set xs q x ≡ set xs q (get_or (set xs q x) q d)
put xs q x d h l = ap (set xs q) (sym (there xs q x d h l))

-- a list bound is a number
module _ (scoring : Scoring) {x : Part} (K : Limits x) {w : Bm25Weight} (W : WeightIn x w) {max-score : Float} (max-known : max-score ≡ scored scoring (list_bound_in w)) where
  max-by : max-score ≡ scored scoring (list_bound x)
  max-by = max-known ∙ ap (scored scoring) (list-bound-by x w W)

  pub max-number : T (not (is_nan max-score))
  max-number = within-not-nan 1000 max-score (subst (λ (z : Float). T (within 1000 z)) (sym max-by) (scored-within scoring (list_bound x) (list-bound-in x K)))

  max-fits : T (fits binary32 max-score)
  unfolding list_bound score_for
  max-fits =
      subst (λ (z : Float). T (fits binary32 z)) (sym max-by)
      (scored-fits scoring (list_bound x) (score-fits (of_bits binary32 x.weight) (of_bits binary32 x.average) 255 2013265944))

module _ (scoring : Scoring) (file : List ℕ) (l q : ℕ) (h : q < 16) {x : Part} (part-is : x ≡ part_of file l) (L : ListIn file x) (K : Limits x) {w : Bm25Weight} (W : WeightIn x w) {max-score : Float} (max-known : max-score ≡ scored scoring (list_bound_in w))
    (a : Tables) (R : Room a) {lists' : List (List ℕ)} {held' : Held} {doc : ℕ} (O : Opened file x (to_bits binary32 max-score) q a.lists lists' a.held held' doc) where
  abbrev row : List ℕ
  row = part_row x (to_bits binary32 max-score)

  abbrev b : Tables
  b = record { lists = lists'; norms = set a.norms q w.cache; held = held' }

  row_is : get_or lists' q [] ≡ row
  row_is = ap (λ (z : List (List ℕ)). get_or z q []) O.lists-only ∙ there a.lists q row [] h R.lists

  part-there : part_at lists' q ≡ x
  part-there = ap part_in row_is ∙ part-back x (to_bits binary32 max-score)

  norms-there : Weighed lists' b.norms q
  norms-there =
      rw (there a.norms q w.cache [] h R.norms)
      (subst (λ (z : Part). NormsIn z w.cache) (sym part-there) W.norms)

  max-there : max-score ≡ (list_of scoring file x).top
  unfolding list_of
  max-there = max-by scoring K W max-known

  doc-there : doc ≡ doc_in file (part_of file l) 0
  doc-there =
      O.opened.moved.doc-is ∙ ap (λ (z : Part). doc_in file z (cursor_at held'.places q).at) (part-there ∙ part-is)
      ∙ ap (λ (c : Cursor). doc_in file (part_of file l) c.at) (O.opened.moved.cursor-is Unstepped)

  pub one-opened : OneOpened scoring file l q a b (record { doc = doc; max_score = max-score; slot = q })
  one-opened = record {
    open-slot = record {
      fresh = record {
        slot-in = h;
        slot = record {
          sixteen = (same-long a.held.places q _ O.opened.places-only R.places, same-long a.held.blocks q _ O.opened.blocks-only R.blocks);
          part-row = subst PartRow (sym row_is) O.part-row;
          list = subst (ListIn file) (sym part-there) L;
          place = O.opened.moved.place;
        };
        first = O.opened.moved.cursor-is Unstepped;
        weighed = norms-there;
        top = top_kept scoring file lists' q max-score h (ap (λ (z : List ℕ). get_or z 7 0) row_is) (max-fits scoring K W max-known) (max-number scoring K W max-known) part-there max-there;
        unkept = O.unkept;
      };
      part-is = part-there ∙ part-is;
    };
    only = record {
      lists = O.lists-only ∙ ap (set a.lists q) (sym row_is);
      norms = put a.norms q w.cache [] h R.norms;
      places = O.opened.places-only;
      blocks = O.opened.blocks-only;
    };
    scorer-is = rw (doc-there, max-there, part-is);
  }

-- ---- slot by slot

other : {A : Type 0} (xs : List A) (q n : ℕ) (x d : A) {ys : List A} → ys ≡ set xs n x → (q ≡ n → ⊥) → get_or ys q d ≡ get_or xs q d
other xs q n x d e ne = ap (λ zs. get_or zs q d) e ∙ get_or-set_other xs n q x d ne

module _ (scoring : Scoring) (file : List ℕ) (a b : Tables) (n : ℕ) (O : OnlySlot n a b) where
  -- the tables are as long as before
  room-stays : Room a → Room b
  room-stays R = record {
    lists = same-long a.lists n _ O.lists R.lists;
    norms = same-long a.norms n _ O.norms R.norms;
    places = same-long a.held.places n _ O.places R.places;
    blocks = same-long a.held.blocks n _ O.blocks R.blocks;
  }

  -- another slot is as it was
  slot-stays : (l q : ℕ) → (q ≡ n → ⊥) → Room b → OpenSlot scoring file a l q → OpenSlot scoring file b l q
  slot-stays l q ne R S =
      let el = other a.lists q n _ [] O.lists ne in
      let ec = other a.norms q n _ [] O.norms ne in
      let ep = other a.held.places q n _ [] O.places ne in
      let eb = other a.held.blocks q n _ [] O.blocks ne in
      let F = S.fresh in
      record {
        fresh = record {
          slot-in = F.slot-in;
          slot = record { sixteen = (R.places, R.blocks); part-row = rw el F.slot.part-row; list = rw el F.slot.list; place = rw (el, ep, eb) F.slot.place };
          first = rw ep F.first;
          weighed = rw (el, ec) F.weighed;
          top = record {
            read = record { slot-in = F.slot-in; small = rw el F.top.read.small; number = subst (λ (z : List ℕ). T (not (nan_bits binary32 (get_or z 7 0)))) (sym el) F.top.read.number };
            top-is = rw el F.top.top-is;
          };
          unkept = rw ep F.unkept;
        };
        part-is = rw el S.part-is;
      }

-- and so are the slots behind
pub none-touched : (a : Tables) → Untouched 0 a a
none-touched a = record {
  lists = λ q h. refl;
  norms = λ q h. refl;
  places = λ q h. refl;
  blocks = λ q h. refl;
}

pub behind-as : {n m : ℕ} {a b : Tables} → n ≡ m → Untouched n a b → Untouched m a b
behind-as {a = a} {b = b} e U = subst (λ (z : ℕ). Untouched z a b) e U

pub behind-one : (n : ℕ) (a₀ a b : Tables) → Untouched n a₀ a → OnlySlot n a b → Untouched (n + 1) a₀ b
behind-one n a₀ a b U O = record {
  lists = λ q h. other a.lists q n _ [] O.lists (λ e. omega (arith, e)) ∙ U.lists q (omega arith);
  norms = λ q h. other a.norms q n _ [] O.norms (λ e. omega (arith, e)) ∙ U.norms q (omega arith);
  places = λ q h. other a.held.places q n _ [] O.places (λ e. omega (arith, e)) ∙ U.places q (omega arith);
  blocks = λ q h. other a.held.blocks q n _ [] O.blocks (λ e. omega (arith, e)) ∙ U.blocks q (omega arith);
}

module _ (scoring : Scoring) (file query : List ℕ) where
  pub none-opened : (a : Tables) → Room a → QueryOpened scoring file query 0 a (replicate 16 unopened)
  none-opened a R = record {
    room = R;
    open-slots = λ q h. absurd (omega (arith, h));
    long = refl;
    scorers-are = λ q h. absurd (omega (arith, h));
    behind = record { blank = λ q h k. get_or-replicate 16 q unopened unopened k };
  }

  pub one_more : (n : ℕ) (a b : Tables) (scorers : List TermScorer) {r : TermScorer} → n < 16 → QueryOpened scoring file query n a scorers → OneOpened scoring file (get_or query n 0) n a b r
      → QueryOpened scoring file query (n + 1) b (set scorers n r)
  one_more n a b scorers {r} h Q O =
      let R = room-stays scoring file a b n O.only Q.room in
      record {
        room = R;
        open-slots = λ q k. elim (lt-or-ge q n) [
          | inl l ↦ slot-stays scoring file a b n O.only (get_or query q 0) q (λ e. omega (arith, e, l)) R (Q.open-slots q l)
          | inr g ↦ subst (λ (z : ℕ). OpenSlot scoring file b (get_or query z 0) z) (only-n q n g k) O.open-slot
        ];
        long = length-set scorers n _ ∙ Q.long;
        scorers-are = λ q k. elim (lt-or-ge q n) [
          | inl l ↦ get_or-set_other scorers n q _ no_scorer (λ e. omega (arith, e, l)) ∙ Q.scorers-are q l
          | inr g ↦ subst (λ (z : ℕ). get_or (set scorers n r) z no_scorer ≡ opened_scorer scoring file (get_or query z 0) z) (only-n q n g k)
              (get_or-set_same scorers n _ no_scorer (omega (arith, h, Q.long)) ∙ O.scorer-is)
        ];
        behind = record { blank = λ q g k. get_or-set_other scorers n q _ unopened (λ e. omega (arith, e, g)) ∙ Q.behind.blank q (omega arith) k };
      }
    where
      only-n : (q m : ℕ) → m ≤ q → q < m + 1 → m ≡ q
      only-n q m g k = omega arith

-- ---- the slots' lists are the query's

module _ (scoring : Scoring) (file : List ℕ) (lists : List (List ℕ)) where
  lists-from : (ls : List ℕ) (i : ℕ) → ((k : ℕ) → k < length ls → part_at lists (i + k) ≡ part_of file (get_or ls k 0)) → lists_from scoring file lists i (length ls) ≡ queried scoring file ls
  unfolding queried
  lists-from [] i e = refl
  lists-from (l ∷ ls) i e =
      let here : part_at lists i ≡ part_of file l = ap (part_at lists) (sym (add-zero i)) ∙ e 0 (omega arith) in
      ap (λ (x : Part). list_of scoring file x ∷ lists_from scoring file lists (suc i) (length ls)) here
      ∙ ap (λ (z : List (Postings Float)). postings_of scoring file l ∷ z) (lists-from ls (suc i) (λ k h. ap (part_at lists) (next i k) ∙ e (suc k) (omega arith)))
    where
      next : (i k : ℕ) → suc i + k ≡ i + suc k
      next i k = omega arith

  pub lists-are : (query : List ℕ) → ((q : ℕ) → q < length query → part_at lists q ≡ part_of file (get_or query q 0)) → lists_from scoring file lists 0 (length query) ≡ queried scoring file query
  lists-are query e = lists-from query 0 (λ k h. ap (part_at lists) (zero-add k) ∙ e k h)

-- ---- the route's scorers

module _ (scoring : Scoring) (file query : List ℕ) (a : Tables) (scorers : List TermScorer) (Q : QueryOpened scoring file query (length query) a scorers) where
  -- the route's scorer of a slot
  abbrev pub scorer_in : TermScorer → Scorer Float
  scorer_in s = record { ord = s.slot; list = list_at scoring file a.lists s.slot; cur = cursor_at a.held.places s.slot }

  one-scorer : (q l : ℕ) → q < length query → get_or query q 0 ≡ l → scorer_in (get_or scorers q no_scorer) ≡ record { ord = q; list = postings_of scoring file l; cur = fresh }
  one-scorer q l h e =
      let F = Q.open-slots q h in
      ap scorer_in (Q.scorers-are q h)
      ∙ ap (λ (x : Part). record { ord = q; list = list_of scoring file x; cur = cursor_at a.held.places q }) (F.part-is ∙ ap (part_of file) e)
      ∙ ap (λ (c : Cursor). record { ord = q; list = postings_of scoring file l; cur = c }) F.fresh.first

  scorers-from : (ls : List ℕ) (i : ℕ) → length query ≤ 16 → i + length ls ≡ length query → ((k : ℕ) → k < length ls → get_or query (i + k) 0 ≡ get_or ls k 0)
      → map scorer_in (take (length ls) (drop i scorers)) ≡ scorers_from i (queried scoring file ls)
  unfolding queried
  scorers-from [] i few n e = refl
  scorers-from (l ∷ ls) i few n e =
      let h : i < length query = omega (arith, n) in
      let m : i < length scorers = omega (arith, h, few, Q.long) in
      let here : get_or query i 0 ≡ l = ap (λ (z : ℕ). get_or query z 0) (sym (add-zero i)) ∙ e 0 (omega arith) in
      ap (λ (z : List TermScorer). map scorer_in (take (suc (length ls)) z)) (drop-cons scorers i no_scorer m)
      ∙ ap (λ (s : Scorer Float). s ∷ map scorer_in (take (length ls) (drop (suc i) scorers))) (one-scorer i l h here)
      ∙ ap (λ (z : List (Scorer Float)). record { ord = i; list = postings_of scoring file l; cur = fresh } ∷ z)
      (scorers-from ls (suc i) few (omega (arith, n)) (λ k j. ap (λ (z : ℕ). get_or query z 0) (next i k) ∙ e (suc k) (omega arith)))
    where
      next : (i k : ℕ) → suc i + k ≡ i + suc k
      next i k = omega arith

  -- the scorers opened are the route's first
  pub opened-scorers : length query ≤ 16 → map scorer_in (take (length query) scorers) ≡ scorers_from 0 (queried scoring file query)
  opened-scorers few = scorers-from query 0 few (zero-add (length query)) (λ k j. ap (λ (z : ℕ). get_or query z 0) (zero-add k))
