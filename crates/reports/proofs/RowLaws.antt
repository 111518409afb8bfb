-- Rows: none written, one more, and what is read back from them.
use mathlib.Core.Path.{◌≡◌, refl, sym, ap, ◌∙◌}
use mathlib.Core.List.{List, [], ◌∷◌, ◌++◌, map}
use Prim.Native.Nat.{ℕ, zero, suc, ◌<◌}
use native.Mathlib.Omega.{arith}
use lib.ListN.{length, get_or, drop, set, length-append, length-map, length-drop}
use lib.Seq.{drop-cons, set_at, append_snoc}
use lib.Ieee.{Float, nan}
use Rattle.route.specs.Report.{Report}
use Rattle.route.specs.Rule.{scores}
use Rattle.rule.specs.Inner.Follows.{Follows}
use Rattle.rule.specs.declared.Rule.{Rule}
use Rattle.rule.specs.declared.Threshold.{Threshold}
use Rattle.reports.specs.Rows.{rows_in, rows_of, docs, Written}
use Rattle.reports.specs.Inner.Rows.{Kept, Reported}
use Rattle.reports.specs.Inner.Runs.{callback_of}

pub none_written : (documents : List ℕ) (values : List Float) → Written [] documents values documents values
none_written documents values = record { fit = omega arith; documents-are = refl; scores-are = refl }

map_snoc : {A B : Type 0} (f : A → B) (xs : List A) (x : A) → map f (xs ++ (x ∷ [])) ≡ map f xs ++ (f x ∷ [])
map_snoc f [] x = refl
map_snoc f (y ∷ ys) x = ap (λ (l : List _). f y ∷ l) (map_snoc f ys x)

-- one cell more behind what is written
module _ {A B : Type 0} (f : A → B) (d : B) where
  next-cell : (rs : List A) (x : A) (before : List B) (n : ℕ) → n ≡ length rs → n < length before
      → set (map f rs ++ drop (length rs) before) n (f x) ≡ map f (rs ++ (x ∷ [])) ++ drop (length (rs ++ (x ∷ []))) before
  next-cell rs x before n e h =
      let m : length (rs ++ (x ∷ [])) ≡ suc (length rs) = length-append rs (x ∷ []) ∙ omega arith in
      ap (λ (l : List B). set (map f rs ++ l) n (f x)) (drop-cons before (length rs) d (omega arith))
      ∙ set_at (map f rs) (get_or before (length rs) d) (drop (suc (length rs)) before) (f x) n (length-map rs f ∙ sym e)
      ∙ sym (append_snoc (map f rs) (f x) (drop (suc (length rs)) before))
      ∙ sym (ap (λ (l : List B). l ++ drop (suc (length rs)) before) (map_snoc f rs x))
      ∙ ap (λ (k : ℕ). map f (rs ++ (x ∷ [])) ++ drop k before) (sym m)

module _ {rule : Rule} {script : List Float} {rs : List (Report Float)} {documents₀ documents : List ℕ} {scores₀ values : List Float} {t : Threshold} {best : List Float} where
  -- the threshold of the moment is the callback's
  pub threshold-is : Kept rule script rs documents₀ scores₀ t best documents values → t.now ≡ (callback_of rule script).threshold rs
  threshold-is K = K.follows.now-is

  -- and so many rows are written
  pub count-is : Kept rule script rs documents₀ scores₀ t best documents values → t.reports ≡ length rs
  count-is K = K.follows.reports-is ∙ length-map rs (λ r. r.score)

  -- a report's row is the callback's next
  pub one_more : {doc : ℕ} {score : Float} {r : Threshold} {new : List Float} {documents' : List ℕ} {values' : List Float}
      → Kept rule script rs documents₀ scores₀ t best documents values → t.reports < rows_of documents₀ scores₀
      → Reported rule script doc score t best documents values r new documents' values'
      → Kept rule script ((callback_of rule script).call doc score rs) documents₀ scores₀ r new documents' values'
  one_more {doc} {score} K h R =
      let x : Report Float = record { doc = doc; score = score } in
      let n = count-is K in
      record {
        written = record {
          fit = omega (arith, length-append rs (x ∷ []));
          documents-are = R.documents-are ∙ ap (λ (l : List ℕ). set l t.reports doc) K.written.documents-are ∙ next-cell (λ (y : Report Float). y.doc) 0 rs x documents₀ t.reports n (omega arith);
          scores-are = R.scores-are ∙ ap (λ (l : List Float). set l t.reports score) K.written.scores-are ∙ next-cell (λ (y : Report Float). y.score) nan rs x scores₀ t.reports n (omega arith);
        };
        follows = rw (map_snoc (λ (y : Report Float). y.score) rs x) (R.follows (scores rs) K.follows);
      }

-- before the first report
pub begun : {rule : Rule} {script : List Float} {t : Threshold} {best : List Float} (documents : List ℕ) (values : List Float) → Follows rule script [] t best
    → Kept rule script [] documents values t best documents values
begun documents values f = record { written = none_written documents values; follows = f }

-- the buffers are as long as they were
module _ {rs : List (Report Float)} {documents₀ documents : List ℕ} {scores₀ values : List Float} (K : Written rs documents₀ scores₀ documents values) where
  pub documents-long : length documents ≡ length documents₀
  documents-long = let f = K.fit in ap length K.documents-are ∙ simp (length-append, length-map, length-drop) (omega arith)

  pub scores-long : length values ≡ length scores₀
  scores-long = let f = K.fit in ap length K.scores-are ∙ simp (length-append, length-map, length-drop) (omega arith)

  -- and the first rows hold what was written
  pub rows_written : rows_in (length rs) documents values ≡ rs
  rows_written =
      ap (λ (l : List ℕ). rows_in (length rs) l values) K.documents-are
      ∙ ap (rows_in (length rs) (docs rs ++ drop (length rs) documents₀)) K.scores-are ∙ there rs _ _
    where
      there : (l : List (Report Float)) (ds : List ℕ) (ss : List Float) → rows_in (length l) (docs l ++ ds) (scores l ++ ss) ≡ l
      there [] ds ss = refl
      there (x ∷ xs) ds ss = ap (λ (l : List (Report Float)). x ∷ l) (there xs ds ss)

-- one row more
pub rows_more : (n : ℕ) (ds : List ℕ) (ss : List Float) → n < length ds → n < length ss
    → rows_in (suc n) ds ss ≡ rows_in n ds ss ++ (record { doc = get_or ds n 0; score = get_or ss n nan } ∷ [])
rows_more n [] ss h k = absurd (omega arith)
rows_more n (d ∷ ds) [] h k = absurd (omega arith)
rows_more zero (d ∷ ds) (s ∷ ss) h k = refl
rows_more (suc n) (d ∷ ds) (s ∷ ss) h k = ap (λ (l : List (Report Float)). record { doc = d; score = s } ∷ l) (rows_more n ds ss (omega arith) (omega arith))
