-- What a run over the query's lists leaves is the file's text.
use mathlib.Core.Path.{◌≡◌, refl, sym, ap, ◌∙◌, subst}
use mathlib.Core.Bool.{cond}
use mathlib.Core.List.{List, [], ◌∷◌, ◌++◌}
use Prim.Native.Nat.{ℕ, zero, suc, ◌+◌, ◌≤◌}
use native.Mathlib.Omega.{arith}
use lib.Dec.{T, eqb}
use lib.ListN.{length, get_or, take, drop, length-append, length-map}
use lib.Ieee.{Float, nan}
use borrow.Author.Tests.{eqb-true, eqb-false}
use Rattle.floats.specs.Step.{grid_f}
use Rattle.floats.specs.Threshold.{threshold_ok}
use Rattle.route.specs.Report.{Report}
use Rattle.route.specs.Rule as rules
use Rattle.route.specs.Rule.{scores}
use Rattle.route.proofs.Cases.{on_test}
use Rattle.bm25.specs.declared.Scoring.TheVariants.{Stepped}
use Rattle.rule.specs.declared.Rule.TheVariants.{Script}
use Rattle.notefile.specs.Header.{list_count}
use Rattle.notefile.specs.Refusal.{file_refusal}
use Rattle.notefile.specs.Inner.Order.{or_else}
use Rattle.reports.specs.Rows.{Rows, rows_of, docs, rows_in}
use Rattle.decoded.specs.Inner.Bytes.{Bytes}
use Rattle.request.specs.Request.{Request, asked, refusal_of}
use Rattle.request.specs.Lists.{plain_list}
use Rattle.request.specs.declared.Mode.TheVariants.{Union}
use Rattle.request.proofs.Requests.{query-or, first-refused}
use Rattle.outcome.specs.Outcomes.{number_of, count_of}
use Rattle.outcome.specs.declared.Outcome.{Outcome}
use Rattle.ranking.specs.Answers.{answer, Answered, RunIs}
use Rattle.ranking.specs.Demand.{result_of, Given}
use Rattle.ranking.proofs.Demand.{run-plain, given-of, rows_are}
use Rattle.print_text.specs.Text.{text, first_line, reports_word, refused_word, lines}
use Rattle.print_text.specs.Inner.Putting.{Put, Ready, text_of}
use Rattle.print.specs.Printed.{numbers_from, stepped, all_lists, printed}
use Rattle.print.proofs.Scores.{answered-on, each_on}

-- ---- the query

pub numbers-cut : (a n m : ℕ) → n ≤ m → take n (numbers_from a m) ≡ numbers_from a n
numbers-cut a zero m h = refl
numbers-cut a (suc n) zero h = absurd (omega arith)
numbers-cut a (suc n) (suc m) h = ap (λ (l : List ℕ). a ∷ l) (numbers-cut (suc a) n m (omega arith))

-- a file that is refused is refused whatever the query
or-first : (r n : ℕ) → (r ≡ 0 → ⊥) → r ≡ or_else r n
or-first zero n h = absurd (h refl)
or-first (suc r) n h = refl

file-first : (q : Request) → (file_refusal q.file ≡ 0 → ⊥) → file_refusal q.file ≡ refusal_of q
file-first q h = first-refused q (or-first (file_refusal q.file) _ h ∙ sym (query-or q.file q.query q.mode)) h

no_rows : (r n : ℕ) (a b : List (Report Float)) → (r ≡ 0 → ⊥) → answer r n a ≡ answer r n b
no_rows zero n a b h = absurd (h refl)
no_rows (suc r) n a b h = refl

abbrev answer_to : Request → rules.Outcome Float
answer_to q = answer (refusal_of q) 4096 (plain_list q)

-- so the answer depends on the query only where it names all lists
same_answer : (file : List ℕ) (n : ℕ) → (file_refusal file ≡ 0 → n ≡ list_count file) → answer_to (stepped file (numbers_from 0 n)) ≡ answer_to (all_lists file)
same_answer file n right =
    on_test (eqb (file_refusal file) 0) (λ e. ap (λ (k : ℕ). answer_to (stepped file (numbers_from 0 k))) (right (eqb-true (file_refusal file) 0 e)))
    (λ e.
    let h = eqb-false (file_refusal file) 0 e in
    let q = stepped file (numbers_from 0 n) in
    ap (λ (r : ℕ). answer r 4096 (plain_list q)) (sym (file-first q h)) ∙ no_rows (file_refusal file) 4096 (plain_list q) (plain_list (all_lists file)) h
    ∙ ap (λ (r : ℕ). answer r 4096 (plain_list (all_lists file))) (file-first (all_lists file) h))

-- ---- the rows

-- what a run leaves, to be put as text
pub record Drawn (file : List ℕ) (new : Rows) (number count : ℕ) : Type 0 where
  pub fits : count ≤ 4096
  pub ready : Ready count new.documents new.scores
  pub text-is : text_of number count new.documents new.scores ≡ printed file

module _ (file : List ℕ) (bytes : Bytes file) (n : ℕ) (few : n ≤ 16) (right : file_refusal file ≡ 0 → n ≡ list_count file) {zero-f : Float} (z : zero-f ≡ grid_f 0)
    {old new : Rows} {r : Outcome} (long : rows_of old.documents old.scores ≡ 4096)
    (R : RunIs (asked file (take n (numbers_from 0 16)) Union Stepped (Script zero-f) []) old r new) where
  abbrev q : Request
  q = stepped file (numbers_from 0 n)

  run : RunIs q old r new
  run =
      subst (λ (l : List ℕ). RunIs (stepped file l) old r new) (numbers-cut 0 n 16 few)
      (subst (λ (x : Float). RunIs (asked file (take n (numbers_from 0 16)) Union Stepped (Script x) []) old r new) z R)

  abbrev a : rules.Outcome Float
  a = answer_to q

  given : Given a old (result_of r new)
  given =
      given-of (refusal_of q) 4096 (plain_list q)
      (subst (λ (k : ℕ). Answered (answer (refusal_of q) k (plain_list q)) old r new) long (run-plain file (numbers_from 0 n) bytes Union (Script (grid_f 0)) [] run))

  fits : count_of r ≤ 4096
  fits = let e = given.count-is in let f = given.written.fit in omega arith

  ready : Ready (count_of r) new.documents new.scores
  ready =
      let e = given.count-is in
      let W = given.written in
      let rs = a.rows in
      record {
        in-documents = omega (arith, ap length W.documents-are, length-append (docs rs) (drop (length rs) old.documents), length-map rs (λ z. z.doc));
        in-scores = omega (arith, ap length W.scores-are, length-append (scores rs) (drop (length rs) old.scores), length-map rs (λ z. z.score));
        stepped = λ k h.
            subst (λ (l : List Float). T (threshold_ok (get_or l k nan))) (sym W.scores-are)
            (each_on rs (drop (length rs) old.scores) (answered-on file (numbers_from 0 n) bytes Union (Script (grid_f 0)) [] 4096) k (omega arith));
      }

  text-is : text_of (number_of r) (count_of r) new.documents new.scores ≡ printed file
  unfolding printed text
  text-is =
      ap (λ (k : ℕ). text_of k (count_of r) new.documents new.scores) given.number_is
      ∙ ap (λ (k : ℕ). cond (eqb a.code 0) (first_line reports_word k ++ lines (rows_in (count_of r) new.documents new.scores)) (first_line refused_word a.code))
      given.count-is
      ∙ ap (λ (rs : List (Report Float)). cond (eqb a.code 0) (first_line reports_word (length a.rows) ++ lines rs) (first_line refused_word a.code))
      (rows_are a old (result_of r new) given)
      ∙ ap text (same_answer file n right)

  pub drawn : {number count : ℕ} → number ≡ number_of r → count ≡ count_of r → Drawn file new number count
  drawn {number} {count} e f = record {
    fits = rw f fits;
    ready = rw f ready;
    text-is = ap (λ (k : ℕ). text_of k count new.documents new.scores) e ∙ ap (λ (k : ℕ). text_of (number_of r) k new.documents new.scores) f ∙ text-is;
  }

-- the whole buffer
pub whole : (file : List ℕ) {text old new : List ℕ} {most end : ℕ} → text ≡ printed file → Put text most 0 old end new
    → (new ≡ printed file ++ drop (length (printed file)) old) × (end ≡ length (printed file)) × (end ≤ most)
whole file {text} {old} {new} {most} {end} e P =
    let z : 0 + length text ≡ length text = omega arith in
    let i = P.end_is in
    let s = P.short in
    let k : end ≡ length text = omega arith in
    (P.new_is ∙ ap (λ (m : ℕ). text ++ drop m old) z ∙ ap (λ (t : List ℕ). t ++ drop (length t) old) e, k ∙ ap length e, omega arith)
