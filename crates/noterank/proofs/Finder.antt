-- The finder as C sees it: the numbers first, then its refusals, notes and reports.
use mathlib.Core.Path.{◌≡◌, refl, sym, ap, ◌∙◌, subst}
use mathlib.Core.Bool.{◌&&◌}
use mathlib.Core.List.{List, [], ◌∷◌, append_assoc}
use Prim.Native.Nat.{ℕ, zero, suc, ◌≤◌}
use native.Mathlib.Omega.{arith}
use lib.Dec.{leb}
use lib.ListN.{length, length-take}
use lib.Ieee.{Float}
use Rattle.route.specs.F32.{f32}
use Rattle.route.specs.Report.{Report}
use Rattle.bm25.specs.declared.Scoring.{Scoring}
use Rattle.rulecheck.specs.Right.{rule_right}
use Rattle.reports.specs.Rows.{Rows, rows_of}
use Rattle.reports.proofs.RowLaws.{none_written}
use Rattle.best_notes.specs.Best.{in_order}
use Rattle.notefile.specs.Header.{list_count}
use Rattle.notefile.specs.Refusal.{test, unless, file_tests, file_refusal, first_refusal}
use Rattle.notefile.specs.Inner.Order.{or_else}
use Rattle.notefile.proofs.Order.{first-append, file-numbered}
use Rattle.request.specs.Request.{query_right}
use Rattle.request.specs.Lists.{SkippingList}
use Rattle.request.specs.declared.Mode.{Mode}
use Rattle.arguments.specs.Numbers.{mode_at, scoring_at, rule_at}
use Rattle.outcome.specs.Outcomes.{count_of, number_of}
use Rattle.outcome.specs.declared.Outcome.{Outcome}
use Rattle.ranking.specs.Answers.{WrittenIn, answer}
use Rattle.ranking.specs.Demand.{Given, Result, result}
use Rattle.note_finder.specs.Found.{FindIs, Sought, find_refusal, notes_for, notes_of, pool_of, reports_of, sought}
use Rattle.note_finder.proofs.Refusals.{find-or}
use Rattle.noterank.specs.Interface.{Call, Found, find_refused, request_of, seeking, sought_of}
use Rattle.noterank.specs.Inner.Calls.{numbers_refusal}
use Rattle.noterank.proofs.Numbers.{tests-inside, tests-outside}

-- there are at most k notes
few-notes : (s : Sought) (list : List (Report Float)) (code : ℕ) → length (notes_for s code list) ≤ s.k
few-notes s list zero = omega (arith, length-take s.k (in_order f32 (pool_of s s.scoring list)))
few-notes s list (suc code) = omega arith

pub few-found : (s : Sought) {reports notes reports' notes' : Rows} {o : Outcome} → FindIs s reports notes o reports' notes' → count_of o ≤ s.k
few-found s {reports} {notes} F =
    let a = reports_of s F.list reports notes in
    omega (arith, F.answered.count-is, few-notes s F.list a.code)

module _ (file query : List ℕ) (mode scoring : ℕ) (start : Float) (k : ℕ) where
  abbrev c : Call
  c = seeking file query mode scoring start k

  abbrev numbers : ℕ
  numbers = numbers_refusal file query 0 mode scoring 1

  call-or : (rows : ℕ) → find_refused c rows
      ≡ or_else (file_refusal file) (unless (leb 0 1 && leb mode 2) 10 (unless (query_right (list_count file) (mode_at mode) query) 10 (unless (leb scoring 1 && leb 1 1) 11
      (unless (rule_right (rule_at 1 start k) (scoring_at scoring) []) 11 (unless (leb k rows) 14 0)))))
  unfolding find_refused file_refusal
  call-or rows =
      ap first_refusal (append_assoc (file_tests file) (test 10 (leb 0 1 && leb mode 2) ∷ test 10 (query_right (list_count file) (mode_at mode) query) ∷ test 11 (leb scoring 1 && leb 1 1) ∷ test 11 (rule_right (rule_at 1 start k) (scoring_at scoring) []) ∷ []) (test 14 (leb k rows) ∷ []))
      ∙ first-append 9 (file_tests file) (test 10 (leb 0 1 && leb mode 2) ∷ test 10 (query_right (list_count file) (mode_at mode) query) ∷ test 11 (leb scoring 1 && leb 1 1) ∷ test 11 (rule_right (rule_at 1 start k) (scoring_at scoring) []) ∷ test 14 (leb k rows) ∷ []) (file-numbered file)

  module _ (reports notes : Rows) where
    abbrev u : ℕ
    u = rows_of notes.documents notes.scores

    abbrev n : ℕ
    n = rows_of reports.documents reports.scores

    -- by the refusal
    by-refusal : (r : ℕ) → find_refused c u ≡ r → (list : List (Report Float)) → (r ≡ 0 → SkippingList (request_of c) list) → {reports' : Rows} {x : Result}
        → WrittenIn (answer r n list).rows reports reports' → Given (notes_of (sought_of c) list (answer r n list)) notes x → Found c reports notes reports' x
    by-refusal r e list route W G = record {
      list = list;
      run = answer r n list;
      run_is = ap (λ (z : ℕ). answer z n list) (sym e);
      list-is = λ z. route (sym e ∙ z);
      reported = W;
      given = G;
    }

    pub refused-found : {number : ℕ} → number ≡ numbers → (number ≡ 0 → ⊥) → Found c reports notes reports (result number 0 notes)
    refused-found {number} e ne = go number (call-or u ∙ tests-outside c (unless (leb k u) 14 0) (λ z. ne (e ∙ z)) ∙ sym e) ne
      where
        go : (r : ℕ) → find_refused c u ≡ r → (r ≡ 0 → ⊥) → Found c reports notes reports (result r 0 notes)
        go zero f h = absurd (h refl)
        go (suc r) f h =
            by-refusal (suc r) f [] (λ z. absurd (h z)) (none_written reports.documents reports.scores)
            (record { number_is = refl; count-is = refl; written = none_written notes.documents notes.scores })

    module _ {m : Mode} (em : m ≡ mode_at mode) {s : Scoring} (es : s ≡ scoring_at scoring) where
      sought-is : sought file query m s start k ≡ sought_of c
      sought-is =
          ap (λ (z : Mode). sought file query z s start k) em ∙ ap (λ (z : Scoring). sought file query (mode_at mode) z start k) es

      pub found-by : {refusal : ℕ} → refusal ≡ numbers → refusal ≡ 0 → {o : Outcome} {reports' notes' : Rows} → FindIs (sought file query m s start k) reports notes o reports' notes'
          → {number count : ℕ} → number ≡ number_of o → count ≡ count_of o → Found c reports notes reports' (result number count notes')
      found-by er z {o} {reports'} {notes'} F en ec =
          let D = subst (λ (t : Sought). FindIs t reports notes o reports' notes') sought-is F in
          let e : find_refused c u ≡ find_refusal (sought_of c) u = call-or u ∙ tests-inside c (unless (leb k u) 14 0) (sym er ∙ z) ∙ sym (find-or (sought_of c) u) in
          by-refusal (find_refusal (sought_of c) u) e D.list D.by-route D.reported
          (record {
            number_is = en ∙ D.answered.number_is;
            count-is = ec ∙ D.answered.count-is;
            written = D.answered.written;
          })
