-- What the finder makes of a run's outcome.
use mathlib.Core.Path.{ap, refl, subst, sym, ◌∙◌, ◌≡◌}
use mathlib.Core.List.{List, []}
use Prim.Native.Nat.{ℕ, suc, zero, ◌<◌, ◌≤◌}
use native.Mathlib.Omega.{arith}
use lib.ListN.{length}
use lib.Ieee.{Float}
use Rattle.route.specs.F32.{f32}
use Rattle.route.specs.Report.{Report}
use Rattle.rule.specs.declared.Rule.TheVariants.{BestK}
use Rattle.rulecheck.proofs.RightRules.{keeps}
use Rattle.reports.specs.Rows.{Rows, rows_in, rows_of}
use Rattle.reports.proofs.RowLaws.{documents-long, none_written, scores-long}
use Rattle.best_notes.specs.Best.{best_of}
use Rattle.best_notes.specs.Inner.Kept.{Clear, Gathered}
use Rattle.decoded.specs.Inner.Bytes.{Bytes}
use Rattle.request.specs.Request.{refusal_of}
use Rattle.request.specs.Lists.{SkippingList}
use Rattle.request.proofs.Requests.{let_through}
use Rattle.outcome.specs.Refusals as refusals
use Rattle.outcome.specs.Outcomes.{count_of, number_of}
use Rattle.outcome.specs.declared.refusal.Refusal.{Refusal}
use Rattle.outcome.specs.declared.refusal.Refusal.TheVariants.{Notes}
use Rattle.outcome.specs.declared.Outcome.{Outcome}
use Rattle.outcome.specs.declared.Outcome.TheVariants.{Done, Full, Refused}
use Rattle.outcome.proofs.ByNumber.{no-refusal}
use Rattle.ranking.specs.Answers.{Answered, RunIs, WrittenIn, answer}
use Rattle.ranking.proofs.Demand.{given-of}
use Rattle.note_finder.specs.Found.{FindIs, Sought, find_refusal, notes_for, notes_of, run_of}
use Rattle.note_finder.proofs.Notes.{let-in, run-clear, run-notes}
use Rattle.note_finder.proofs.Refusals.{enough, run-first, too_few}

module _ (s : Sought) (reports notes : Rows) where
  abbrev n : ℕ
  n = rows_of reports.documents reports.scores

  abbrev u : ℕ
  u = rows_of notes.documents notes.scores

  -- by the refusal
  by-refusal : (r : ℕ) → find_refusal s u ≡ r → (list : List (Report Float)) → (r ≡ 0 → SkippingList (run_of s) list) → {o : Outcome} {reports' notes' : Rows}
      → WrittenIn (answer r n list).rows reports reports' → Answered (notes_of s list (answer r n list)) notes o notes' → FindIs s reports notes o reports' notes'
  by-refusal r e list route {o} {reports'} {notes'} W A = record {
    list = list;
    by-route = λ z. route (sym e ∙ z);
    reported = subst (λ (z : ℕ). WrittenIn (answer z n list).rows reports reports') (sym e) W;
    answered = subst (λ (z : ℕ). Answered (notes_of s list (answer z n list)) notes o notes') (sym e) A;
  }

  -- refused before the run: nothing is written
  untouched : (r : ℕ) → find_refusal s u ≡ r → (refusal : Refusal) → refusals.number_of refusal ≡ r → FindIs s reports notes (Refused refusal) reports notes
  untouched zero e refusal f = absurd ((no-refusal refusal).0 f)
  untouched (suc r) e refusal f =
      by-refusal (suc r) e [] (λ z. absurd (omega (arith, z))) (none_written reports.documents reports.scores)
      (record { number_is = f; count-is = refl; written = none_written notes.documents notes.scores })

  pub refused-first : (refusal : Refusal) → refusals.number_of refusal ≡ refusal_of (run_of s) → FindIs s reports notes (Refused refusal) reports notes
  refused-first refusal e =
      untouched (refusals.number_of refusal) (sym (run-first s u e (no-refusal refusal).0)) refusal refl

  pub refused-14 : 0 ≡ refusal_of (run_of s) → u < s.k → FindIs s reports notes (Refused Notes) reports notes
  refused-14 e h = untouched 14 (sym (too_few s u e refl h)) Notes refl

  -- the run was made
  module _ (room : s.k ≤ u) {o : Outcome} {reports' : Rows} (R : RunIs (run_of s) reports o reports') where
    abbrev r : ℕ
    r = refusal_of (run_of s)

    abbrev code : ℕ
    code = (answer r n R.list).code

    number_is : number_of o ≡ code
    number_is = (given-of r n R.list R.answered).number_is

    -- done: its rows can be read, some notes are kept, and the scores are of clear sign
    pub readable : Bytes s.file → {count : ℕ} → o ≡ Done count
        → (count ≤ rows_of reports'.documents reports'.scores) × (0 < s.k) × Clear (rows_in count reports'.documents reports'.scores)
    readable bytes e =
        let W = R.answered.written in
        let c = (given-of r n R.list R.answered).count-is in (
          omega (arith, ap count_of e, c, W.fit, documents-long W, scores-long W),
          (keeps (BestK s.start s.k) s.scoring [] (let_through (run_of s) (let-in r R.list R.answered (ap number_of e))).rule-right).0,
          subst (λ (k : ℕ). Clear (rows_in k reports'.documents reports'.scores)) (ap count_of e) (run-clear s bytes R),
        )

    by-run : {p : Outcome} {notes' : Rows} → Answered (record { code = code; rows = notes_for s code R.list }) notes p notes' → FindIs s reports notes p reports' notes'
    by-run A = by-refusal r (enough s u room) R.list R.by-route R.answered.written A

    -- of another number than 0 there is no note
    no_note : (p : Outcome) (c : ℕ) → code ≡ c → (c ≡ 0 → ⊥) → number_of p ≡ c → count_of p ≡ 0 → FindIs s reports notes p reports' notes
    no_note p zero e ne f k = absurd (ne refl)
    no_note p (suc c) e ne f k =
        by-run (subst (λ (z : ℕ). Answered (record { code = z; rows = notes_for s z R.list }) notes p notes) (sym e)
        (record { number_is = f; count-is = k; written = none_written notes.documents notes.scores }))

    pub full : {count : ℕ} → o ≡ Full count → FindIs s reports notes (Full 0) reports' notes
    full e = no_note (Full 0) 12 (sym number_is ∙ ap number_of e) (λ (x : 12 ≡ 0). omega (arith, x)) refl refl

    pub not-run : {refusal : Refusal} → o ≡ Refused refusal → FindIs s reports notes o reports' notes
    not-run {refusal} e =
        no_note o (refusals.number_of refusal) (sym number_is ∙ ap number_of e) (no-refusal refusal).0 (ap number_of e) (ap count_of e)

    -- done: the notes are gathered from the rows
    pub done : Bytes s.file → {count m : ℕ} {notes' : Rows} → o ≡ Done count
        → Gathered reports'.documents reports'.scores count s.k notes.documents notes.scores m notes'.documents notes'.scores
        → FindIs s reports notes (Done m) reports' notes'
    done bytes {count} {m} {notes'} e G =
        let z : code ≡ 0 = sym number_is ∙ ap number_of e in
        let k : best_of f32 s.k (rows_in count reports'.documents reports'.scores) ≡ notes_for s 0 R.list =
        ap (λ (c : ℕ). best_of f32 s.k (rows_in c reports'.documents reports'.scores)) (sym (ap count_of e)) ∙ run-notes s bytes R (ap number_of e) in
        by-run (subst (λ (c : ℕ). Answered (record { code = c; rows = notes_for s c R.list }) notes (Done m) notes') (sym z)
        (record {
          number_is = refl;
          count-is = G.count-is ∙ ap length k;
          written = subst (λ (l : List (Report Float)). WrittenIn l notes notes') k G.written;
        }))
