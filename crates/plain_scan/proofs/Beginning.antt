-- A scan at rest: where its scorers stand, and how it begins over a query's lists.
use mathlib.Core.Path.{◌≡◌, refl, sym, ap, ◌∙◌, subst}
use mathlib.Core.Bool.{Bool}
use mathlib.Core.List.{List, [], ◌∷◌}
use Prim.Native.Nat.{ℕ, suc, ◌≤◌, ◌<◌}
use native.Mathlib.Omega.{arith}
use lib.ListN.{length, get_or}
use lib.Ieee.{Float}
use Rattle.route.specs.Cursor.{Cursor}
use Rattle.route.specs.F32.{f32}
use Rattle.route.specs.Plain.{Mode, hit, present}
use Rattle.route.specs.Postings.{Postings}
use Rattle.route.specs.Inner.Cursors.{Wf, Past}
use Rattle.route.proofs.Cursor.{fresh-is}
use Rattle.bm25.specs.declared.Scoring.{Scoring}
use Rattle.term_scorer.specs.declared.TermScorer.{TermScorer}
use Rattle.notefile.specs.Header.{documents}
use Rattle.decoded.specs.Lists.{queried}
use Rattle.slot_rows.proofs.Rows.{doc-in-array}
use Rattle.term_scorer.specs.Inner.Slots.{Held, list_at, lists_from}
use Rattle.query.specs.Inner.Openings.{Tables, QueryOpened}
use Rattle.query.proofs.Opening as opening
use Rattle.scan_heads.specs.Inner.Found.{found_of, hit_in}
use Rattle.scan_heads.specs.Inner.Heads.{HeadsOf}
use Rattle.plain_scan.specs.Inner.Heads.{RestsFrom, Standing}
use Rattle.plain_scan.specs.Inner.Turns.{hits_of, needs_all, PlainStands}
use Rattle.plain_scan.specs.declared.Plain.{Plain}
use Rattle.plain_scan.proofs.Slots.{ok}
use Rattle.plain_scan.proofs.Sums.{hit-is}

module _ (scoring : Scoring) (file : List ℕ) (lists : List (List ℕ)) where
  module _ (norms : List (List Float)) (h : Held) (p : Plain) (S : PlainStands scoring file lists norms h p) where
    -- the heads that are read name where the scorers stand
    pub with-heads : {heads : List ℕ} → HeadsOf h.places h.blocks p.len heads → Standing scoring file lists p.len p.doc h heads
    with-heads {heads} E = record {
      long = E.long;
      each = λ q l.
          let R = S.each q l in
          let e = E.are q l ∙ sym (doc-in-array file (get_or lists q []) (get_or h.places q []) R.slot.list R.slot.place) in
          record { slot = R.slot; wf = R.wf; past = R.past; head-is = e; low = omega (arith, e, R.low) };
    }

  pub at_rest : {n d : ℕ} {h : Held} {heads : List ℕ} → Standing scoring file lists n d h heads → (q : ℕ) → q < n → RestsFrom scoring file lists d h q
  at_rest S q l = let A = S.each q l in record { slot = A.slot; wf = A.wf; past = A.past; low = omega (arith, A.head-is, A.low) }

module _ (scoring : Scoring) (file query : List ℕ) (a : Tables) (scorers : List TermScorer) (Q : QueryOpened scoring file query (length query) a scorers) where
  -- on its first posting a scorer has passed nothing
  rests : (q : ℕ) → q < length query → RestsFrom scoring file a.lists 0 a.held q
  rests q l =
      let S = (Q.open-slots q l).fresh in
      let F = fresh-is 128 (documents file) (list_at scoring file a.lists q) (ok scoring file a.lists q S.slot) in
      record {
        slot = S.slot;
        wf = subst (Wf 128 (list_at scoring file a.lists q)) (sym S.first) F.0;
        past = subst (λ (c : Cursor). Past 128 (list_at scoring file a.lists q) c 0) (sym S.first) (F.1 0);
        low = omega arith;
      }

  -- lists as `open_lists` leaves them stand at document 0
  pub scan_begins : length query ≤ 16 → (all : Bool) → PlainStands scoring file a.lists a.norms a.held (record { len = length query; all = all; doc = 0 })
  scan_begins few all = record { few = few; cap = omega arith; weighed = λ q l. (Q.open-slots q l).fresh.weighed; each = rests }

  as_many : (numbers : List ℕ) → length (queried scoring file numbers) ≡ length numbers
  unfolding queried
  as_many [] = refl
  as_many (l ∷ ls) = ap suc (as_many ls)

  lists-are : lists_from scoring file a.lists 0 (length query) ≡ queried scoring file query
  lists-are = opening.lists-are scoring file a.lists query (λ q l. (Q.open-slots q l).part-is)

  -- a match is the mode's
  pub same-hits : (m : Mode) (d : ℕ) → hits_of scoring file a.lists (length query) (needs_all m) d ≡ hit f32 m (queried scoring file query) d
  same-hits m d =
      ap (λ (q : List (Postings Float)). hit_in (needs_all m) (length query) (found_of (present d q))) lists-are
      ∙ ap (λ (n : ℕ). hit_in (needs_all m) n (found_of (present d (queried scoring file query)))) (sym (as_many query))
      ∙ sym (hit-is m (queried scoring file query) d)
