-- A union's run in the tables: its place is the scorers', at any stage.
use mathlib.Core.List.{List, map}
use mathlib.Core.Path.{ap, subst, sym, ◌∙◌, ◌≡◌}
use Prim.Native.Nat.{ℕ, ◌≤◌}
use lib.ListN.{take}
use Rattle.route.specs.F32.{f32}
use Rattle.route.specs.Inner.Unions.{UnionKept}
use Rattle.bm25.specs.declared.Scoring.{Scoring}
use Rattle.ordering.specs.Inner.Scorers.{slot_of}
use Rattle.term_scorer.specs.declared.TermScorer.{TermScorer}
use Rattle.notefile.specs.Header.{documents}
use Rattle.term_scorer.specs.Inner.Slots.{Held, Sixteen}
use Rattle.union_moves.specs.Inner.Seats.{Seated, Terms, scorer_at, slot_scorer, term_at, terms_of}
use Rattle.union_moves.proofs.Slots.{map-map, same-terms}
use Rattle.union_turn.specs.Inner.Turns.{place_in, stage_of}
use Rattle.union_turn.specs.Inner.Runs.{Stands, place_of}
use Rattle.union_turn.specs.declared.Stage.{Stage}
use Rattle.union_turn.specs.declared.Union.{Union}

module _ (file : List ℕ) (lists : List (List ℕ)) where
  -- the place of the scorers of slots
  pub place_is : (s : Scoring) (places : List (List ℕ)) (u : Union) (order : List ℕ)
      → place_in file lists s places u.stage (terms_of file lists s places (take u.len order)) ≡ place_of file lists s u order places
  place_is s places u order =
      ap (λ z. record { stage = stage_of u.stage; scorers = z }) (map-map (scorer_at file lists s places) (term_at file lists s places) (take u.len order))

-- a run at a stage
module _ {file : List ℕ} {lists : List (List ℕ)} {T : Terms} {u : Union} {order : List ℕ} {h : Held} (S : Stands file lists T u order h) {stage : Stage} (e : u.stage ≡ stage) where
  pub stands_at : Stands file lists T (record { len = u.len; stage = stage }) order h
  stands_at =
      record { few = S.few; room = S.room; seated = S.seated; kept = subst (λ (z : Stage). UnionKept 128 (documents file) f32 (place_of file lists T.scoring (record { len = u.len; stage = z }) order h.places)) e S.kept }

  pub kept_at : UnionKept 128 (documents file) f32 (place_in file lists T.scoring h.places stage (terms_of file lists T.scoring h.places (take u.len order)))
  kept_at = rw (place_is file lists T.scoring h.places (record { len = u.len; stage = stage }) order) stands_at.kept

-- seated scorers, whose slots are written back in their order
module _ {file : List ℕ} {lists : List (List ℕ)} {T : Terms} {h : Held} {l : List TermScorer} (S : Seated file lists T h l) (stage : Stage) (n : ℕ) (order : List ℕ) (e : take n order ≡ map slot_of l) where
  pub place_kept : place_in file lists T.scoring h.places stage l ≡ place_of file lists T.scoring (record { len = n; stage = stage }) order h.places
  place_kept =
      ap (λ z. record { stage = stage_of stage; scorers = z })
      (sym (map-map (slot_scorer file lists T.scoring h.places) slot_of l) ∙ ap (map (slot_scorer file lists T.scoring h.places)) (sym e))

  pub stands-kept : n ≤ 16 → Sixteen order → UnionKept 128 (documents file) f32 (place_in file lists T.scoring h.places stage l)
      → Stands file lists T (record { len = n; stage = stage }) order h
  stands-kept few room k = record { few = few; room = room; seated = rw (e, same-terms file lists T h l S.seats) S; kept = rw place_kept at k }
