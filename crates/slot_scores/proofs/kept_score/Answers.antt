-- `kept_score` meets its contract: the block's scores are made, before or now, and the one at the scorer's place is read.
use mathlib.Core.List.{[], List}
use Prim.Native.Nat.{◌<◌, ℕ}
use lib.ListN.{get_or}
use lib.Ieee.{Float}
use Rattle.slot_rows.proofs.Rows.{cur-inside}
use Rattle.slot_scores.proofs.Scores.{score-made, scores-known}
use Rattle.slot_scores.proofs.kept_score.Goals as goal
use Rattle.slot_scores.proofs.kept_score.Goals.{After-make_scores, Start}

-- the places and the floats that the making left
abbrev places' : After-make_scores → List (List ℕ)
places' m = m.make_scores.new.places

abbrev floats' : After-make_scores → List (List Float)
floats' m = m.make_scores.new.floats

cur-in : (a : Start) → get_or (get_or a.args.places.now a.args.q []) 6 0 < 128
cur-in a = cur-inside a.args.file.now (get_or a.args.lists.now a.args.q []) (get_or a.args.places.now a.args.q []) a.requires.2.list a.requires.2.place

pub returns-then-places-q-eq-MADE : goal.returns-then-places-q-eq-MADE
returns-then-places-q-eq-MADE c =
    let M = scores-known c.args.similarity.scoring c.args.file.now c.args.lists.now c.args.q c.args.places.now c.args.floats.now c.requires.4 c.if-places-q-eq-MADE.true c.requires.5 in
    (score-made c.requires.0 c.requires.2.sixteen.0 c.requires.2.place c.requires.6 M c.score_in.ensures, M)

pub returns : goal.returns
returns c =
    let M = c.make_scores.ensures in
    (score-made {lists = c.args.lists.now} {places = c.args.places.now} {places' = places' (goal.at.returns c).After-make_scores} {floats = c.args.floats.now} {floats' = floats' (goal.at.returns c).After-make_scores} c.requires.0 c.requires.2.sixteen.0 c.requires.2.place c.requires.6 M c.score_in-2.ensures, M)
