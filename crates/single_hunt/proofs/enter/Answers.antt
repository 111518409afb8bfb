-- `single_hunt::enter` meets its contract: the slot seeks, and the scores of the block that it came to are made.
use mathlib.Core.List.{List}
use Prim.Native.Nat.{ℕ}
use lib.Ieee.{Float}
use Rattle.route.specs.Cursor.{seek_in}
use Rattle.term_scorer.specs.Inner.Slots.{cursor_at, held, list_at, Held, MovedSlot}
use Rattle.single_hunt.proofs.Hunting.{doc-there, entered, entered-over, read-then}
use Rattle.single_hunt.proofs.enter.Goals as goal
use Rattle.single_hunt.proofs.enter.Goals.{After-doc-doc, After-keep_scores, After-seek}

-- the slots that the seek left
abbrev sought : After-seek → Held
sought s = held s.seek.new.places s.seek.new.blocks

-- the places and the floats that the scores left
abbrev places' : After-keep_scores → List (List ℕ)
places' c = c.keep_scores.new.places

abbrev floats' : After-keep_scores → List (List Float)
floats' c = c.keep_scores.new.floats

pub seek-requires : goal.seek-requires
seek-requires c =
    (c.requires.0.kept.slot-in, c.requires.0.kept.slot, doc-there c.args.single c.requires.0 c.doc-here.ensures, c.requires.1)

-- the scorer has moved to the document that is read
landed : (c : After-doc-doc) → (let x = c.args.single in
    MovedSlot c.args.file.now c.args.lists.now x.slot (λ k. seek_in (list_at k c.args.file.now c.args.lists.now x.slot) 128 x.doc (cursor_at c.args.places.now x.slot))
    (held c.args.places.now c.args.blocks.now) (held c.seek.new.places c.seek.new.blocks) c.doc-doc.result)
landed c =
    read-then c.args.single c.requires.0 {h' = held c.seek.new.places c.seek.new.blocks} c.seek.ensures.moved c.doc-doc.ensures

pub returns-then-doc-eq-TERMINATED : goal.returns-then-doc-eq-TERMINATED
returns-then-doc-eq-TERMINATED c =
    entered-over c.args.single c.requires.0 {h' = sought (goal.at.returns-then-doc-eq-TERMINATED c).After-seek} (landed (goal.at.returns-then-doc-eq-TERMINATED c).After-doc-doc) c.if-doc-eq-TERMINATED.true

pub returns : goal.returns
returns c =
    entered c.args.single c.requires.0 {h' = sought (goal.at.returns c).After-seek} (landed (goal.at.returns c).After-doc-doc) c.if-doc-eq-TERMINATED.false {places'' = places' c} {floats' = floats' c} c.keep_scores.ensures
