-- `seek` meets its contract: the present posting, the next, else one in the block that may hold the target.
use Prim.Native.Nat.{◌+◌, ◌<◌}
use lib.ListN.{get_or}
use Rattle.slot_moves.proofs.Moves.{behind-last, behind-next, next-inside, told_here, told-next}
use Rattle.slot_moves.proofs.seek.Goals as goal
use Rattle.slot_moves.proofs.seek.Goals.{Else-cur-eq127}

pub returns-then-target-doc : goal.returns-then-target-doc
returns-then-target-doc c =
    told_here c.args.file.now c.args.list.now c.args.place.now c.requires.1 c.requires.2 c.args.target c.requires.3 c.if-target-doc.true c.answer_at.ensures

pub seek_on-hit-requires : goal.seek_on-hit-requires
seek_on-hit-requires c =
    (c.requires.0, c.requires.1, c.requires.2, behind-last c.args.file.now c.args.list.now c.args.place.now c.requires.1 c.requires.2 c.args.target c.requires.3 c.if-target-doc.false c.if-cur-eq127.true, c.requires.4)

-- the next place is one of the block's
inside : (e : Else-cur-eq127) → get_or e.args.place.now 6 0 + 1 < 128
inside e =
    next-inside e.args.file.now e.args.list.now e.args.place.now e.requires.1 e.requires.2 e.args.target e.requires.3 e.if-target-doc.false e.if-cur-eq127.false

pub returns-then-target-next_doc : goal.returns-then-target-next_doc
returns-then-target-next_doc c =
    told-next c.args.file.now c.args.list.now c.args.place.now c.requires.1 c.requires.2 c.args.target c.requires.3 c.if-target-doc.false c.if-cur-eq127.false c.if-target-next_doc.true c.answer_at-then-target-next_doc.ensures

pub seek_on-hit-requires-2 : goal.seek_on-hit-requires-2
seek_on-hit-requires-2 c =
    (c.requires.0, c.requires.1, c.requires.2, behind-next c.args.file.now c.args.list.now c.args.place.now c.requires.1 c.requires.2 c.args.target c.requires.3 c.if-target-doc.false c.if-cur-eq127.false c.if-target-next_doc.false, c.requires.4)
