-- `SegmentPostings::doc` meets its contract: the decoded block has the route's document at the place.
use Rattle.postings.proofs.Moves.{doc-here}
use Rattle.postings.proofs.cursor.SegmentPostings.doc.Goals as goal

pub returns : goal.returns
returns c = doc-here c.args.self c.args.block.now
