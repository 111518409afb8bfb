-- `bm25::cached_tf_component` meets its contract: the code's operations are the definition's, and its literals are K1, B and 1.
use lib.Ieee.{of_bits, round}
use Rattle.bm25.specs.Score.{norm_of}
use Rattle.bm25.proofs.cached_tf_component.Goals as goal

pub returns : goal.returns
unfolding norm_of of_bits round
returns c = λ n e. rw e
