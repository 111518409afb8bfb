-- `single_hunt::skip` meets its contract: its test is the definition's.
use native.Mathlib.Omega.{arith}
use Rattle.bm25.specs.declared.Scoring.TheVariants.{Unstepped}
use Rattle.single_hunt.proofs.Scorers.{last-low, skip-over, skip-past}
use Rattle.single_hunt.proofs.skip.Goals as goal

pub returns-then-last-eq-TERMINATED : goal.returns-then-last-eq-TERMINATED
returns-then-last-eq-TERMINATED c = skip-over c.requires.1 _ c.last_doc_in_block-last.ensures c.if-last-eq-TERMINATED.true

pub overflow_add-doc : goal.overflow_add-doc
overflow_add-doc c = omega (arith, c.last_doc_in_block-last.ensures, last-low c.requires.1 Unstepped)

pub returns : goal.returns
returns c =
    skip-past c.requires.1 _ c.last_doc_in_block-last.ensures c.if-last-eq-TERMINATED.false c.seek_block.ensures
