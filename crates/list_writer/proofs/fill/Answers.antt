-- `fill` meets its contract: documents and then frequencies are put into the block.
use mathlib.Core.Path.{◌≡◌}
use native.Mathlib.Omega.{arith}
use Rattle.house.specs.House.{doc_before}
use Rattle.list_writer.specs.Inner.Skips.{numbers_from}
use Rattle.list_writer.proofs.Values.{first-is, previous-is, previous-fits, docs-rise, freqs-rise, freqs-room, filled}
use Rattle.list_writer.proofs.fill.Goals as goal
use Rattle.list_writer.proofs.fill.Goals.{After-doc_before-previous}

-- the document before the postings
previous : (c : After-doc_before-previous) → let a = c.args in
    c.doc_before-previous.result ≡ doc_before (numbers_from a.docs.now a.from) (numbers_from a.freqs.now a.from) a.b
previous c =
    let a = c.args in
    previous-is a.docs.now a.from (numbers_from a.freqs.now a.from) a.b c.doc_before-previous.ensures

pub differences-requires : goal.differences-requires
differences-requires c =
    let a = c.args in
    let first = first-is a.b in (
      c.requires.0,
      omega (arith, c.requires.1.docs-in),
      c.sized.ensures.1.long-docs,
      previous-fits a.b a.n c.requires.1 first (previous (goal.at.differences-requires c).After-doc_before-previous) a.strict,
      docs-rise a.b a.n c.requires.1 first (previous (goal.at.differences-requires c).After-doc_before-previous) a.strict,
    )

pub lowered-requires : goal.lowered-requires
lowered-requires c =
    let a = c.args in (
      c.requires.0,
      omega (arith, c.requires.1.freqs-in),
      freqs-room c.sized.ensures.1 _,
      freqs-rise a.b a.n c.requires.1 (first-is a.b) (previous (goal.at.lowered-requires c).After-doc_before-previous) a.strict,
    )

pub returns : goal.returns
returns c =
    let a = c.args in
    filled a.b a.n c.requires.1 (first-is a.b) (previous (goal.at.returns c).After-doc_before-previous) a.strict c.sized.ensures.1
    c.differences.ensures c.lowered.ensures
