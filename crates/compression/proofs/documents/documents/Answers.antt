-- `compression::documents::documents` meets its contract. Right documents fit 32 bits; and where the sums rise and end below the limit none of
-- them left 32 bits (`rising-right`), nor do those of a narrow block (`narrow-right`), so each test is one of the documents.
use Rattle.std.proofs.Common.{◌≡◌, ◌∙◌, ◌<◌, ◌⊎◌, true, length-take-le, get_or-take, get_or, inl, inr, arith}
use Rattle.compression.proofs.Differences.{first-low, narrow-right, rising-right, part-rises}
use Rattle.compression.proofs.documents.documents.Goals as goal
use Rattle.compression.proofs.documents.documents.Goals.{then-not-first+else-head-previous, else-not-first}

pub returns-then-head-previous : goal.returns-then-head-previous
returns-then-head-previous c =
    let s = c.sums.ensures in
    record { summed = s; same = first-low c.args.n c.args.limit s c.requires.0 c.ranges.limit.fits (omega arith) c.if-not-first.true c.if-head-previous.true }

pub returns-then-narrow : goal.returns-then-narrow
returns-then-narrow c =
    let s = c.sums.ensures in
    let above : (c.args.first ≡ true) ⊎ (c.args.previous < get_or c.sums.new.values 0 0) = elim c.if-not-first.branch [ then-not-first+else-head-previous w ↦ inr w.if-head-previous.false | else-not-first w ↦ inl w.if-not-first.false ] in
    record { summed = s; same = narrow-right c.args.n c.args.limit s c.requires.0 c.ranges.limit.fits (omega arith) above c.if-limit-last.false (c.requires.3 c.if-narrow.true) }

pub returns : goal.returns
returns c =
    let s = c.sums.ensures in
    let xs = c.sums.new.values in
    let above : (c.args.first ≡ true) ⊎ (c.args.previous < get_or c.sums.new.values 0 0) = elim c.if-not-first.branch [ then-not-first+else-head-previous w ↦ inr w.if-head-previous.false | else-not-first w ↦ inl w.if-not-first.false ] in
    record { summed = s; same = rising-right c.args.n c.args.limit s c.requires.0 c.ranges.limit.fits (omega arith) above c.if-limit-last.false c.requires.2 c.ranges.previous.fits (c.rising.ensures ∙ part-rises (λ k. get_or xs k 0) _ c.args.n (length-take-le c.args.n xs (omega (arith, s.long, c.requires.0))) (λ k l. get_or-take c.args.n xs k 0 l)) }
