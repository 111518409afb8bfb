-- `part::skips_at` meets its contract: each turn steps over one list's parts.
use mathlib.Core.Path.{ap, ◌∙◌}
use native.Mathlib.Omega.{arith}
use Rattle.notefile.specs.declared.part.Part.{Part}
use Rattle.notefile.proofs.Headers.{after-norms, no-norms}
use Rattle.notefile.proofs.Entries.{next_place, part-short}
use Rattle.notefile.proofs.part.skips_at.Goals as goal

pub loop-l-init : goal.loop-l-init
loop-l-init c =
    let s = c.args.file.now in
    elim c.if-h-eq0.branch [ goal.then-h-eq0 w ↦ (omega arith, w.at-is ∙ after-norms s c.args.h c.requires.0.same w.if-h-eq0.true, omega (arith, c.requires)) | goal.else-h-eq0 w ↦ (omega arith, w.at-is ∙ no-norms s c.args.h c.requires.0.same w.if-h-eq0.false, omega (arith, c.requires)) ]

pub loop-l-preserved : goal.loop-l-preserved
loop-l-preserved c =
    let s = c.args.file.now in
    let e = ap (λ (z : Part). z.end) c.part_at-x.ensures in
    (omega arith, e ∙ next_place s c.loop-l.l, omega (arith, e, part-short s c.loop-l.l, c.loop-l.invariant.1, c.loop-l.invariant.2))
