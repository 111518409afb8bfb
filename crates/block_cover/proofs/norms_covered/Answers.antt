-- `block_cover::norms_covered` meets its contract: either way compares the same scores.
use mathlib.Core.Path.{sym, ◌∙◌}
use native.Mathlib.Omega.{arith}
use borrow.Author.Rules.{rules}
use Rattle.block_norms.proofs.AtMost.{each-at-most}
use Rattle.block_cover.proofs.norms_covered.Goals as goal

pub covered_by-requires : goal.covered_by-requires
covered_by-requires c =
    let low = each-at-most 16777216 c.args.freqs.now (sym c.all_exact.ensures ∙ c.if-all_exact.true) in (
      search rules,
      record {
        may = λ i h. let e = low i (omega arith) in search (rules, e);
        gives = λ i h. let e = low i (omega arith) in search (rules, e);
      },
    )
