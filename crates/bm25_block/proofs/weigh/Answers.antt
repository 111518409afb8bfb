-- `bm25_block::weigh` meets its contract: both ways weigh each frequency's nearest f32.
use mathlib.Core.Path.{sym, ◌∙◌}
use borrow.Author.Rules.{rules}
use Rattle.block_norms.proofs.AtMost.{each-at-most}
use Rattle.bm25_block.proofs.weigh.Goals as goal

pub weigh_by-requires : goal.weigh_by-requires
weigh_by-requires c =
    let low = each-at-most 16777216 c.args.term_freqs.now (sym c.all_exact.ensures ∙ c.if-all_exact.true) in record {
      may = λ i h. let e = low i h in search (rules, e);
      gives = λ i h. let e = low i h in search (rules, e);
    }
