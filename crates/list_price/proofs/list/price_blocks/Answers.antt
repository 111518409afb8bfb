-- `list::price_blocks` meets its contract: each turn prices one block more, and a 7 ends the loop.
use mathlib.Core.Path.{◌≡◌, refl, sym, ap, ◌∙◌, subst}
use mathlib.Core.Bool.{true}
use Prim.Native.Nat.{ℕ, ◌+◌, ◌*◌, ◌/◌, ◌≤◌, ◌<◌}
use native.Mathlib.Nat.{le_trans}
use native.Mathlib.Omega.{arith}
use lib.Dec.{eqb}
use lib.ListN.{length, get_or}
use lib.Ieee.{nan, lt}
use Rattle.bm25.specs.Inner.Bound.{list_bound_in}
use Rattle.bm25.specs.Bound.{max_score}
use Rattle.bm25.proofs.WeightLaws.{max-score-is}
use Rattle.house.specs.Inner.Listed.{Listed, listed, norm_in}
use Rattle.list_price.specs.Inner.Loads.{Standing, Loaded}
use Rattle.std.specs.Prelude.{Err}
use Rattle.std.proofs.lemmas.Result.{err_from_is_err_and}
use Rattle.outcome.specs.Refusals.{refusal_number}
use Rattle.outcome.specs.declared.refusal.Refusal.TheVariants.{Documents}
use Rattle.outcome.proofs.ByNumber.{no-refusal, is-refusal, other_refusal}
use Rattle.list_price.proofs.Looks.{stop_is, look_is, copied, docs-narrow, freqs-narrow, exact-where}
use Rattle.list_price.proofs.Blocks.{first-is, codes, standing, behind-low, loaded-below, numbers, top-is, top-covers, block-bytes}
use Rattle.list_price.proofs.Pricing.{begun, all-priced, stopped, eighth, ninth, same-as}
use Rattle.list_price.proofs.list.price_blocks.Goals as goal
use Rattle.list_price.proofs.list.price_blocks.Goals.{After-copy-in-Ok, After-max_score-bound, In-loop-b, In-Ok, Start, in-Ok, in-Err-2}

-- the list, and where block b of it stands
abbrev listed_of : Start → Listed
listed_of a =
    listed a.args.reader a.args.norms.now a.args.w.weight a.args.w.average a.args.docs.now a.args.freqs.now
    a.args.from a.args.n

inside : {b n : ℕ} → b < n / 128 → 128 * b + 128 ≤ n
inside h = omega arith

stands : (t : In-loop-b) → let a = t.args in let b = t.loop-b.b in
    Standing a.docs.now a.freqs.now (a.from + 128 * b) 128 (eqb b 0)
stands t =
    let a = t.args in
    standing (listed a.reader a.norms.now a.w.weight a.w.average a.docs.now a.freqs.now a.from a.n)
    t.loop-b.b 128 t.requires.0 (inside t.loop-b-test.true) (omega arith) (first-is t.loop-b.b)

-- its norm codes are bytes, and the bound is its own
bytes_of : (c : After-max_score-bound) (d : ℕ) → let a = c.args in
    norm_in (listed a.reader a.norms.now a.w.weight a.w.average a.docs.now a.freqs.now a.from a.n) d < 256
bytes_of c = let a = c.args in codes a.reader a.norms.now c.code_byte.ensures (λ k. (c.type_inv.norms k).fits)

bound-is : (c : After-max_score-bound) → let w = c.args.w in c.max_score-bound.result ≡ max_score w.weight w.average
unfolding list_bound_in
bound-is c = let w = c.args.w in c.max_score-bound.ensures ∙ max-score-is w.weight w.average w c.requires.1

-- a block that is not refused is loaded
block-loaded : (c : After-copy-in-Ok) → let a = c.args in
    let b = c.loop-b.b in
    Loaded a.docs.now a.freqs.now (a.from + 128 * b) 128 (eqb b 0) a.limit 0 c.copy.new.out c.copy-in-Ok.new.out
block-loaded c =
    copied c.in-Ok.ensures c.doc_before.ensures c.copy.ensures c.copy-in-Ok.ensures

pub loop-b-init : goal.loop-b-init
loop-b-init c = (begun (listed_of (goal.at.loop-b-init c).Start) c.args.limit c.args.start c.table.ensures, refl, refl)

pub doc_before-requires : goal.doc_before-requires
doc_before-requires c = let S = stands c in (S.behind, omega (arith, S.docs-in))

pub look-requires : goal.look-requires
look-requires c =
    let b = c.loop-b.b in
    let S = stands (goal.at.look-requires c).In-loop-b in (
      S.docs-in,
      S.freqs-in,
      c.requires.0.few,
      subst (λ (d : ℕ). d ≤ 1048576) (sym c.doc_before.ensures)
          (le_trans (behind-low (listed_of (goal.at.look-requires c).Start) b (first-is b) c.loop-b.invariant.0.docs-right) c.requires.0.few),
    )

pub returns-in-Err : goal.returns-in-Err
returns-in-Err c =
    let a = c.args in
    let b = c.loop-b.b in
    let stop = c.in-Err.stop in
    let seven = is-refusal {A = ℕ} (λ _ _. true) Documents (Err stop) c.if-eq.ensures in
    stopped c.loop-b.invariant.0 c.loop-b-test.true (first-is b)
    (stop_is a.docs.now a.freqs.now (a.from + 128 * b) (eqb b 0) a.limit stop c.in-Err.ensures c.doc_before.ensures)
    seven {r = Err stop} seven refl

pub copy-requires : goal.copy-requires
copy-requires c = (omega arith, (stands (goal.at.copy-requires c).In-loop-b).docs-in, c.loop-b.invariant.1)

pub copy-requires-in-Ok : goal.copy-requires-in-Ok
copy-requires-in-Ok c = (omega arith, (stands (goal.at.copy-requires-in-Ok c).In-loop-b).freqs-in, c.loop-b.invariant.2)

pub score_block-requires : goal.score_block-requires
score_block-requires c =
    (loaded-below (block-loaded (goal.at.score_block-requires c).After-copy-in-Ok), exact-where c.in-Ok.ensures c.copy-in-Ok.ensures)

pub top_of-top-requires : goal.top_of-top-requires
top_of-top-requires c =
    numbers (listed_of (goal.at.top_of-top-requires c).Start) c.loop-b.b c.requires.0 c.args.w c.requires.1 (bytes_of (goal.at.top_of-top-requires c).After-max_score-bound) (block-loaded (goal.at.top_of-top-requires c).After-copy-in-Ok) (stands (goal.at.top_of-top-requires c).In-loop-b)
    c.score_block.ensures

pub overflow_cast-tops : goal.overflow_cast-tops
overflow_cast-tops c = omega (arith, c.top_of-top.ensures.1)

pub overflow_add-tops : goal.overflow_add-tops
overflow_add-tops c =
    omega (arith, c.loop-b-test.true, c.requires.2)

pub bounds-tops-start : goal.bounds-tops-start
bounds-tops-start c =
    omega (arith, c.loop-b-test.true, c.requires.2)

pub offset_bounds-scores-top : goal.offset_bounds-scores-top
offset_bounds-scores-top c = omega (arith, c.top_of-top.ensures.1)

pub bounds-scores-top : goal.bounds-scores-top
bounds-scores-top c = omega (arith, c.top_of-top.ensures.1)

-- where the bytes of a block are counted, its widths are narrow
narrow : (c : In-Ok) → let r = c.in-Ok.found in r.doc_bits + r.freq_bits ≤ 64
narrow c =
    let K = c.in-Ok.ensures in
    omega (arith, docs-narrow K, freqs-narrow K)

pub overflow_add-postings : goal.overflow_add-postings
overflow_add-postings c = omega (arith, narrow (goal.at.overflow_add-postings c).In-Ok)

pub overflow_cast-postings : goal.overflow_cast-postings
overflow_cast-postings c = omega (arith, narrow (goal.at.overflow_cast-postings c).In-Ok)

pub overflow_mul-postings : goal.overflow_mul-postings
overflow_mul-postings c = omega (arith, narrow (goal.at.overflow_mul-postings c).In-Ok)

pub overflow_add-postings-in-Ok : goal.overflow_add-postings-in-Ok
overflow_add-postings-in-Ok c =
    let P = c.loop-b.invariant.0 in
    let F = c.requires.0 in
    let N = narrow (goal.at.overflow_add-postings-in-Ok c).In-Ok in
    omega (arith, P.small, P.within, F.count-in, F.few, N)

pub loop-b-preserved : goal.loop-b-preserved
loop-b-preserved c =
    let y = listed_of (goal.at.loop-b-preserved c).Start in
    let b = c.loop-b.b in
    let f = first-is b in
    let ep = c.doc_before.ensures in
    elim c.match-look.branch [
      | in-Ok w ↦
          let K = w.in-Ok.ensures in
          let L = copied K ep w.copy.ensures w.copy-in-Ok.ensures in
          let S = stands (goal.at.loop-b-preserved c).In-loop-b in
          let m = (goal.at.loop-b-preserved c).After-max_score-bound in
          let tops = top-is y b c.requires.0 c.args.w c.requires.1 (bytes_of m) L S w.score_block.ensures w.top_of-top.ensures.0 in
          let covers = top-covers y b c.requires.0 c.args.w c.requires.1 (bytes_of m) L S w.score_block.ensures w.top_of-top.ensures.0 (bound-is m) in (
            same-as
                (ninth c.loop-b.invariant.0 c.loop-b-test.true f (look_is K ep) (λ e. omega (arith, e)) refl
                (lt c.max_score-bound.result (get_or w.score_block.new.scores w.top_of-top.result nan)) covers w.with_score-refusal.ensures tops
                c.requires.2 (block-bytes y b f ep K) (omega (arith, docs-narrow K, freqs-narrow K)))
                w.tops-is (ap refusal_number w.refusal-is) w.postings-is,
            ap length w.block_docs-is ∙ w.copy.ensures.long,
            ap length w.block_freqs-is ∙ w.copy-in-Ok.ensures.long,
          )
      | in-Err-2 w ↦ (
        same-as (eighth c.loop-b.invariant.0 c.loop-b-test.true f
            (stop_is y.docs y.freqs (y.from + 128 * b) (eqb b 0) c.args.limit w.in-Err.stop w.in-Err.ensures ep)
            (other_refusal {A = ℕ} (λ _ _. true) Documents (Err w.in-Err.stop) w.if-eq.ensures) (no-refusal w.in-Err.stop).0)
            w.tops-is (ap refusal_number w.refusal-is) w.postings-is,
        ap length w.block_docs-is ∙ c.loop-b.invariant.1,
        ap length w.block_freqs-is ∙ c.loop-b.invariant.2,
      )
    ]

pub returns-in_err-refusal : goal.returns-in_err-refusal
returns-in_err-refusal c =
    let p = err_from_is_err_and c.from_residual.result c.from_residual.ensures.1 in
    rw (p.1, p.2)
    (all-priced c.loop-b.invariant.0 c.loop-b-test.false {r = Err c.in_err-refusal.field-0.0} (ap refusal_number (sym c.in_err-refusal.was)) (λ z. absurd ((no-refusal c.in_err-refusal.field-0.0).0 z)) (omega arith))

pub returns : goal.returns
returns c = all-priced c.loop-b.invariant.0 c.loop-b-test.false (ap refusal_number (sym c.in_ok-refusal.was)) (λ z. refl) (omega arith)
