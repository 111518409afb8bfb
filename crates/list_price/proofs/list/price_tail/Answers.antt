-- `list::price_tail` meets its contract: the tail is a block of its own, and its bytes are VInts.
use mathlib.Core.Path.{◌≡◌, refl, sym, ap, ◌∙◌}
use Prim.Native.Nat.{◌+◌, ◌*◌, ◌/◌, ◌%◌}
use lib.Dec.{eqb}
use Rattle.bm25.specs.Inner.Bound.{list_bound_in}
use Rattle.bm25.proofs.WeightLaws.{max-score-is}
use Rattle.house.specs.Inner.Listed.{Listed, listed}
use Rattle.list_price.specs.Inner.Loads.{Standing}
use Rattle.std.specs.Prelude.{Err}
use Rattle.std.proofs.lemmas.Result.{err_from_is_err_and}
use Rattle.outcome.specs.Refusals.{refusal_number}
use Rattle.outcome.specs.declared.refusal.Refusal.TheVariants.{Bound}
use Rattle.outcome.proofs.ByNumber.{no-refusal}
use Rattle.list_price.proofs.Loads.{loaded-none, are-right}
use Rattle.list_price.proofs.Blocks.{first-is, codes, standing, covers-is, tail-bytes}
use Rattle.list_price.proofs.Pricing.{covers, tail-refused, tail-bound, tail-priced}
use native.Mathlib.Omega.{arith}
use Rattle.list_price.proofs.list.price_tail.Goals as goal
use Rattle.list_price.proofs.list.price_tail.Goals.{After-covered, Start}

-- the list
abbrev listed_of : Start → Listed
listed_of a =
    listed a.args.reader a.args.norms.now a.args.w.weight a.args.w.average a.args.docs.now a.args.freqs.now a.args.from a.args.n

stands : (a : Start) → Standing a.args.docs.now a.args.freqs.now (a.args.from + 128 * (a.args.n / 128)) (a.args.n % 128) (eqb (a.args.n / 128) 0)
stands a = standing (listed_of a) (a.args.n / 128) (a.args.n % 128) a.requires.0 (omega arith) (omega arith) (first-is (a.args.n / 128))

-- what the test of the scores says
covered-is : (c : After-covered) → let a = c.args in
    c.covered.result ≡ covers (listed a.reader a.norms.now a.w.weight a.w.average a.docs.now a.freqs.now a.from a.n) a.limit
unfolding list_bound_in
covered-is c =
    let a = c.args in
    let W = c.requires.1 in
    let bytes = codes a.reader a.norms.now c.code_byte.ensures (λ k. (c.type_inv.norms k).fits) in
    covers-is (listed a.reader a.norms.now a.w.weight a.w.average a.docs.now a.freqs.now a.from a.n) (a.n / 128) c.requires.0 a.w W bytes (loaded-none c.load_block.ensures (ap refusal_number c.in_ok-load_block.was))
    (c.max_score-bound.ensures ∙ max-score-is a.w.weight a.w.average a.w W) c.covered.ensures

pub load_block-requires : goal.load_block-requires
load_block-requires c = stands (goal.at.load_block-requires c).Start

pub returns-in_err-load_block : goal.returns-in_err-load_block
returns-in_err-load_block c =
    let p = err_from_is_err_and c.from_residual.result c.from_residual.ensures.1 in
    let r = c.in_err-load_block.field-0.0 in
    let e = ap refusal_number c.in_err-load_block.was in
    rw (p.1, p.2)
    (tail-refused (listed_of (goal.at.returns-in_err-load_block c).Start) c.args.limit (first-is (c.args.n / 128)) c.load_block.ensures.same (λ z. (no-refusal r).0 (sym e ∙ z)) {r = Err r} (sym e) refl)

pub returns-then-not-covered : goal.returns-then-not-covered
returns-then-not-covered c =
    tail-bound (listed_of (goal.at.returns-then-not-covered c).Start) c.args.limit (first-is (c.args.n / 128)) c.load_block.ensures.same (ap refusal_number c.in_ok-load_block.was)
    (sym (covered-is (goal.at.returns-then-not-covered c).After-covered) ∙ c.if-not-covered.true) {r = Err Bound} refl refl

pub tail_length-requires : goal.tail_length-requires
tail_length-requires c =
    are-right (loaded-none c.load_block.ensures (ap refusal_number c.in_ok-load_block.was)) (stands (goal.at.tail_length-requires c).Start) c.requires.0.few

pub returns : goal.returns
returns c =
    let f = first-is (c.args.n / 128) in
    tail-priced (listed_of (goal.at.returns c).Start) c.args.limit f c.load_block.ensures.same (ap refusal_number c.in_ok-load_block.was) (sym (covered-is (goal.at.returns c).After-covered) ∙ c.if-not-covered.false) refl
    (c.tail_length.ensures.0 ∙ tail-bytes (listed_of (goal.at.returns c).Start) (c.args.n / 128) (c.args.n % 128) f) c.tail_length.ensures.1
