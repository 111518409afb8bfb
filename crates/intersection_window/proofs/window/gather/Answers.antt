-- `gather` meets its contract: each turn takes one skip reader on, and adds its block's end and bound to those before.
use lib.Ieee.{of_bits}
use Rattle.term_scorer.proofs.Slots.{standing-in}
use Rattle.intersection_order.proofs.Seats.{last_fits, slot_small}
use Rattle.intersection_window.proofs.Gathering.{begun, ended, goes_on, kept_there, runs-out, seated-there}
use Rattle.intersection_window.proofs.window.gather.Goals as goal

pub loop-i-init : goal.loop-i-init
unfolding of_bits
loop-i-init c = begun _ _ _ _ c.requires.0 c.requires.1

pub shallow_seek-requires : goal.shallow_seek-requires
shallow_seek-requires c =
    let O = c.requires.0 in
    let G = c.loop-i.invariant in
    let hi = c.loop-i-test.true in
    let hq = O.below _ hi in
    (slot_small O hi, standing-in (G.ready.seated.slot _ hq))

pub has_remaining_docs-requires : goal.has_remaining_docs-requires
has_remaining_docs-requires c =
    let O = c.requires.0 in
    let G = c.loop-i.invariant in
    let hi = c.loop-i-test.true in
    let hq = O.below _ hi in
    (slot_small O hi, standing-in ((seated-there _ _ _ _ O G hi c.shallow_seek.ensures).slot _ hq))

pub returns-then-not-has_remaining_docs : goal.returns-then-not-has_remaining_docs
returns-then-not-has_remaining_docs c =
    let O = c.requires.0 in
    let G = c.loop-i.invariant in
    let hi = c.loop-i-test.true in
    let hq = O.below _ hi in
    runs-out _ _ _ _ O G hi c.shallow_seek.ensures c.has_remaining_docs.ensures c.if-not-has_remaining_docs.true

pub last_doc_in_block-requires : goal.last_doc_in_block-requires
last_doc_in_block-requires c =
    let O = c.requires.0 in
    let G = c.loop-i.invariant in
    let hi = c.loop-i-test.true in
    let hq = O.below _ hi in
    (slot_small O hi, last_fits (seated-there _ _ _ _ O G hi c.shallow_seek.ensures) hq)

pub block_max-bound-requires : goal.block_max-bound-requires
block_max-bound-requires c =
    let O = c.requires.0 in
    let G = c.loop-i.invariant in
    let hi = c.loop-i-test.true in
    let hq = O.below _ hi in
    (slot_small O hi, O.norms-are, (seated-there _ _ _ _ O G hi c.shallow_seek.ensures).slot _ hq, O.weighed _ hq, kept_there _ _ _ _ O G hi c.shallow_seek.ensures _ hq)

pub loop-i-preserved : goal.loop-i-preserved
loop-i-preserved c =
    let O = c.requires.0 in
    let G = c.loop-i.invariant in
    let hi = c.loop-i-test.true in
    let hq = O.below _ hi in
    goes_on _ _ _ _ O G hi c.shallow_seek.ensures c.has_remaining_docs.ensures c.if-not-has_remaining_docs.false c.last_doc_in_block.ensures c.min-window_end.ensures {places₂ = c.block_max-bound.new.places} {bounds₂ = c.block_max-bound.new.bounds} c.block_max-bound.ensures

pub returns : goal.returns
returns c = ended _ _ _ _ c.requires.0 c.loop-i.invariant c.loop-i-test.false
