-- `next_window` meets its contract: it tests what the route's turn tests, in its order.
use mathlib.Core.List.{List}
use native.Mathlib.Omega.{arith}
use Prim.Native.Nat.{ℕ}
use lib.Ieee.{Float}
use Rattle.term_scorer.specs.Inner.Slots.{held}
use Rattle.term_scorer.proofs.Slots.{standing-in}
use Rattle.intersection_order.proofs.Seats.{last_fits, slot_small}
use Rattle.intersection_window.proofs.Opening.{gathered, leader-kept, leader-seated, ready-there, window-low, window-open, window-over}
use Rattle.intersection_window.proofs.window.next_window.Goals as goal
use Rattle.intersection_window.proofs.window.next_window.Goals.{After-gather-gathered, After-new_block_max-leader_block_max}

-- the places and the bounds that the leader's bound left, and the secondaries'
abbrev places₂ : After-new_block_max-leader_block_max → List (List ℕ)
places₂ b = b.new_block_max-leader_block_max.new.places

abbrev bounds₂ : After-new_block_max-leader_block_max → List Float
bounds₂ b = b.new_block_max-leader_block_max.new.bounds

abbrev places₃ : After-gather-gathered → List (List ℕ)
places₃ g = g.gather-gathered.new.places

abbrev bounds₃ : After-gather-gathered → List Float
bounds₃ g = g.gather-gathered.new.bounds

pub seek_block-requires : goal.seek_block-requires
seek_block-requires c =
    let O = c.requires.0 in
    (slot_small O O.leader, standing-in (c.requires.1.seated.slot _ (O.below 0 O.leader)))

pub new_block_max-leader_block_max-requires : goal.new_block_max-leader_block_max-requires
new_block_max-leader_block_max-requires c =
    let O = c.requires.0 in
    let R = c.requires.1 in
    let hq = O.below 0 O.leader in
    (slot_small O O.leader, O.norms-are, (leader-seated _ O c.args.leg.threshold _ c.requires.2 R c.seek_block.ensures).slot _ hq, O.weighed _ hq, leader-kept _ O c.args.leg.threshold _ c.requires.2 R c.seek_block.ensures _ hq)

pub last_doc_in_block-leader_end-requires : goal.last_doc_in_block-leader_end-requires
last_doc_in_block-leader_end-requires c =
    let O = c.requires.0 in
    let R = c.requires.1 in
    let hq = O.below 0 O.leader in
    (slot_small O O.leader, last_fits (ready-there _ O c.args.leg.threshold _ c.requires.2 R c.seek_block.ensures {places₂ = places₂ c} {bounds₂ = bounds₂ c} c.new_block_max-leader_block_max.ensures).seated hq)

pub gather-gathered-requires : goal.gather-gathered-requires
gather-gathered-requires c =
    let O = c.requires.0 in
    let R = c.requires.1 in
    let hq = O.below 0 O.leader in
    (O, ready-there _ O c.args.leg.threshold _ c.requires.2 R c.seek_block.ensures {places₂ = places₂ (goal.at.gather-gathered-requires c).After-new_block_max-leader_block_max} {bounds₂ = bounds₂ (goal.at.gather-gathered-requires c).After-new_block_max-leader_block_max} c.new_block_max-leader_block_max.ensures, omega (arith, c.requires.2))

pub returns-in_default : goal.returns-in_default
returns-in_default c =
    let O = c.requires.0 in
    let R = c.requires.1 in
    let hq = O.below 0 O.leader in
    window-over _ O c.args.leg.threshold _ c.requires.2 R c.seek_block.ensures {places₂ = places₂ (goal.at.returns-in_default c).After-new_block_max-leader_block_max} {bounds₂ = bounds₂ (goal.at.returns-in_default c).After-new_block_max-leader_block_max} c.new_block_max-leader_block_max.ensures c.last_doc_in_block-leader_end.ensures {places₃ = places₃ (goal.at.returns-in_default c).After-gather-gathered} {bounds₃ = bounds₃ (goal.at.returns-in_default c).After-gather-gathered} c.in_default.ensures

pub load-requires : goal.load-requires
load-requires c =
    let O = c.requires.0 in
    let R = c.requires.1 in
    let hq = O.below 0 O.leader in
    (slot_small O O.leader, (gathered _ O c.args.leg.threshold _ c.requires.2 R c.seek_block.ensures {places₂ = places₂ (goal.at.load-requires c).After-new_block_max-leader_block_max} {bounds₂ = bounds₂ (goal.at.load-requires c).After-new_block_max-leader_block_max} c.new_block_max-leader_block_max.ensures c.last_doc_in_block-leader_end.ensures {places₃ = places₃ (goal.at.load-requires c).After-gather-gathered} {bounds₃ = bounds₃ (goal.at.load-requires c).After-gather-gathered} c.in-Some.ensures).ready.seated.slot _ hq)

pub returns-then-leader_block_max-found : goal.returns-then-leader_block_max-found
returns-then-leader_block_max-found c =
    let O = c.requires.0 in
    let R = c.requires.1 in
    let hq = O.below 0 O.leader in
    window-open _ O c.args.leg.threshold _ c.requires.2 R c.seek_block.ensures {places₂ = places₂ (goal.at.returns-then-leader_block_max-found c).After-new_block_max-leader_block_max} {bounds₂ = bounds₂ (goal.at.returns-then-leader_block_max-found c).After-new_block_max-leader_block_max} c.new_block_max-leader_block_max.ensures c.last_doc_in_block-leader_end.ensures {places₃ = places₃ (goal.at.returns-then-leader_block_max-found c).After-gather-gathered} {bounds₃ = bounds₃ (goal.at.returns-then-leader_block_max-found c).After-gather-gathered} c.in-Some.ensures c.if-leader_block_max-found.true {h' = held c.load.new.places c.load.new.blocks} c.load.ensures

pub returns : goal.returns
returns c =
    let O = c.requires.0 in
    let R = c.requires.1 in
    let hq = O.below 0 O.leader in
    window-low _ O c.args.leg.threshold _ c.requires.2 R c.seek_block.ensures {places₂ = places₂ (goal.at.returns c).After-new_block_max-leader_block_max} {bounds₂ = bounds₂ (goal.at.returns c).After-new_block_max-leader_block_max} c.new_block_max-leader_block_max.ensures c.last_doc_in_block-leader_end.ensures {places₃ = places₃ (goal.at.returns c).After-gather-gathered} {bounds₃ = bounds₃ (goal.at.returns c).After-gather-gathered} c.in-Some.ensures c.if-leader_block_max-found.false
