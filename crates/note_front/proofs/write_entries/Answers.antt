-- `note_front::write_entries` meets its contract. The loop's invariant (`Entering`): l entries stand behind the header.
use lib.ListN.{get_or}
use lib.Ieee.{nan}
use native.Mathlib.Omega.{arith}
use Rattle.note_front.proofs.Entries.{bits_in, begun, number, next_fits, goes_on}
use Rattle.note_front.proofs.write_entries.Goals as goal

pub loop-l-init : goal.loop-l-init
loop-l-init c =
    let a = c.args in
    begun a.weights.now a.counts.now a.postings.now a.out.now

pub float_to_bits-weights : goal.float_to_bits-weights
float_to_bits-weights c =
    number c.args.weights.now c.args.counts.now c.args.postings.now c.requires c.loop-l-test.true

pub overflow_cast-weights : goal.overflow_cast-weights
overflow_cast-weights c =
    let n = c.loop-l.l in
    omega (arith, bits_in (get_or c.args.weights.now n nan) (c.type_inv.weights n))

pub write_entry-requires : goal.write_entry-requires
write_entry-requires c =
    next_fits c.args.weights.now c.args.counts.now c.args.postings.now c.requires c.loop-l-test.true
    (c.type_inv.weights c.loop-l.l) c.loop-l.invariant

pub loop-l-preserved : goal.loop-l-preserved
loop-l-preserved c =
    let a = c.args in
    goes_on a.weights.now a.counts.now a.postings.now c.loop-l.invariant c.loop-l-test.true c.write_entry.ensures
