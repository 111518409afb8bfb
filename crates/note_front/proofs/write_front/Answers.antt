-- `note_front::write_front` meets its contract: its three pieces, one behind another.
use borrow.Author.Rules.{rules}
use native.Mathlib.Omega.{arith}
use Rattle.note_front.proofs.Entries.{bits_in}
use Rattle.note_front.proofs.Fronts.{average-is-number, header-fits, front-put}
use Rattle.note_front.proofs.write_front.Goals as goal

pub float_to_bits-h : goal.float_to_bits-h
float_to_bits-h c =
    average-is-number c.args.h.average (search rules) c.requires.average-in

pub overflow_cast-h-4 : goal.overflow_cast-h-4
overflow_cast-h-4 c = omega (arith, bits_in c.args.h.average (search rules))

pub write_header-requires : goal.write_header-requires
write_header-requires c =
    let a = c.args in
    header-fits a.h a.norms.now a.weights.now a.counts.now a.postings.now c.requires (search rules)

pub returns : goal.returns
returns c =
    let a = c.args in
    front-put a.h a.norms.now a.weights.now a.counts.now a.postings.now
    c.write_header.ensures c.write_entries.ensures c.copy_bytes.ensures
