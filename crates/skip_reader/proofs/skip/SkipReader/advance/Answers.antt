-- `SkipReader::advance` meets its contract: a full block's widths give the next one's place, and behind the tail nothing is left.
use native.Mathlib.Omega.{arith}
use native.Mathlib.Numerals.{add-one}
use Rattle.skip_reader.proofs.Readers.{packed-info, tail-info, narrow, ends-inside, next_place, next-previous, next-left, left-full, behind-place, behind-previous, behind-left}
use Rattle.skip_reader.proofs.skip.SkipReader.advance.Goals as goal

pub overflow_add-next : goal.overflow_add-next
overflow_add-next c =
    let s = c.args.file.now in let x = c.args.x in let r = c.args.self in
    omega (arith, narrow s x r c.requires.1 c.requires.0 (packed-info s x r c.requires.1 c.in-BitPacked.is))

pub overflow_add-next-in-BitPacked : goal.overflow_add-next-in-BitPacked
overflow_add-next-in-BitPacked c =
    let s = c.args.file.now in let x = c.args.x in let r = c.args.self in
    omega (arith, ends-inside s x r c.requires.1 c.requires.0 (packed-info s x r c.requires.1 c.in-BitPacked.is))

pub overflow_sub-self : goal.overflow_sub-self
overflow_sub-self c =
    let s = c.args.file.now in let x = c.args.x in let r = c.args.self in
    left-full s x r c.requires.1 c.requires.0 (packed-info s x r c.requires.1 c.in-BitPacked.is)

pub read_block_info-requires : goal.read_block_info-requires
read_block_info-requires c =
    let s = c.args.file.now in let x = c.args.x in let r = c.args.self in
    let P = packed-info s x r c.requires.1 c.in-BitPacked.is in
    rw add-one (c.requires.0, next_place s x r c.requires.1 c.requires.0 P, next-previous s x r c.requires.1 c.requires.0 P, next-left s x r c.requires.1 c.requires.0 P)

pub read_block_info-requires-in-VInt : goal.read_block_info-requires-in-VInt
read_block_info-requires-in-VInt c =
    let s = c.args.file.now in let x = c.args.x in let r = c.args.self in
    let h = (tail-info s x r c.requires.1 c.in-VInt.is).0 in
    rw add-one (c.requires.0, behind-place s x r c.requires.1 h, behind-previous s x r c.requires.1 h, behind-left s x r c.requires.1 h)
