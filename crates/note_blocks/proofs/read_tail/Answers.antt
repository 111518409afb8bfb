-- `read_tail` meets its contract: the tests are those of condition 6, in its order.
use Rattle.note_blocks.proofs.Tails.{past_end, docs-broken-in, freqs-broken-in, filled_in}
use Rattle.note_blocks.proofs.read_tail.Goals as goal

pub returns-then-x-at : goal.returns-then-x-at
returns-then-x-at c = past_end c.args.file.now c.args.x c.requires.1 c.if-x-at.true

pub returns-in_default : goal.returns-in_default
returns-in_default c = docs-broken-in c.args.file.now c.args.x c.requires.1 c.if-x-at.false c.requires.2 c.read_vints.ensures c.in_default.is

pub returns-in_default-read_vints : goal.returns-in_default-read_vints
returns-in_default-read_vints c = freqs-broken-in c.args.file.now c.args.x c.requires.1 c.if-x-at.false c.requires.2 c.read_vints.ensures c.in-Some.is c.read_vints-2.ensures c.in_default-read_vints.is

pub returns : goal.returns
returns c = filled_in c.args.file.now c.args.x c.requires.1 c.if-x-at.false c.requires.2 c.read_vints.ensures c.in-Some.is c.read_vints-2.ensures c.in-Some-read_vints.is
