-- `lists_of` meets its contract: an accepted file has a header, and at most 16 lists.
use Rattle.std.proofs.Common.{arith, rules}
use Rattle.notefile.proofs.Accepted.{header-right}
use Rattle.notefile.proofs.Headers.{long-enough, few-lists}
use Rattle.request.proofs.Requests.{lists-are}
use Rattle.print_text.proofs.lists.lists_of.Goals as goal

pub returns-then-file-lt9 : goal.returns-then-file-lt9
returns-then-file-lt9 c = let f = c.args.file.now in (search rules, λ e. absurd (omega (arith, long-enough f (header-right f e))))

pub returns : goal.returns
returns c =
    let f = c.args.file.now in
    (omega arith, λ e. omega (arith, lists-are _ c.read_header.ensures, few-lists f (header-right f e)))
