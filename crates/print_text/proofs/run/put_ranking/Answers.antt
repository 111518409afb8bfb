-- `put_ranking` meets its contract: by whether the number is 0.
use Rattle.std.proofs.Common.{lit≤, rules}
use Rattle.reports.specs.Rows.{rows_in}
use Rattle.print_text.specs.Text.{lines}
use Rattle.print_text.proofs.Putting.{put_as, put_then, put-wider}
use Rattle.print_text.proofs.Lines.{refused-text, reports-text}
use Rattle.print_text.proofs.run.put_ranking.Goals as goal

pub returns-then-number-ne0 : goal.returns-then-number-ne0
returns-then-number-ne0 c = put_as (put-wider c.put_first.ensures 172061 (lit≤ tt)) (refused-text _ _ _ _ c.if-number-ne0.true)

pub returns : goal.returns
returns c =
    let a = c.args in
    let rows = lines (rows_in a.count a.documents.now a.scores.now) in
    put_as (put-wider (put_then c.put_first-at.ensures {b = rows} c.put_rows.ensures) 172061 (search rules)) (reports-text _ _ _ _ c.if-number-ne0.false)
