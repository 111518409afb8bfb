-- The list of a request's skipping run, by the route.
use Rattle.std.specs.Prelude.{List, Float}
use Rattle.route.specs.F32.{f32}
use Rattle.route.specs.Report.{Report}
use Rattle.route.specs.Plain as scan
use Rattle.route.specs.Skipping.{Skips}
use Rattle.rule.specs.Rules.{rule_of, start_of}
use Rattle.notefile.specs.Header.{documents}
use Rattle.decoded.specs.Lists.{queried}
use Rattle.request.specs.Request.{Request, mode_of}

abbrev pub SkippingList : Request → List (Report Float) → Type 0
SkippingList q = Skips 128 f32 (mode_of q.mode) (queried q.scoring q.file q.query) (rule_of q.rule q.script) (start_of q.rule)

-- the list of its plain scan, by definition
abbrev pub plain_list : Request → List (Report Float)
plain_list q =
    scan.plain f32 (mode_of q.mode) (queried q.scoring q.file q.query) (rule_of q.rule q.script) (start_of q.rule)
    (documents q.file)
