-- What a run is asked for, and 01's table up to row 11: which requests are refused before they begin.
use Rattle.std.specs.Prelude.{Bool, true, ◌&&◌, List, [], ◌∷◌, ◌++◌, ℕ, eqb, leb, ltb, length, Float}
use Rattle.route.specs.Plain as plain
use Rattle.bm25.specs.declared.Scoring.{Scoring}
use Rattle.rulecheck.specs.Right.{rule_right}
use Rattle.rule.specs.declared.Rule.{Rule}
use Rattle.notefile.specs.Header.{list_count}
use Rattle.notefile.specs.Refusal.{Test, test, first_refusal, file_tests}
use Rattle.request.specs.declared.Mode.{Mode}
use Rattle.request.specs.declared.Mode.TheVariants.{Union, Intersection, Single}

-- 01, on a run: it takes a file, a query, a mode, a scoring and a rule, whose script stands beside it
pub record Request : Type 0 where
  pub file : List ℕ
  pub query : List ℕ
  pub mode : Mode
  pub scoring : Scoring
  pub rule : Rule
  pub script : List Float

abbrev pub asked : List ℕ → List ℕ → Mode → Scoring → Rule → List Float → Request
asked file query mode scoring rule script =
    record { file = file; query = query; mode = mode; scoring = scoring; rule = rule; script = script }

-- the same three modes, as the plain scan and the route have them
abbrev pub mode_of : Mode → plain.Mode
mode_of Union = plain.union
mode_of Intersection = plain.intersection
mode_of Single = plain.single

-- row 10: no list number is too high, lists being counted from 0
abbrev pub numbers_right : ℕ → List ℕ → Bool
numbers_right lists [] = true
numbers_right lists (l ∷ ls) = ltb l lists && numbers_right lists ls

-- at most 16 numbers; one for single, two or more for an intersection
abbrev pub count_right : Mode → ℕ → Bool
count_right Union n = leb n 16
count_right Intersection n = leb 2 n && leb n 16
count_right Single n = eqb n 1

abbrev pub query_right : ℕ → Mode → List ℕ → Bool
query_right lists mode query = numbers_right lists query && count_right mode (length query)

-- rows 1 to 11 in the table's order: the file's, then the query's, then the rule's
unfoldable pub query_tests : List ℕ → List ℕ → Mode → List Test
query_tests file query mode = file_tests file ++ (test 10 (query_right (list_count file) mode query) ∷ [])

unfoldable pub request_tests : Request → List Test
unfolding query_tests
request_tests q = query_tests q.file q.query q.mode ++ (test 11 (rule_right q.rule q.scoring q.script) ∷ [])

-- what a request is refused for; 0: it is let through
unfoldable pub refusal_of : Request → ℕ
unfolding request_tests
refusal_of q = first_refusal (request_tests q)
