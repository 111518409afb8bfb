-- What the print program prints of a file (01, One small file).
use Rattle.std.specs.Prelude.{List, [], ◌∷◌, ℕ, zero, suc}
use Rattle.floats.specs.Step.{grid_f}
use Rattle.bm25.specs.declared.Scoring.TheVariants.{Stepped}
use Rattle.rule.specs.declared.Rule.TheVariants.{Script}
use Rattle.notefile.specs.Header.{list_count}
use Rattle.request.specs.Request.{Request, asked, refusal_of}
use Rattle.request.specs.declared.Mode.TheVariants.{Union}
use Rattle.request.specs.Lists.{plain_list}
use Rattle.ranking.specs.Answers.{answer}
use Rattle.print_text.specs.Text.{text}

-- n numbers from a on
abbrev pub numbers_from : ℕ → ℕ → List ℕ
numbers_from a zero = []
numbers_from a (suc n) = a ∷ numbers_from (suc a) n

-- "a stepped union over all lists with a fixed 0": the script is empty
abbrev pub stepped : List ℕ → List ℕ → Request
stepped file query = asked file query Union Stepped (Script (grid_f 0)) []

abbrev pub all_lists : List ℕ → Request
all_lists file = stepped file (numbers_from 0 (list_count file))

-- "and 4,096 rows": what a file prints. The list is the plain scan's, which a stepped skipping run's rows are proved equal to.
unfoldable pub printed : List ℕ → List ℕ
unfolding text
printed file = text (answer (refusal_of (all_lists file)) 4096 (plain_list (all_lists file)))
