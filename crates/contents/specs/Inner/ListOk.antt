-- What rows 7 to 9 show of a list of contents, and what it is refused for by itself.
use Rattle.std.specs.Prelude.{◌≡◌, true, ℕ}
use Rattle.notefile.specs.Refusal.{first_refusal}
use Rattle.notefile.specs.Inner.Order.{first_of}
use Rattle.contents.specs.Contents.{Contents}
use Rattle.contents.specs.Refusal.{docs_right, freqs_right_of, bound_right, lists_tests}

pub record ListOk (c : Contents) (l : ℕ) : Type 0 where
  pub docs : docs_right c l ≡ true
  pub freqs : freqs_right_of c l ≡ true
  pub bound : bound_right c l ≡ true

unfoldable pub list_refusal : Contents → ℕ → ℕ
list_refusal c l = first_of (docs_right c l) (freqs_right_of c l) (bound_right c l)

-- the first n lists
unfoldable pub lists_refusal : Contents → ℕ → ℕ
lists_refusal c n = first_refusal (lists_tests c n)
