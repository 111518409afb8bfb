-- What a seek's answer tells, and how a search's answer becomes one.
use Rattle.std.specs.Prelude.{Result, Ok, Err}
use mathlib.Core.Path.{◌≡◌, refl, sym, ap, ◌∙◌}
use mathlib.Core.Bool.{Bool, true, false, true≢false, cond}
use mathlib.Core.List.{List}
use Prim.Native.Nat.{ℕ, ◌<◌}
use lib.Dec.{eqb, ltb}
use lib.ListN.{get_or}
use borrow.Author.Tests.{lt-ltb, eq-eqb, eqb-true}
use Rattle.block_search.specs.Search.{answer_if, count_below, holds_at, search_answer}
use Rattle.block_search.proofs.Answers.{hit-told, miss-told}
use Rattle.route.specs.Postings.{TERMINATED}
use Rattle.postings.specs.Seek.{seek_answer, stands_on}
use Rattle.postings.specs.Inner.Places.{live_answer}

module _ (target doc cur : ℕ) {r : Result ℕ ℕ} (e : r ≡ seek_answer target doc cur) where
  -- on a hit the scorer stands on its target
  pub on-target : {i : ℕ} → r ≡ Ok i → doc ≡ target
  on-target h = both (eqb doc target) (hit-told (stands_on target doc) cur (sym e ∙ h)).0 refl
    where
      both : (b : Bool) → cond b (ltb target TERMINATED) false ≡ true → eqb doc target ≡ b → doc ≡ target
      both true k q = eqb-true doc target q
      both false k q = absurd (true≢false (sym k))

  -- on a miss it does not, if the target is a document
  pub off-target : target < TERMINATED → {i : ℕ} → r ≡ Err i → doc ≡ target → ⊥
  off-target l h d = true≢false (sym (stands l d) ∙ (miss-told (stands_on target doc) cur (sym e ∙ h)).0)
    where
      stands : target < TERMINATED → doc ≡ target → stands_on target doc ≡ true
      stands k q = rw (eq-eqb doc target q, lt-ltb target TERMINATED k)

-- `TERMINATED` is never a hit
pub end-missed : (doc cur : ℕ) → seek_answer TERMINATED doc cur ≡ Err cur
end-missed doc cur = ends (eqb doc TERMINATED)
  where
    ends : (b : Bool) → answer_if (cond b (ltb TERMINATED TERMINATED) false) cur ≡ Err cur
    ends true = refl
    ends false = refl

-- a search that ended in the block tells the seek what a look at the document would
pub search-tells : (values : List ℕ) (target : ℕ) {n : ℕ} → n ≡ count_below 128 values target → n < 128
    → live_answer target (search_answer values target) ≡ seek_answer target (get_or values n 0) n
search-tells values target {n} e h = ap (λ (k : ℕ). live_answer target (answer_if (holds_at values target k) k)) (sym e) ∙ told
  where
    lives : (b : Bool) → live_answer target (answer_if b n) ≡ answer_if (cond b (ltb target TERMINATED) false) n
    lives true = refl
    lives false = refl

    told : live_answer target (answer_if (holds_at values target n) n) ≡ seek_answer target (get_or values n 0) n
    told = rw (lt-ltb n 128 h) (lives (eqb (get_or values n 0) target))
