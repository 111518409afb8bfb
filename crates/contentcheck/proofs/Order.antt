-- What contents are refused for, by the first row that refuses.
use mathlib.Core.Path.{◌≡◌, sym, ap, ◌∙◌}
use mathlib.Core.Bool.{Bool, true, false}
use Rattle.arrays.specs.Every.{every}
use Rattle.bm25.specs.Limits.{average_ok}
use Rattle.notefile.specs.Refusal.{unless}
use Rattle.contents.specs.Contents.{Contents, lists}
use Rattle.contents.specs.Refusal.{head_right, buffers_right, list_right, head_refusal}
use Rattle.contents.proofs.Heads.{after1, after2, after3, head_rows}

module _ (c : Contents) where
  pub one : head_right c ≡ false → 1 ≡ head_refusal c
  one e = sym (head_rows c ∙ ap (λ (z : Bool). unless z 1 (after1 c)) e)

  module _ (h : head_right c ≡ true) where
    past1 : head_refusal c ≡ after1 c
    past1 = head_rows c ∙ ap (λ (z : Bool). unless z 1 (after1 c)) h

    pub two : average_ok c.average ≡ false → 2 ≡ head_refusal c
    two e = sym (past1 ∙ ap (λ (z : Bool). unless z 2 (after2 c)) e)

    module _ (a : average_ok c.average ≡ true) where
      past2 : head_refusal c ≡ after2 c
      past2 = past1 ∙ ap (λ (z : Bool). unless z 2 (after2 c)) a

      pub three : buffers_right c ≡ false → 3 ≡ head_refusal c
      three e = sym (past2 ∙ ap (λ (z : Bool). unless z 3 (after3 c)) e)

      module _ (b : buffers_right c ≡ true) where
        past3 : head_refusal c ≡ after3 c
        past3 = past2 ∙ ap (λ (z : Bool). unless z 3 (after3 c)) b

        pub four : every (lists c) (list_right c) ≡ false → 4 ≡ head_refusal c
        four e = sym (past3 ∙ ap (λ (z : Bool). unless z 4 0) e)

        pub none : every (lists c) (list_right c) ≡ true → 0 ≡ head_refusal c
        none e = sym (past3 ∙ ap (λ (z : Bool). unless z 4 0) e)
