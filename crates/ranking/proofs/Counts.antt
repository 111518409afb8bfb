-- A list has at most 1,048,576 reports, and every score written is a number, of one bit pattern.
use mathlib.Core.Path.{◌≡◌, refl, sym, ap, ◌∙◌, subst}
use mathlib.Core.List.{List, [], ◌∷◌, map}
use mathlib.Core.Logic.{◌↔◌}
use Prim.Native.Nat.{ℕ, zero, suc, ◌≤◌}
use native.Mathlib.Omega.{arith}
use lib.Dec.{leb}
use lib.ListN.{length, length-take, take}
use lib.Ieee.{Float}
use Rattle.floats.proofs.Pattern.{same_bits}
use Rattle.arrays.specs.Every.{All}
use Rattle.route.specs.Report.{Report}
use Rattle.route.specs.Rule as rules
use Rattle.route.proofs.Cases.{by-test}
use Rattle.rule.specs.Rules.{rule_of, start_of}
use Rattle.notefile.specs.Header.{list_count}
use Rattle.reports.specs.Rows.{Rows, rows_of}
use Rattle.decoded.specs.Inner.Bytes.{Bytes}
use Rattle.decoded.proofs.Reported.{Number, file-few, file-numbers, file-plain-few, file-plain-numbers}
use Rattle.request.specs.Request.{Request, mode_of, refusal_of}
use Rattle.request.specs.Lists.{plain_list, SkippingList}
use Rattle.request.proofs.Requests.{let_through}
use Rattle.outcome.specs.Outcomes.{count_of}
use Rattle.outcome.specs.declared.Outcome.{Outcome}
use Rattle.ranking.specs.Answers.{answer, RunIs, PlainIs}
use Rattle.ranking.specs.Demand.{result_of, list_of, bits_of}
use Rattle.ranking.proofs.Demand.{all_named, given-of, rows_are}

all_take : {A : Type 0} (P : A → Type 0) (n : ℕ) (xs : List A) → All P xs → All P (take n xs)
all_take P zero xs a = tt
all_take P (suc n) [] a = tt
all_take P (suc n) (x ∷ xs) a = (a.0, all_take P n xs a.1)

-- an answer's rows are the first of its list, or none
module _ (r n : ℕ) (list : List (Report Float)) where
  answer-few : (m : ℕ) → (r ≡ 0 → length list ≤ m) → length (answer r n list).rows ≤ m
  answer-few m = go r
    where
      go : (r : ℕ) → (r ≡ 0 → length list ≤ m) → length (answer r n list).rows ≤ m
      go zero h =
          by-test (λ (a : rules.Outcome Float). length a.rows ≤ m) (leb (length list) n) (record { code = 0; rows = list }) (record { code = 12; rows = take n list })
          (λ _. h refl) (λ _. omega (arith, length-take n list, h refl))
      go (suc r) h = omega arith

  answer-all : (P : Report Float → Type 0) → (r ≡ 0 → All P list) → All P (answer r n list).rows
  answer-all P = go r
    where
      go : (r : ℕ) → (r ≡ 0 → All P list) → All P (answer r n list).rows
      go zero h =
          by-test (λ (a : rules.Outcome Float). All P a.rows) (leb (length list) n) (record { code = 0; rows = list }) (record { code = 12; rows = take n list })
          (λ _. h refl) (λ _. all_take P n list (h refl))
      go (suc r) h = tt

-- the score of a report is a number that an f32 holds
abbrev pub Numbered : List (Report Float) → Type 0
Numbered rs = All (λ x. Number x.score) rs

module _ (q : Request) (bytes : Bytes q.file) where
  -- of a request that is let through
  module _ (e : refusal_of q ≡ 0) where
    listed : (list : List (Report Float)) → SkippingList q list → (length list ≤ 1048576) × Numbered list
    listed list s =
        let L = let_through q e in
        let named = all_named (list_count q.file) q.query L.named in (
          file-few q.scoring q.file bytes L.accepted q.query named (mode_of q.mode) (rule_of q.rule q.script) (start_of q.rule) list s,
          file-numbers q.scoring q.file bytes L.accepted q.query named (mode_of q.mode) (rule_of q.rule q.script) (start_of q.rule) list s,
        )

    scanned : (length (plain_list q) ≤ 1048576) × Numbered (plain_list q)
    scanned =
        let L = let_through q e in
        let named = all_named (list_count q.file) q.query L.named in (
          file-plain-few q.scoring q.file bytes L.accepted q.query named (mode_of q.mode) (rule_of q.rule q.script) (start_of q.rule),
          file-plain-numbers q.scoring q.file bytes L.accepted q.query named (mode_of q.mode) (rule_of q.rule q.script) (start_of q.rule),
        )

  module _ {old new : Rows} {o : Outcome} where
    -- A COUNT IS AT MOST 1,048,576
    pub run-few : RunIs q old o new → count_of o ≤ 1048576
    run-few R =
        let n = rows_of old.documents old.scores in
        let G = given-of (refusal_of q) n R.list R.answered in
        omega (arith, G.count-is, answer-few (refusal_of q) n R.list 1048576 (λ e. (listed e R.list (R.by-route e)).0))

    pub plain-few : PlainIs q old o new → count_of o ≤ 1048576
    plain-few P =
        let n = rows_of old.documents old.scores in
        let G = given-of (refusal_of q) n (plain_list q) P in
        omega (arith, G.count-is, answer-few (refusal_of q) n (plain_list q) 1048576 (λ e. (scanned e).0))

    -- EVERY SCORE IN A RUN'S LIST IS A NUMBER
    pub run-numbers : RunIs q old o new → Numbered (list_of (result_of o new))
    run-numbers R =
        let n = rows_of old.documents old.scores in
        subst Numbered (sym (rows_are (answer (refusal_of q) n R.list) old (result_of o new) (given-of (refusal_of q) n R.list R.answered)))
        (answer-all (refusal_of q) n R.list (λ x. Number x.score) (λ e. (listed e R.list (R.by-route e)).1))

    pub plain-numbers : PlainIs q old o new → Numbered (list_of (result_of o new))
    plain-numbers P =
        let n = rows_of old.documents old.scores in
        subst Numbered (sym (rows_are (answer (refusal_of q) n (plain_list q)) old (result_of o new) (given-of (refusal_of q) n (plain_list q) P)))
        (answer-all (refusal_of q) n (plain_list q) (λ x. Number x.score) (λ e. (scanned e).1))

-- LISTS OF NUMBERS ARE THE SAME EXACTLY IF THEIR DOCUMENTS AND THEIR SCORES' BITS ARE
pub same-by-bits : (xs ys : List (Report Float)) → Numbered xs → Numbered ys → (xs ≡ ys) ↔ (map bits_of xs ≡ map bits_of ys)
same-by-bits xs ys a b = (ap (map bits_of), back xs ys a b)
  where
    head-doc : (x y : Report Float) (xs ys : List (Report Float)) → ◌≡◌ {A = List (Report ℕ)} (bits_of x ∷ map bits_of xs) (bits_of y ∷ map bits_of ys) → bits_of x ≡ bits_of y
    head-doc x y xs ys e = cc

    tail-is : (x y : Report Float) (xs ys : List (Report Float)) → ◌≡◌ {A = List (Report ℕ)} (bits_of x ∷ map bits_of xs) (bits_of y ∷ map bits_of ys) → map bits_of xs ≡ map bits_of ys
    tail-is x y xs ys e = cc

    one : (x y : Report Float) → Number x.score → Number y.score → bits_of x ≡ bits_of y → x ≡ y
    one x y a b e =
        let d : x.doc ≡ y.doc = ap (λ (r : Report ℕ). r.doc) e in
        let s : x.score ≡ y.score = same_bits x.score y.score a.1 b.1 (ap (λ (r : Report ℕ). r.score) e) in
        ap (λ (z : ℕ). record { doc = z; score = x.score }) d ∙ ap (λ (z : Float). record { doc = y.doc; score = z }) s

    back : (xs ys : List (Report Float)) → Numbered xs → Numbered ys → map bits_of xs ≡ map bits_of ys → xs ≡ ys
    back [] [] a b e = refl
    back [] (y ∷ ys) a b e = let z : ◌≡◌ {A = ℕ} 0 1 = cc in absurd (omega arith)
    back (x ∷ xs) [] a b e = let z : ◌≡◌ {A = ℕ} 0 1 = cc in absurd (omega arith)
    back (x ∷ xs) (y ∷ ys) a b e =
        ap (λ (z : Report Float). z ∷ xs) (one x y a.0 b.0 (head-doc x y xs ys e)) ∙ ap (λ (zs : List (Report Float)). y ∷ zs) (back xs ys a.1 b.1 (tail-is x y xs ys e))
