-- A route that never turns back: its reports' documents rise strictly, and what the lists' scores and sums have, the reports' scores have.
use mathlib.Core.Bool.{Bool, cond, false, true}
use mathlib.Core.List.{List, [], ◌++◌, ◌∷◌}
use mathlib.Core.Option.{Option, none, some}
use mathlib.Core.Path.{subst, sym, ◌≡◌}
use Prim.Native.Nat.{suc, zero, ℕ, ◌+◌, ◌<◌, ◌≤◌}
use native.Mathlib.Omega.{arith}
use lib.ListN.{length}
use Rattle.arrays.specs.Every.{All}
use Rattle.route.specs.Score.{Ops, sum_from}
use Rattle.route.specs.Report.{Callback, Report, due_at, reported}
use Rattle.route.specs.Rule.{Rule, ruled}
use Rattle.route.specs.Route.{Ends, Route, Run, Turn, after}
use Rattle.route.proofs.Cases.{on_test}
use Rattle.route.proofs.Lists.{all_append}
use Rattle.route.proofs.Ending.{Nears, Stays}

-- what holds of 0 and is kept by sums
pub record Summed (O : Ops) (P : O.S → Type 0) : Type 0 where
  pub nil-has : P O.nil
  pub add-has : (x y : O.S) → P x → P y → P (O.add x y)

pub sum-has : (O : Ops) (P : O.S → Type 0) → Summed O P → (acc : O.S) (xs : List O.S) → P acc → All P xs → P (sum_from O acc xs)
sum-has O P Z acc [] h a = h
sum-has O P Z acc (x ∷ xs) h a = sum-has O P Z (O.add acc x) xs (Z.add-has acc x h a.0) a.1

module _ {S : Type 0} where
  -- the documents rise strictly, from a on and below n
  abbrev pub Upward : ℕ → ℕ → List (Report S) → Type 0
  Upward a n [] = a ≤ n
  Upward a n (r ∷ rs) = (a ≤ r.doc) × Upward (suc r.doc) n rs

  pub upward-few : (a n : ℕ) (rs : List (Report S)) → Upward a n rs → a + length rs ≤ n
  upward-few a n [] u = omega arith
  upward-few a n (r ∷ rs) u = let h = u.0 in omega (arith, upward-few (suc r.doc) n rs u.1)

  pub upward-from : (a b n : ℕ) (rs : List (Report S)) → a ≤ b → Upward b n rs → Upward a n rs
  upward-from a b n [] h u = omega arith
  upward-from a b n (r ∷ rs) h u = let g = u.0 in (omega arith, u.1)

  pub upward-below : (a m n : ℕ) (rs : List (Report S)) → m ≤ n → Upward a m rs → Upward a n rs
  upward-below a m n [] h u = omega arith
  upward-below a m n (r ∷ rs) h u = (u.0, upward-below (suc r.doc) m n rs h u.1)

  upward-more : (a n : ℕ) (rs : List (Report S)) (r : Report S) → n ≤ r.doc → Upward a n rs → Upward a (suc r.doc) (rs ++ (r ∷ []))
  upward-more a n [] r h u = (omega arith, omega arith)
  upward-more a n (x ∷ xs) r h u = (u.0, upward-more (suc x.doc) n xs r h u.1)

  module _ (P : S → Type 0) where
    -- a run's list so far, of documents below f
    pub record Listed (f : ℕ) (rs : List (Report S)) : Type 0 where
      pub upward : Upward 0 f rs
      pub scored : All (λ r. P r.score) rs

    pub listed_more : (f : ℕ) (rs : List (Report S)) (r : Report S) → f ≤ r.doc → P r.score → Listed f rs → Listed (suc r.doc) (rs ++ (r ∷ []))
    listed_more f rs r h p k = record {
      upward = upward-more 0 f rs r h k.upward;
      scored = all_append (λ r. P r.score) rs (r ∷ []) k.scored (p, tt);
    }

    pub listed_below : (f g : ℕ) (rs : List (Report S)) → f ≤ g → Listed f rs → Listed g rs
    listed_below f g rs h k = record { upward = upward-below 0 f g rs h k.upward; scored = k.scored }

    module _ (N : ℕ) {A : Type 0} (Ahead : ℕ → A → Type 0) where
      -- behind a turn from f: what comes is from f on, or behind the report that is due
      abbrev pub Goes : ℕ → A → Option (Report S) → Type 0
      Goes f p none = Ahead f p
      Goes f p (some r) = (f ≤ r.doc) × (r.doc < N) × P r.score × Ahead (suc r.doc) p

    -- `Ahead f p`: no report from place p on is of a document before f
    pub record Onward (N : ℕ) (W : Route S) (Kept : W.Place → Type 0) (Ahead : ℕ → W.Place → Type 0) : Type 0 where
      pub starts : Ahead 0 W.first
      pub goes : (t : S) (f : ℕ) (p : W.Place) → W.ended p ≡ false → Kept p → Ahead f p
          → Goes N Ahead f (W.turn t p).next (W.turn t p).due

module _ (O : Ops) (P : O.S → Type 0) (N : ℕ) where
  -- a document's turn, by whether it is reported: a report goes on behind it
  pub due-goes : {A : Type 0} (Ahead : ℕ → A → Type 0) (t : O.S) (f d : ℕ) (x : O.S) (next : Bool → A) → f ≤ d → d < N → P x
      → Ahead (suc d) (next true) → Ahead f (next false) → Goes P N Ahead f (next (O.above x t)) (due_at O t d x)
  due-goes Ahead t f d x next h b k s a = go (O.above x t)
    where
      go : (z : Bool) → Goes P N Ahead f (next z) (cond z (some (record { doc = d; score = x })) none)
      go true = (h, b, k, s)
      go false = a

  module _ (rule : Rule O.S) (start : O.S) (W : Route O.S) (stays : Stays W) (Kept : W.Place → Type 0) (cost : W.Place → ℕ)
      (near : Nears W Kept cost) (Ahead : ℕ → W.Place → Type 0) (on : Onward P N W Kept Ahead) where
    abbrev K : Callback O.S
    K = ruled O rule start

    record Along (u : Run W.Place (List (Report O.S))) : Type 0 where
      kept : Kept u.place
      f : ℕ
      few : f ≤ N
      ahead : Ahead f u.place
      list : Listed P f u.state

    turned : (f : ℕ) (rs : List (Report O.S)) (p : W.Place) (o : Option (Report O.S)) → f ≤ N → Listed P f rs → Kept p → Goes P N Ahead f p o
        → Along (record { place = p; state = reported K o rs })
    turned f rs p none h l k g = record { kept = k; f = f; few = h; ahead = g; list = l }
    turned f rs p (some r) h l k g =
        record { kept = k; f = suc r.doc; few = g.1; ahead = g.3; list = listed_more P f rs r g.0 g.2 l }

    along : (n : ℕ) → Along (after K W [] n)
    along zero = record { kept = near.begins; f = 0; few = omega arith; ahead = on.starts; list = record { upward = omega arith; scored = tt } }
    along (suc n) =
        let u = after K W [] n in
        let t = K.threshold u.state in
        let a = along n in
        on_test (W.ended u.place)
        (λ e. subst (λ (z : Turn W.Place O.S). Along (record { place = z.next; state = reported K z.due u.state }))
        (sym (stays t u.place e)) a)
        (λ e. turned a.f u.state (W.turn t u.place).next (W.turn t u.place).due a.few a.list
        (near.nears t u.place e a.kept).0
        (on.goes t a.f u.place e a.kept a.ahead))

    -- A ROUTE THAT NEVER TURNS BACK REPORTS UPWARD, below N and with P
    pub reports-upward : (rows : List (Report O.S)) → Ends K W [] rows → Listed P N rows
    reports-upward rows z =
        let a = along z.steps in
        subst (Listed P N) z.leaves (listed_below P a.f N (after K W [] z.steps).state a.few a.list)
