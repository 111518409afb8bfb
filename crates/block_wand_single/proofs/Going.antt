-- The scan by turns: it begins at the route's first place, and goes on stretch by stretch.
use mathlib.Core.Path.{◌≡◌, refl, sym, ap, ◌∙◌, subst}
use mathlib.Core.Bool.{Bool, true, false, false≢true, true≢false}
use mathlib.Core.List.{List}
use Prim.Native.Nat.{ℕ, suc, ◌+◌, ◌-◌, ◌≤◌, ◌<◌}
use native.Mathlib.Omega.{arith}
use lib.Ieee.{Float}
use Rattle.route.specs.F32.{f32}
use Rattle.route.specs.Postings.{Postings}
use Rattle.route.specs.Cursor.{Cursor, doc_here, fresh}
use Rattle.route.specs.Route.{Route, Turn}
use Rattle.route.specs.Single as route
use Rattle.route.specs.Inner.Singles.{SingleKept}
use Rattle.route.proofs.Single.Ends.{single-nears}
use Rattle.notefile.specs.Header.{documents, norm_reader}
use Rattle.reports.specs.Inner.Turns.{after_turns, Went}
use Rattle.reports.specs.declared.Event.{Event}
use Rattle.reports.specs.declared.Event.TheVariants.{Over, Paused, Report}
use Rattle.reports.proofs.TurnLaws.{Quietly, and_then, at-end, at_pause, at-report, none_yet, one_more}
use Rattle.skip_reader.specs.Inner.Decoded.{doc-is, doc_in}
use Rattle.term_scorer.specs.Inner.Slots.{Held, cursor_at, list_at, part_at}
use Rattle.term_scorer.specs.Inner.Weights.{FloatRows, FreshSlot}
use Rattle.term_scorer.specs.declared.score.Similarity.{Similarity}
use Rattle.single_hunt.specs.Inner.Places.{is_done, on_walk, phase_of, place_of, single_route}
use Rattle.single_hunt.specs.Inner.Stands.{Hunted, Stands}
use Rattle.block_wand_single.specs.Inner.Runs.{Goes}
use Rattle.single_walk.specs.Inner.Strides.{Steps, Strode}
use Rattle.reports.specs.declared.Gone.{Gone}
use Rattle.single_hunt.specs.declared.Phase.{Phase}
use Rattle.single_hunt.specs.declared.Phase.TheVariants.{Called, Hunt, Over as Done, Walk}
use Rattle.single_hunt.specs.declared.Single.{Single}
use Rattle.term_scorer.proofs.Kept.{kept_fresh}
use Rattle.single_hunt.proofs.Scorers.{right}
use Rattle.term_scorer.proofs.Slots.{standing-in}

-- a scan that has not returned and is on no walk hunts
pub is-hunt : (phase : Phase) → on_walk phase ≡ false → is_done phase ≡ false → phase ≡ Hunt
is-hunt Hunt w d = refl
is-hunt Walk w d = absurd (true≢false w)
is-hunt Called w d = absurd (true≢false w)
is-hunt Done w d = absurd (true≢false d)

-- a report at the end of one stretch of turns behind another
then-report : {P : Type 0} (turn : Float → P → Turn P Float) (ended : P → Bool) (t : Float) {p q r : P} {n m turns d : ℕ} {score : Float} → n ≤ turns → Quietly turn ended t p n q
    → Went turn ended t q (turns - n) m r (Report d score) → Went turn ended t p turns (n + m) r (Report d score)
then-report turn ended t {p} {q} {r} {n} {m} {turns} {d} {score} h Q w =
    let s = w.stood in
    let k = s.0 in
    let e = s.1 in
    let few = w.few in
    let z : suc (n + k) ≡ n + m = omega arith in
    let A = and_then turn ended t Q (record { place_is = refl; silent = s.2 }) in
    subst (λ (i : ℕ). Went turn ended t p turns i r (Report d score)) z
    (at-report turn ended t A (omega arith) s.3 s.4 (sym (w.place_is ∙ ap (after_turns turn ended t q) e)))

abbrev W : List ℕ → Similarity → List (List ℕ) → Single → ℕ → Route Float
W file similarity lists x ord = single_route similarity.scoring file lists x.slot ord

module _ {file : List ℕ} {similarity : Similarity} {lists : List (List ℕ)} {norms : List (List Float)} where
  -- a turn of the hunt is one without a report
  pub hunt-strides : {t : Float} {x : Single} {h h' : Held} {r : Single} {floats : List (List Float)} → x.phase ≡ Hunt → {turns : ℕ} → 0 < turns
      → Hunted file similarity lists norms t x h r h' floats → Steps file similarity lists norms t turns x h (record { to = r; taken = 1; event = Paused }) h' floats
  hunt-strides {t} {x} {h} {h'} {r} e {turns} some H = record {
    slot_is = H.slot_is;
    stands = H.stands;
    strode = λ ord. let Q = turned ord in (omega arith, omega arith, Q.place_is, Q.silent);
  }
    where
      turned : (ord : ℕ) → Quietly (W file similarity lists x ord).turn (W file similarity lists x ord).ended t (place_of x h.places) 1 (place_of r h'.places)
      turned ord =
          let w = W file similarity lists x ord in
          subst (λ (z : Phase). Quietly w.turn w.ended t (record { phase = phase_of z; cur = cursor_at h.places x.slot; doc = x.doc }) 1 (place_of r h'.places)) (sym e)
          (one_more w.turn w.ended t (none_yet w.turn w.ended t _) refl refl H.next-is)

  -- A SCAN BEGINS AT ITS ROUTE'S FIRST PLACE: its slot is open on the list's first posting, with nothing kept of it.
  pub single-begins : {q : ℕ} {h : Held} {floats : List (List Float)} {doc : ℕ} → similarity.norms ≡ norm_reader file
      → FreshSlot similarity.scoring file lists norms h q → FloatRows floats → doc ≡ doc_in file (part_at lists q) 0
      → Stands file similarity lists norms (record { slot = q; doc = doc; phase = Hunt }) h floats
      × ((ord : ℕ) → place_of (record { slot = q; doc = doc; phase = Hunt }) h.places ≡ (single_route similarity.scoring file lists q ord).first)
  single-begins {q} {h} {floats} {doc} e F rows d = (
    record {
      ready = record { norms-are = e; rows = rows; kept = kept_fresh F };
      scores = λ w. absurd (false≢true w);
      kept = subst (λ (p : route.SinglePlace). SingleKept 128 l p.phase p.cur p.doc) (sym first)
          (single-nears 128 (documents file) f32 l (right (standing-in F.slot) similarity.scoring) 0).begins;
    },
    λ ord. first,
  )
    where
      l : Postings Float
      l = list_at similarity.scoring file lists q

      first : place_of (record { slot = q; doc = doc; phase = Hunt }) h.places ≡ record { phase = route.hunt; cur = fresh; doc = doc_here l fresh }
      first = ap (λ (z : Cursor). record { phase = route.hunt; cur = z; doc = doc }) F.first
          ∙ ap (λ (z : ℕ). record { phase = route.hunt; cur = fresh; doc = z }) (d ∙ sym (doc-is file (part_at lists q) similarity.scoring 0))

-- ---- the loop

-- the turns so far had no report, and the scan stands where they lead
pub record Going (file : List ℕ) (similarity : Similarity) (lists : List (List ℕ)) (norms : List (List Float)) (t : Float) (turns : ℕ) (x : Single) (h : Held)
    (taken : ℕ) (y : Single) (h' : Held) (floats : List (List Float)) : Type 0 where
  pub few : taken ≤ turns
  pub slot_is : y.slot ≡ x.slot
  pub stands : Stands file similarity lists norms y h' floats
  pub passed : (ord : ℕ) → Quietly (W file similarity lists x ord).turn (W file similarity lists x ord).ended t (place_of x h.places) taken (place_of y h'.places)

pub going-begun : {file : List ℕ} {similarity : Similarity} {lists : List (List ℕ)} {norms : List (List Float)} (t : Float) (turns : ℕ) {x : Single} {h : Held} {floats : List (List Float)}
    → Stands file similarity lists norms x h floats → Going file similarity lists norms t turns x h 0 x h floats
going-begun {file} {similarity} {lists} t turns {x} {h} S = record {
  few = omega arith;
  slot_is = refl;
  stands = S;
  passed = λ ord. none_yet (W file similarity lists x ord).turn (W file similarity lists x ord).ended t (place_of x h.places);
}

module _ {file : List ℕ} {similarity : Similarity} {lists : List (List ℕ)} {norms : List (List Float)} {t : Float} {turns : ℕ} {x : Single} {h : Held}
    {taken : ℕ} {y : Single} {h' : Held} {floats : List (List Float)} (G : Going file similarity lists norms t turns x h taken y h' floats) where
  abbrev turn : ℕ → Float → route.SinglePlace → Turn route.SinglePlace Float
  turn ord = (W file similarity lists x ord).turn

  abbrev ended : ℕ → route.SinglePlace → Bool
  ended ord = (W file similarity lists x ord).ended

  -- at the end, or all turns are taken
  pub gone-over : is_done y.phase ≡ true → Goes file similarity lists norms t turns x h (record { to = y; taken = taken; event = Over }) h' floats
  gone-over e = record { slot_is = G.slot_is; stands = G.stands; went = λ ord. at-end (turn ord) (ended ord) t (G.passed ord) G.few e }

  pub gone-through : is_done y.phase ≡ false → taken ≡ turns → Goes file similarity lists norms t turns x h (record { to = y; taken = taken; event = Paused }) h' floats
  gone-through e f = record {
    slot_is = G.slot_is;
    stands = G.stands;
    went = λ ord. subst (λ (z : ℕ). Went (turn ord) (ended ord) t (place_of x h.places) z taken (place_of y h'.places) Paused) f
        (at_pause (turn ord) (ended ord) t (G.passed ord) e);
  }

  module _ {r : Gone Single} {h'' : Held} {floats' : List (List Float)} (S : Steps file similarity lists norms t (turns - taken) y h' r h'' floats') where
    abbrev Strides : ℕ → Event → Type 0
    Strides ord e = Strode file similarity lists norms t (turns - taken) (W file similarity lists x ord) (place_of y h'.places) r.taken (place_of r.to h''.places) e

    strode : (ord : ℕ) → Strides ord r.event
    strode ord =
        subst (λ (q : ℕ). Strode file similarity lists norms t (turns - taken) (single_route similarity.scoring file lists q ord)
        (place_of y h'.places) r.taken (place_of r.to h''.places) r.event) G.slot_is (S.strode ord)

    -- a stretch without a report
    no-report : (ord : ℕ) (e : Event) → ((d : ℕ) (s : Float) → e ≡ Report d s → ⊥) → Strides ord e
        → (0 < r.taken) × (r.taken ≤ turns - taken) × Quietly (turn ord) (ended ord) t (place_of y h'.places) r.taken (place_of r.to h''.places)
    no-report ord (Report d s) f v = absurd (f d s refl)
    no-report ord Over f v = absurd v
    no-report ord Paused f v = (v.0, v.1, record { place_is = v.2; silent = v.3 })

    with-report : (ord : ℕ) (e : Event) {d : ℕ} {s : Float} → e ≡ Report d s → Strides ord e
        → Went (turn ord) (ended ord) t (place_of x h.places) turns (taken + r.taken) (place_of r.to h''.places) e
    with-report ord (Report d s) f v = then-report (turn ord) (ended ord) t G.few (G.passed ord) v
    with-report ord Over f v = absurd v
    with-report ord Paused f v = cc

    pub taken-fits : taken + r.taken ≤ turns
    taken-fits = taken-by 0 r.event (strode 0)
      where
        taken-by : (ord : ℕ) (e : Event) → Strides ord e → taken + r.taken ≤ turns
        taken-by ord (Report d s) v = omega (arith, v.few, G.few)
        taken-by ord Over v = absurd v
        taken-by ord Paused v = omega (arith, v.1, G.few)

    pub gone-report : {d : ℕ} {s : Float} → r.event ≡ Report d s → Goes file similarity lists norms t turns x h (record { to = r.to; taken = taken + r.taken; event = r.event }) h'' floats'
    gone-report f = record {
      slot_is = S.slot_is ∙ G.slot_is;
      stands = S.stands;
      went = λ ord. with-report ord r.event f (strode ord);
    }

    pub going_on : ((d : ℕ) (s : Float) → r.event ≡ Report d s → ⊥) → Going file similarity lists norms t turns x h (taken + r.taken) r.to h'' floats'
    going_on f = record {
      few = taken-fits;
      slot_is = S.slot_is ∙ G.slot_is;
      stands = S.stands;
      passed = λ ord. and_then (turn ord) (ended ord) t (G.passed ord) (no-report ord r.event f (strode ord)).2;
    }

    pub going_less : ((d : ℕ) (s : Float) → r.event ≡ Report d s → ⊥) → turns - (taken + r.taken) < turns - taken
    going_less f = let v = no-report 0 r.event f (strode 0) in omega (arith, v.0, v.1)
