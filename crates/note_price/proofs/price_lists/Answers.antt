-- `price_lists` meets its contract. The loop's invariant (`Pricing`): l lists are priced, and none is refused.
use mathlib.Core.Path.{◌≡◌, refl, sym, ap, ◌∙◌}
use Prim.Native.Nat.{◌≤◌}
use native.Mathlib.Omega.{arith}
use lib.Dec.{eqb}
use lib.ListN.{get_or}
use Rattle.std.proofs.lemmas.Result.{err_from_is_err_and}
use Rattle.outcome.specs.Refusals.{refusal_number}
use Rattle.outcome.proofs.ByNumber.{no-refusal}
use Rattle.contents.specs.Contents.{Contents, reader_of}
use Rattle.contents.specs.Inner.Handed.{contents_in}
use Rattle.contents.proofs.Either.{some}
use Rattle.contents.specs.Inner.HeadOk.{HeadOk}
use Rattle.contents.proofs.Heads.{head_ok, starts-below}
use Rattle.house.specs.Inner.Listed.{listed_of, blocks_at}
use Rattle.house.proofs.FileSmall.{place_short}
use Rattle.list_price.specs.Inner.Prices.{Priced, bytes_of}
use Rattle.note_price.proofs.Pricing.{begun, refused, goes_on, all-priced, call_fits, call-room, call-gives}
use Rattle.note_price.proofs.price_lists.Goals as goal
use Rattle.note_price.proofs.price_lists.Goals.{After-compute_tf_cache-cache, After-price_list, In-loop-l, In_ok-bytes, Start}

abbrev contents : Start → Contents
contents a = contents_in a.args.c

head : (a : Start) → HeadOk (contents a)
head a = head_ok (contents a) a.requires

reader-is : (r : After-compute_tf_cache-cache) → let c = contents_in r.args.c in
    r.reader_of-reader.result ≡ reader_of c (eqb c.kind 0)
reader-is r = let g = r.args in r.reader_of-reader.ensures g.c.norms.now g.c.weights.now g.c.counts.now g.c.docs.now g.c.freqs.now

-- what a call gives of its list
given : (k : After-price_list) → let c = contents_in k.args.c in let l = k.loop-l.l in
    Priced (listed_of c l) c.documents (blocks_at c l) k.loop-l.tops k.price_list.result k.price_list.new.tops
given k =
    let g = k.args in
    let c = contents_in g.c in
    let P = k.loop-l.invariant in
    call-gives c k.loop-l.l (k.reader_of-reader.ensures g.c.norms.now g.c.weights.now g.c.counts.now g.c.docs.now g.c.freqs.now) P.from_is P.start_is
    k.price_list.ensures

count-few : (i : In-loop-l) → get_or i.args.c.counts.now i.loop-l.l 0 ≤ 1048576
count-few i =
    let H = head_ok _ i.requires in
    omega (arith, H.count-in i.loop-l.l i.loop-l-test.true, H.few-documents)

pub reader_of-reader-requires : goal.reader_of-reader-requires
reader_of-reader-requires c = (head (goal.at.reader_of-reader-requires c).Start).code_in

pub overflow_mul-total : goal.overflow_mul-total
overflow_mul-total c = omega (arith, (head (goal.at.overflow_mul-total c).Start).few-lists)

pub overflow_add-total : goal.overflow_add-total
overflow_add-total c = omega (arith, (head (goal.at.overflow_add-total c).Start).few-lists)

pub overflow_add-total-2 : goal.overflow_add-total-2
overflow_add-total-2 c = omega (arith, place_short (contents (goal.at.overflow_add-total-2 c).Start) (head (goal.at.overflow_add-total-2 c).Start) 0 (omega arith))

pub loop-l-init : goal.loop-l-init
loop-l-init c = begun (contents (goal.at.loop-l-init c).Start) c.args.tops.now refl refl

pub bounds-c-l-in-loop-l : goal.bounds-c-l-in-loop-l
bounds-c-l-in-loop-l c =
    omega (arith, c.loop-l-test.true, (head (goal.at.bounds-c-l-in-loop-l c).Start).weights-long)

pub price_list-requires : goal.price_list-requires
price_list-requires c =
    let P = c.loop-l.invariant in
    let h = c.loop-l-test.true in (
      call_fits (contents (goal.at.price_list-requires c).Start) c.loop-l.l (reader-is (goal.at.price_list-requires c).After-compute_tf_cache-cache) P.from_is P.start_is (head (goal.at.price_list-requires c).Start) h,
      record { weight_is = refl; average-is = refl; norms = c.compute_tf_cache-cache.ensures },
      call-room (contents (goal.at.price_list-requires c).Start) c.loop-l.l (reader-is (goal.at.price_list-requires c).After-compute_tf_cache-cache) P.from_is P.start_is (head (goal.at.price_list-requires c).Start) h,
    )

pub returns-in_err-bytes : goal.returns-in_err-bytes
returns-in_err-bytes c =
    let p = err_from_is_err_and c.from_residual.result c.from_residual.ensures.1 in
    let r = c.in_err-bytes.field-0.0 in
    rw (p.1, p.2)
    (refused (contents (goal.at.returns-in_err-bytes c).Start) c.loop-l.invariant (head (goal.at.returns-in_err-bytes c).Start) c.loop-l-test.true
    (ap refusal_number (sym c.in_err-bytes.was) ∙ (given (goal.at.returns-in_err-bytes c).After-price_list).refusal_is) (some (no-refusal r).0))

-- the bytes of a list that is not refused
bytes-are : (k : In_ok-bytes) → bytes_of k.price_list.result ≡ k.in_ok-bytes.bytes
bytes-are k = ap bytes_of k.in_ok-bytes.was

pub bounds-postings-l : goal.bounds-postings-l
bounds-postings-l c =
    omega (arith, c.loop-l-test.true, c.loop-l.invariant.long, (head (goal.at.bounds-postings-l c).Start).few-lists)

pub overflow_mul-total-in-loop-l : goal.overflow_mul-total-in-loop-l
overflow_mul-total-in-loop-l c = omega (arith, count-few (goal.at.overflow_mul-total-in-loop-l c).In-loop-l)

pub overflow_add-total-in-loop-l : goal.overflow_add-total-in-loop-l
overflow_add-total-in-loop-l c =
    omega (arith, (given (goal.at.overflow_add-total-in-loop-l c).After-price_list).small, bytes-are (goal.at.overflow_add-total-in-loop-l c).In_ok-bytes, count-few (goal.at.overflow_add-total-in-loop-l c).In-loop-l)

pub overflow_add-total-in-loop-l-2 : goal.overflow_add-total-in-loop-l-2
overflow_add-total-in-loop-l-2 c =
    omega (arith, (given (goal.at.overflow_add-total-in-loop-l-2 c).After-price_list).small, bytes-are (goal.at.overflow_add-total-in-loop-l-2 c).In_ok-bytes, c.loop-l.invariant.total-is, place_short (contents (goal.at.overflow_add-total-in-loop-l-2 c).Start) (head (goal.at.overflow_add-total-in-loop-l-2 c).Start) c.loop-l.l c.loop-l.invariant.within, count-few (goal.at.overflow_add-total-in-loop-l-2 c).In-loop-l)

pub overflow_add-from : goal.overflow_add-from
overflow_add-from c =
    omega (arith, c.loop-l.invariant.from_is, starts-below (contents (goal.at.overflow_add-from c).Start) (head (goal.at.overflow_add-from c).Start) c.loop-l.l c.loop-l.invariant.within, (head (goal.at.overflow_add-from c).Start).few-lists, count-few (goal.at.overflow_add-from c).In-loop-l)

pub overflow_add-start : goal.overflow_add-start
overflow_add-start c =
    let P = c.loop-l.invariant in
    omega (arith, call-room (contents (goal.at.overflow_add-start c).Start) c.loop-l.l (reader-is (goal.at.overflow_add-start c).After-compute_tf_cache-cache) P.from_is P.start_is (head (goal.at.overflow_add-start c).Start) c.loop-l-test.true)

pub loop-l-preserved : goal.loop-l-preserved
loop-l-preserved c =
    let G = given (goal.at.loop-l-preserved c).After-price_list in
    let z = ap refusal_number c.in_ok-bytes.was in
    goes_on (contents (goal.at.loop-l-preserved c).Start) c.loop-l.invariant (head (goal.at.loop-l-preserved c).Start) c.loop-l-test.true G.refusal_is z
    (sym (bytes-are (goal.at.loop-l-preserved c).In_ok-bytes) ∙ G.length-is z) refl (G.tops_are z)
    (λ m h. G.kept m (omega (arith, h, c.loop-l.invariant.start_is)))
    refl refl refl

pub returns : goal.returns
returns c =
    all-priced (contents (goal.at.returns c).Start) c.loop-l.invariant (head (goal.at.returns c).Start) c.loop-l-test.false refl refl
