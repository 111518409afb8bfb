-- `write_file` meets its contract. The loop's invariant (`Filing`): l lists are written behind
-- the front.
use mathlib.Core.Path.{◌≡◌, refl, ◌∙◌}
use mathlib.Core.List.{List}
use Prim.Native.Nat.{ℕ, ◌≤◌}
use native.Mathlib.Omega.{arith}
use lib.Dec.{eqb}
use lib.ListN.{length, get_or}
use Rattle.contents.specs.Contents.{Contents, reader_of}
use Rattle.contents.specs.Refusal.{contents_refusal}
use Rattle.contents.specs.Inner.Handed.{contents_in}
use Rattle.contents.specs.Inner.HeadOk.{HeadOk}
use Rattle.contents.proofs.Heads.{postings-few}
use Rattle.contents.proofs.Refused.{contents-head}
use Rattle.contents.specs.declared.Price.{Price}
use Rattle.fieldnorm.specs.declared.FieldNormReader.{FieldNormReader}
use Rattle.house.specs.House.{house_file}
use Rattle.house.specs.Inner.Whole.{PricedWhole}
use Rattle.house.proofs.FileSmall.{place_short}
use Rattle.note_front.proofs.HouseFront.{front-is, front_fits}
use Rattle.pieces.proofs.Puts.{put_as}
use Rattle.file_writer.proofs.Filing.{Ready, Asked, begun, goes_on, all-written, asked, list-bytes, front-room}
use Rattle.file_writer.proofs.write_file.Goals as goal
use Rattle.file_writer.proofs.write_file.Goals.{In-loop-l, Start}

-- the contents handed in
abbrev contents : Start → Contents
contents a = contents_in a.args.c

head : (a : Start) → HeadOk (contents a)
head a = contents-head (contents a) a.requires.0

-- what the loop goes by, where the output has as much room as it was lent with
ready : {c : Contents} {p : Price} {reader : FieldNormReader} {tops : List ℕ} (out old : List ℕ) → contents_refusal c ≡ 0 → PricedWhole c p tops
    → length (house_file c) ≤ length out → reader ≡ reader_of c (eqb c.kind 0) → length old ≡ length out → Ready c reader tops old
ready out old ok priced room e kept = record { ok = ok; reader-is = e; tops_are = priced.tops_are; room = omega arith }

pub write_front-requires : goal.write_front-requires
write_front-requires c =
    let g = c.args in
    front_fits g.c.head g.c.norms.now g.c.weights.now g.c.counts.now g.c.docs.now g.c.freqs.now g.p.postings
    c.requires.1.postings-are (head (goal.at.write_front-requires c).Start) (front-room (contents (goal.at.write_front-requires c).Start) c.requires.2)

pub reader_of-reader-requires : goal.reader_of-reader-requires
reader_of-reader-requires c = (head (goal.at.reader_of-reader-requires c).Start).code_in

pub overflow_mul-place : goal.overflow_mul-place
overflow_mul-place c = let a = (goal.at.overflow_mul-place c).Start in omega (arith, (head a).few-lists)

pub overflow_add-place : goal.overflow_add-place
overflow_add-place c = let a = (goal.at.overflow_add-place c).Start in omega (arith, (head a).few-lists)

pub overflow_add-place-2 : goal.overflow_add-place-2
overflow_add-place-2 c = let a = (goal.at.overflow_add-place-2 c).Start in omega (arith, place_short (contents a) (head a) 0 (omega arith))

pub loop-l-init : goal.loop-l-init
loop-l-init c = begun _ _ refl

-- a turn of the loop
ready-in : (i : In-loop-l) → Ready (contents_in i.args.c) i.reader_of-reader.result i.args.tops.now i.write_front.new.out
ready-in i =
    let g = i.args.c in
    ready _ _ i.requires.0 i.requires.1 i.requires.2
    (i.reader_of-reader.ensures g.norms.now g.weights.now g.counts.now g.docs.now g.freqs.now) i.write_front.ensures.written.long

list-asked : (i : In-loop-l) → let g = i.args in let l = i.loop-l.l in
    Asked (contents_in g.c) i.reader_of-reader.result g.tops.now i.loop-l.out i.loop-l.place i.loop-l.from
    i.loop-l.start (get_or g.c.counts.now l 0)
list-asked i =
    asked (ready-in i) i.loop-l.invariant i.loop-l-test.true refl

pub write_list-place-requires : goal.write_list-place-requires
write_list-place-requires c =
    let q = list-asked (goal.at.write_list-place-requires c).In-loop-l in
    (q.sound, q.docs-in, q.freqs-in, q.tops-in, q.few, q.room)

pub overflow_add-from : goal.overflow_add-from
overflow_add-from c =
    let a = (goal.at.overflow_add-from c).Start in
    omega (arith, (list-asked (goal.at.overflow_add-from c).In-loop-l).docs-in, (head a).docs-long, postings-few (contents a) (head a))

pub overflow_add-start : goal.overflow_add-start
overflow_add-start c = omega (arith, (list-asked (goal.at.overflow_add-start c).In-loop-l).tops-in.room)

pub loop-l-preserved : goal.loop-l-preserved
loop-l-preserved c =
    let F = c.loop-l.invariant in
    let R = ready-in (goal.at.loop-l-preserved c).In-loop-l in
    goes_on (contents_in c.args.c) F c.loop-l-test.true (list-bytes R F c.loop-l-test.true refl) c.write_list-place.ensures.1 c.write_list-place.ensures.0
    refl refl refl

pub shape_of-out : goal.shape_of-out
shape_of-out c = c.loop-l.invariant.put.written.long ∙ c.write_front.ensures.written.long

pub returns : goal.returns
returns c =
    let a = (goal.at.returns c).Start in
    let g = c.args in
    let e = front-is g.c.head g.c.norms.now g.c.weights.now g.c.counts.now g.c.docs.now g.c.freqs.now g.p.postings c.requires.1.postings-are in
    all-written (contents a) c.loop-l.invariant c.loop-l-test.false (put_as c.write_front.ensures e)
