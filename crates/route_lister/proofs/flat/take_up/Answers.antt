-- `route_lister::take_up` meets its contract. The loop's invariant is `Course`: what is done, and then what the open choices give, is all that is to be found. What
-- falls is twice the walks that the budget still allows, and the open choices: a choice that opens a walk puts at most two.
use mathlib.Core.Path.{◌≡◌, refl, sym, ◌∙◌}
use mathlib.Core.Bool.{Bool, true, false, ◌&&◌}
use mathlib.Core.Logic.{◌⊎◌, inl, inr}
use Prim.Native.Nat.{ℕ, ◌≤◌, ◌<◌}
use native.Mathlib.Omega.{arith}
use lib.Dec.{leb, ltb}
use borrow.Author.Tests.{ltb-true, ltb-false, leb-true, leb-false}
use Rattle.verdict.proofs.Orders.{and-true}
use Rattle.route_walks.specs.Walks.{walks}
use Rattle.route_lister.proofs.Course.{goes, course_starts, course_ends, fewer, cut, cut_marked, countable, course_shut, course_more, course_falls}
use Rattle.route_lister.proofs.flat.take_up.Goals as goal

-- what the loop's test says
some_open : (waiting walks budget : ℕ) → (ltb 0 waiting && leb walks budget) ≡ true → (0 < waiting) × (walks ≤ budget)
some_open waiting walks budget e = let a = and-true (ltb 0 waiting) _ e in (ltb-true 0 waiting a.0, leb-true walks budget a.1)

none_open : (waiting walks budget : ℕ) → (ltb 0 waiting && leb walks budget) ≡ false → (waiting ≡ 0) ⊎ (budget < walks)
none_open waiting walks budget e = go (ltb 0 waiting) refl e
  where
    go : (b : Bool) → ltb 0 waiting ≡ b → (b && leb walks budget) ≡ false → (waiting ≡ 0) ⊎ (budget < walks)
    go true w h = inr (leb-false walks budget h)
    go false w h = inl (omega (arith, ltb-false 0 waiting w))

pub put_choice-waiting-requires : goal.put_choice-waiting-requires
put_choice-waiting-requires c = (omega arith, omega arith, c.requires.3)

pub loop-waiting-init : goal.loop-waiting-init
loop-waiting-init c = course_starts _ _ _ _ _ _ _ _ _ _ _ _ c.requires.0 c.requires.1 c.requires.2 c.put_choice-waiting.ensures

pub overflow_sub-waiting : goal.overflow_sub-waiting
overflow_sub-waiting c = let l = c.loop-waiting in
    let q = some_open l.waiting l.t.walks c.args.budget c.loop-waiting-test.true in
    q.0

pub choice_above-choice-requires : goal.choice_above-choice-requires
choice_above-choice-requires c = let l = c.loop-waiting in
    let q = some_open l.waiting l.t.walks c.args.budget c.loop-waiting-test.true in
    omega (arith, fewer _ _ _ _ _ _ _ _ _ _ _ _ _ _ l.invariant q.0 _ refl _ refl, cut _ _ _ _ _ _ _ _ _ _ _ _ _ _ l.invariant q.0 _ refl _ refl, l.invariant.short, l.invariant.bounds.most)

pub goes_on-requires : goal.goes_on-requires
goes_on-requires c = let l = c.loop-waiting in
    let q = some_open l.waiting l.t.walks c.args.budget c.loop-waiting-test.true in
    let k = c.choice_above-choice in
    (omega (arith, cut _ _ _ _ _ _ _ _ _ _ _ _ _ _ l.invariant q.0 _ refl _ k.ensures, l.invariant.short, l.invariant.bounds.most, l.invariant.long), cut_marked _ _ _ _ _ _ _ _ _ _ _ _ _ _ l.invariant q.0 _ refl _ k.ensures)

pub overflow_sub-from : goal.overflow_sub-from
overflow_sub-from c = let l = c.loop-waiting in
    let q = some_open l.waiting l.t.walks c.args.budget c.loop-waiting-test.true in
    let k = c.choice_above-choice in
    omega (arith, fewer _ _ _ _ _ _ _ _ _ _ _ _ _ _ l.invariant q.0 _ refl _ k.ensures)

pub bounds-path-n : goal.bounds-path-n
bounds-path-n c = let l = c.loop-waiting in
    let q = some_open l.waiting l.t.walks c.args.budget c.loop-waiting-test.true in
    let k = c.choice_above-choice in
    omega (arith, cut _ _ _ _ _ _ _ _ _ _ _ _ _ _ l.invariant q.0 _ refl _ k.ensures, l.invariant.short, l.invariant.bounds.most, l.invariant.long)

pub push-requires : goal.push-requires
push-requires c = let l = c.loop-waiting in
    let q = some_open l.waiting l.t.walks c.args.budget c.loop-waiting-test.true in
    let k = c.choice_above-choice in
    let g = goes _ _ _ _ (sym c.goes_on.ensures ∙ c.if-goes_on.true) in
    (omega (arith, g.allowed, l.invariant.bounds.most, l.invariant.long), omega (arith, g.allowed, l.invariant.bounds.most), cut_marked _ _ _ _ _ _ _ _ _ _ _ _ _ _ l.invariant q.0 _ refl _ k.ensures)

pub overflow_add-n : goal.overflow_add-n
overflow_add-n c = let l = c.loop-waiting in
    let q = some_open l.waiting l.t.walks c.args.budget c.loop-waiting-test.true in
    let k = c.choice_above-choice in
    omega (arith, cut _ _ _ _ _ _ _ _ _ _ _ _ _ _ l.invariant q.0 _ refl _ k.ensures, l.invariant.short, l.invariant.bounds.most)

pub count-t-requires : goal.count-t-requires
count-t-requires c = let l = c.loop-waiting in
    let q = some_open l.waiting l.t.walks c.args.budget c.loop-waiting-test.true in
    let k = c.choice_above-choice in
    let g = goes _ _ _ _ (sym c.goes_on.ensures ∙ c.if-goes_on.true) in
    countable _ _ _ _ _ _ _ _ _ _ _ _ _ _ l.invariant q.0 _ refl _ k.ensures g _ c.push.ensures.put

pub put_exits-waiting-requires : goal.put_exits-waiting-requires
put_exits-waiting-requires c = let l = c.loop-waiting in
    let q = some_open l.waiting l.t.walks c.args.budget c.loop-waiting-test.true in
    let k = c.choice_above-choice in
    let g = goes _ _ _ _ (sym c.goes_on.ensures ∙ c.if-goes_on.true) in
    (omega (arith, fewer _ _ _ _ _ _ _ _ _ _ _ _ _ _ l.invariant q.0 _ refl _ k.ensures, g.allowed, l.invariant.bounds.most), omega (arith, g.allowed, l.invariant.bounds.most), l.invariant.sized)

pub loop-waiting-smaller-then-goes_on : goal.loop-waiting-smaller-then-goes_on
loop-waiting-smaller-then-goes_on c = let l = c.loop-waiting in
    let q = some_open l.waiting l.t.walks c.args.budget c.loop-waiting-test.true in
    let k = c.choice_above-choice in
    let g = goes _ _ _ _ (sym c.goes_on.ensures ∙ c.if-goes_on.true) in
    let p = c.push in
    let n = c.count-t in
    course_falls _ _ _ _ _ _ _ _ _ _ _ _ _ _ l.invariant q.0 _ refl _ k.ensures g q.1 _ _ c.push.ensures.put c.push.ensures.marked _ c.object_in-o.ensures _ _ c.count-t.ensures.counted c.count-t.ensures.stored _ _ _ _ c.put_exits-waiting.ensures

pub loop-waiting-preserved-then-goes_on : goal.loop-waiting-preserved-then-goes_on
loop-waiting-preserved-then-goes_on c = let l = c.loop-waiting in
    let q = some_open l.waiting l.t.walks c.args.budget c.loop-waiting-test.true in
    let k = c.choice_above-choice in
    let g = goes _ _ _ _ (sym c.goes_on.ensures ∙ c.if-goes_on.true) in
    let p = c.push in
    let n = c.count-t in
    course_more _ _ _ _ _ _ _ _ _ _ _ _ _ _ l.invariant q.0 _ refl _ k.ensures g q.1 _ _ c.push.ensures.put c.push.ensures.marked _ c.object_in-o.ensures _ _ c.count-t.ensures.counted c.count-t.ensures.stored _ _ _ _ refl c.count-t.auto.out c.put_exits-waiting.ensures

pub loop-waiting-smaller : goal.loop-waiting-smaller
loop-waiting-smaller c = let l = c.loop-waiting in
    let q = some_open l.waiting l.t.walks c.args.budget c.loop-waiting-test.true in
    let k = c.choice_above-choice in
    omega (arith, q.0)

pub loop-waiting-preserved : goal.loop-waiting-preserved
loop-waiting-preserved c = let l = c.loop-waiting in
    let q = some_open l.waiting l.t.walks c.args.budget c.loop-waiting-test.true in
    let k = c.choice_above-choice in
    course_shut _ _ _ _ _ _ _ _ _ _ _ _ _ _ l.invariant q.0 _ refl _ k.ensures (sym c.goes_on.ensures ∙ c.if-goes_on.false)

pub shape_of-path : goal.shape_of-path
shape_of-path c = c.loop-waiting.invariant.same_path

pub shape_of-out : goal.shape_of-out
shape_of-out c = c.loop-waiting.invariant.same_out

pub returns : goal.returns
returns c = let l = c.loop-waiting in
    course_ends _ _ _ _ _ _ _ _ _ _ _ _ _ _ l.invariant (none_open l.waiting l.t.walks c.args.budget c.loop-waiting-test.false)
