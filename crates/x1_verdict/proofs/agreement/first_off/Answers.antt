-- `x1_verdict::agreement::first_off` meets its contract. Each way out is a law of Tracks.
use native.Mathlib.Omega.{arith}
use Rattle.x1_verdict.proofs.Tracks.{off_first, off_later, off_last, off_none}
use Rattle.x1_verdict.proofs.agreement.first_off.Goals as goal

pub point_obeys-requires : goal.point_obeys-requires
point_obeys-requires c = let frame = c.frame_of-t.ensures in
    (frame.first, frame.last)

pub returns-then-not-point_obeys : goal.returns-then-not-point_obeys
returns-then-not-point_obeys c = let first = c.point_obeys in
    let a = c.args in
    off_first a.f.now a.size a.e c.requires c.frame_of-t.result.first c.frame_of-t.ensures.first first.result first.ensures c.if-not-point_obeys.true

pub returns-then-p-t : goal.returns-then-p-t
returns-then-p-t c = let a = c.args in
    off_later a.f.now a.size a.e c.requires c.frame_of-t.result.first c.frame_of-t.ensures.first c.point_obeys.result c.point_obeys.ensures c.if-not-point_obeys.false
    c.later_off-p.result c.later_off-p.ensures (omega (arith, c.if-p-t.true, c.frame_of-t.ensures.last))

pub point_obeys-requires-2 : goal.point_obeys-requires-2
point_obeys-requires-2 c = let frame = c.frame_of-t.ensures in
    (frame.first, frame.last)

pub returns-then-not-point_obeys-2 : goal.returns-then-not-point_obeys-2
returns-then-not-point_obeys-2 c = let last = c.point_obeys-2 in
    let a = c.args in
    off_last a.f.now a.size a.e c.requires c.frame_of-t.result.first c.frame_of-t.ensures.first c.point_obeys.result c.point_obeys.ensures c.if-not-point_obeys.false
    c.later_off-p.result c.later_off-p.ensures last.result last.ensures c.if-not-point_obeys-2.true

pub returns : goal.returns
returns c = let last = c.point_obeys-2 in
    let a = c.args in
    off_none a.f.now a.size a.e c.requires c.frame_of-t.result.first c.frame_of-t.ensures.first c.point_obeys.result c.point_obeys.ensures c.if-not-point_obeys.false
    c.later_off-p.result c.later_off-p.ensures last.result last.ensures (omega (arith, c.if-p-t.false, c.frame_of-t.ensures.last)) c.if-not-point_obeys-2.false
