use mathlib.Core.Path.{◌∙◌, sym}
use native.Mathlib.Omega.{arith}
use lib.ListN.{length}
use Rattle.std.proofs.SliceLists.{length_more}
use Rattle.std.proofs.lemmas.Slice.Zip.{zip_turn, zip_end}
use Rattle.record.specs.Place.{sent}
use Rattle.record.proofs.Orders.{level_none, level_next, level_apart, level_end}
use Rattle.record.proofs.Sent.{sent_length}
use Rattle.record.proofs.place.sent_order.Goals as goal

pub loop-byte-init : goal.loop-byte-init
loop-byte-init c = level_none _ _

pub loop-byte-preserved : goal.loop-byte-preserved
loop-byte-preserved c =
    let a = c.args in
    let t = zip_turn (sent a.rec.now a.place) (sent a.other.now a.there) c.loop-byte.yielded c.into_iter-byte-iterator.result c.loop-byte.byte-iterator c.next.new.self c.next.result (cc) (cc) c.loop-byte.yielded_by _ c.in-Some.is c.next.ensures.steps in
    rw (length_more _ _)
    (level_next (sent a.rec.now a.place) (sent a.other.now a.there) _ c.loop-byte.invariant t.0 t.1 c.in-Some.byte.now c.in-Some.beside.now (t.2 0) (t.3 0) c.cmp.result c.cmp.ensures c.in-Equal.is)

pub returns-in_default : goal.returns-in_default
returns-in_default c =
    let a = c.args in
    let t = zip_turn (sent a.rec.now a.place) (sent a.other.now a.there) c.loop-byte.yielded c.into_iter-byte-iterator.result c.loop-byte.byte-iterator c.next.new.self c.next.result (cc) (cc) c.loop-byte.yielded_by _ c.in-Some.is c.next.ensures.steps in
    level_apart (sent a.rec.now a.place) (sent a.other.now a.there) _ c.loop-byte.invariant t.0 t.1 c.in-Some.byte.now c.in-Some.beside.now (t.2 0) (t.3 0) c.cmp.result c.cmp.ensures c.in_default.not-Equal

pub returns : goal.returns
returns c =
    let a = c.args in
    let p = c.requires in
    let e = zip_end (sent a.rec.now a.place) (sent a.other.now a.there) c.loop-byte.yielded c.into_iter-byte-iterator.result c.loop-byte.byte-iterator c.next.new.self c.next.result (cc) (cc) c.loop-byte.yielded_by c.in-None.is c.next.ensures.steps in
    level_end _ _ _ c.loop-byte.invariant (length c.sent-bytes.result.now) (length c.sent-others.result.now)
    (sent_length _ _ p.0 ∙ sym c.sent-bytes.ensures.1) (sent_length _ _ p.1 ∙ sym c.sent-others.ensures.1)
    (omega (arith, e, sent_length _ _ p.0, sent_length _ _ p.1, c.sent-bytes.ensures.1, c.sent-others.ensures.1))
    (omega (arith, e, sent_length _ _ p.0, sent_length _ _ p.1, c.sent-bytes.ensures.1, c.sent-others.ensures.1))
    _ c.cmp-2.ensures
