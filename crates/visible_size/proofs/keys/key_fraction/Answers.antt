-- `visible_size::keys::key_fraction` meets its contract: each turn of the loop has the byte at one place and the scale there.
-- Assumes nothing.
use Rattle.std.proofs.Common.{refl, rules}
use lib.Ieee.{nan}
use Rattle.std.proofs.lemmas.Slice.Zip.{zip_turn, zip_end}
use Rattle.visible_size.proofs.Scales.{scales}
use Rattle.visible_size.proofs.KeyNumbers.{begin, pair_more, pairs_read}
use Rattle.visible_size.proofs.keys.key_fraction.Goals as goal

pub loop-byte-init : goal.loop-byte-init
loop-byte-init c = search (rules, begin)

pub loop-byte-preserved : goal.loop-byte-preserved
loop-byte-preserved c =
    let t = zip_turn c.args.part.now scales c.loop-byte.yielded c.into_iter-byte-iterator.result c.loop-byte.byte-iterator c.next.new.self c.next.result (cc) (cc) c.loop-byte.yielded_by _ c.in-Some.is c.next.ensures.steps in
    pair_more c.loop-byte.invariant c.loop-byte.yielded _ refl t.0 t.1 (c.type_inv.part _).fits (t.2 0) c.from.ensures (t.3 nan)

pub returns : goal.returns
returns c =
    let t = zip_end c.args.part.now scales c.loop-byte.yielded c.into_iter-byte-iterator.result c.loop-byte.byte-iterator c.next.new.self c.next.result (cc) (cc) c.loop-byte.yielded_by c.in-None.is c.next.ensures.steps in
    pairs_read c.loop-byte.invariant t
