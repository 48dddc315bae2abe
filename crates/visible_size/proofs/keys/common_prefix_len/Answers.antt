-- `visible_size::keys::common_prefix_len` meets its contract.
-- Assumes nothing.
use Rattle.std.proofs.Common.{rules, tests}
use Rattle.std.proofs.lemmas.Iterator.{YieldsList-from_slice, YieldsList-from_zip}
use Rattle.std.proofs.lemmas.Iterator.Consumers.{count_from_yields_List}
use Rattle.std.proofs.lemmas.Iterator.Search.{YieldsList-from_take_while}
use Rattle.visible_size.proofs.Prefixes.{one_byte, alike}
use Rattle.visible_size.proofs.keys.common_prefix_len.Goals as goal

pub returns : goal.returns
returns c = alike c.args.a.now c.args.b.now (count_from_yields_List c.take_while.result _ c.count.ensures.ran (YieldsList-from_take_while _ one_byte (YieldsList-from_zip (YieldsList-from_slice c.args.a.now (cc)) (YieldsList-from_slice c.args.b.now (cc))) c.take_while.ensures.closure c.take_while.ensures.done (λ x b q k. search (rules, tests))))
