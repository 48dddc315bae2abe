-- `visible_size::size::round_away` meets its contract: omega reads what it answers, so any sum that is as great would do.
-- Assumes nothing.
use Rattle.visible_size.proofs.Twice.{exits, answer}
use Rattle.std.proofs.Common.{arith, rules}
use Rattle.visible_size.proofs.size.round_away.Goals as goal

-- src/size.rt:15:9
pub truncating_f64_to_u64-twice-requires : goal.truncating_f64_to_u64-twice-requires
truncating_f64_to_u64-twice-requires c = search (rules, exits)

-- src/size.rt:11:1
pub returns : goal.returns
returns c =
    omega (
      arith,
      answer c.args.x (search rules) (search rules) (search rules) c.truncating_f64_to_u64-twice.ensures,
    )
