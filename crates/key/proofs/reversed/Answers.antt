-- `key::reversed` meets its contract.
-- Assumes nothing.
use mathlib.Core.Path.{◌∙◌}
use Rattle.key.proofs.Digits.{eight_reversed}
use Rattle.key.proofs.reversed.Goals as goal

pub returns : goal.returns
returns c =
    record {
      value = c.from_le_bytes.ensures ∙ eight_reversed c.args.a.now c.args.i c.requires;
      bytes = record { below = λ k. (c.type_inv.a k).fits };
    }
