-- `key::word` meets its contract.
-- Assumes nothing.
use mathlib.Core.Path.{◌∙◌}
use Rattle.key.proofs.Digits.{eight}
use Rattle.key.proofs.word.Goals as goal

pub returns : goal.returns
returns c =
    record {
      value = c.from_be_bytes.ensures ∙ eight c.args.a.now c.args.i c.requires;
      bytes = record { below = λ k. (c.type_inv.a k).fits };
    }
