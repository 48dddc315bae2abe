-- A visible fraction as a call for C tells it: its number, if it is a part.
use Rattle.std.proofs.Math.Option.{Option, none, some}
use Rattle.std.specs.Prelude.{Float}
use Rattle.base.specs.Outcome.{Outcome, stop, answer}
use Rattle.visible_size.specs.declared.VisibleFraction.{VisibleFraction}
use Rattle.visible_size.specs.declared.VisibleFraction.TheVariants.{Whole, Part}

abbrev pub part_of : Outcome VisibleFraction → Outcome (Option Float)
part_of (stop n) = stop n
part_of (answer Whole) = answer none
part_of (answer (Part f)) = answer (some f)
