-- The number of a refused image's stop, or the one given for an accepted image.
use Rattle.std.specs.Prelude.{ℕ}
use Rattle.bilqarush.specs.declared.images.Checked.{Checked}
use Rattle.bilqarush.specs.declared.images.Checked.TheVariants.{Accepted, Stop}

abbrev pub stop_or : Checked → ℕ → ℕ
stop_or Accepted other = other
stop_or (Stop n) other = n
