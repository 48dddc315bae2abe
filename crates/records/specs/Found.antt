-- Whether a reader found something, and the values that it found.
use Rattle.std.specs.Prelude.{List, []}
use Rattle.format.specs.Got.{Got, got, stop}
pub use Rattle.format.specs.Got.{is_got}

abbrev pub values_of : {A : Type 0} → Got (List A) → List A
values_of (got bs r) = bs
values_of (stop k) = []
