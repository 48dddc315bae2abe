-- What the code of a call that writes into a lent buffer knows, as its outcome has it.
use Rattle.std.specs.Prelude.{ℕ, ◌<◌, ◌≤◌, ◌≡◌, List, length}
use Rattle.std.proofs.Common.{arith, sym, ap, ◌∙◌, le-leb}
use Rattle.std.proofs.lemmas.Bool.{lt-leb}
use Rattle.base.specs.Outcome.{stop, answer, over, lent, written_to, reported}
use Rattle.base.specs.declared.Written.TheVariants.{Wrote, Stop}

module _ (d b : List ℕ) {n : ℕ} (e : n ≡ length b) where
  no_room : length d < n → written_to (length d) b ≡ stop 16
  no_room h = rw (lt-leb (length b) (length d) (omega arith))

  room : n ≤ length d → written_to (length d) b ≡ answer b
  room h = rw (le-leb (length b) (length d) (omega arith))

  pub stops_16 : length d < n → Stop 16 ≡ reported (written_to (length d) b)
  stops_16 h = sym (ap reported (no_room h))

  pub keeps : length d < n → d ≡ lent d (written_to (length d) b)
  keeps h = sym (ap (lent d) (no_room h))

  pub wrote : n ≤ length d → Wrote n ≡ reported (written_to (length d) b)
  wrote h = ap Wrote e ∙ sym (ap reported (room h))

  pub stands : {f : List ℕ} → n ≤ length d → f ≡ over b d → f ≡ lent d (written_to (length d) b)
  stands h q = q ∙ sym (ap (lent d) (room h))

pub ruleset written_exits = (stops_16, keeps, wrote, stands)
