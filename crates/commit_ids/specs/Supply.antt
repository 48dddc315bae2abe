-- What an answer says of the lent supply ids: after a draw, what is left begins ten bytes further on.
use Rattle.std.specs.Prelude.{ℕ, ◌+◌, ◌≤◌, ◌≡◌, List, length, take, drop}
use Rattle.incremental_progress.specs.Draws.{Ten, Drawn, used_up, got, supply}
use Rattle.std.specs.Prelude.{Option, None, Some}

abbrev pub draw_in : List ℕ → Option ℕ → Drawn Ten
draw_in ids (Some p) = got (take 10 (drop p ids)) (supply (drop (p + 10) ids))
draw_in ids None = used_up

abbrev pub DrawInside : List ℕ → Option ℕ → Type 0
DrawInside ids (Some p) = p + 10 ≤ length ids
DrawInside ids None = Unit

pub record DrawFound (ids : List ℕ) (d : Drawn Ten) (r : Option ℕ) : Type 0 where
  pub meaning : draw_in ids r ≡ d
  pub inside : DrawInside ids r
