-- What the code finds of a view that passed the checks.
use Rattle.std.specs.Prelude.{◌≡◌, ℕ, ◌≤◌, ◌^◌}
use Rattle.records.specs.Values.{View}
use Rattle.visible_size.specs.Sizes.{estimate_visible_size}

-- a view's size, at most 2^53
pub record ViewSized (v : View) (r : ℕ) : Type 0 where
  pub meaning : r ≡ estimate_visible_size v
  pub most : r ≤ 2 ^ 53
