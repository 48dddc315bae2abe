-- What the code's marks say, and what it writes for them. A mark is the place of a boundary's key in the bytes s.
use Rattle.std.specs.Prelude.{ℕ, ◌≤◌, ◌≡◌, List, [], ◌∷◌, ◌++◌, map, length, take, ltb}
use Rattle.base.specs.Outcome.{Outcome, written_to}
use Rattle.base.specs.Pick.{pick}
use Rattle.key.specs.Order.{Key}
use Rattle.comparable_range.specs.Range.{unbounded}
use Rattle.comparable_range.specs.declared.Kind.{Kind}
use Rattle.comparable_range.specs.declared.Kind.TheVariants.{Unbounded, Included, Excluded}
use Rattle.format.specs.Key.{write_key}
use Rattle.format.specs.Range.{head_byte}
use Rattle.records.specs.Layouts.{plan}
use Rattle.key_rows.specs.Rows.{key_there, Rows}
use Rattle.subcompaction.specs.Boundaries.{target, unsplit, ranges_from, select_boundaries}
use Rattle.subcompaction.specs.Tables.{anchors_in}

-- the bytes that a range is to have, or 0 where one range results
unfoldable pub goal_of : ℕ → ℕ → ℕ → ℕ
goal_of parts least bytes =
    let goal = target parts least bytes in
    pick (unsplit parts goal bytes) 0 goal

-- the keys at the first n marks
abbrev pub marked_keys : List ℕ → List ℕ → ℕ → List Key
marked_keys s marks n = map (key_there s) (take n marks)

-- so many marks, where these keys stand
pub record Marked (s marks : List ℕ) (n : ℕ) (ks : List Key) : Type 0 where
  pub few : n ≤ 63
  pub there : Rows s marks n
  pub keys : marked_keys s marks n ≡ ks

-- how a range ends with so many keys left: at the next one
abbrev pub end_kind : ℕ → Kind
end_kind left = pick (ltb 0 left) Excluded Unbounded

-- where one range ends and the next starts: the key, the head of the next, the key
unfoldable pub joint : Key → ℕ → List ℕ
joint k left = write_key k ++ (head_byte Included (end_kind left) ∷ write_key k)

-- so at each of the keys
unfoldable pub joints : List Key → List ℕ
joints [] = []
joints (k ∷ ks) = joint k (length ks) ++ joints ks

abbrev pub plan_bytes : List Key → List ℕ
plan_bytes ks = plan.write (ranges_from unbounded ks)

-- what is written in so much room: the plan of the anchors of the first n rows
abbrev pub plan_to : ℕ → ℕ → ℕ → List ℕ → List ℕ → List ℕ → ℕ → Outcome (List ℕ)
plan_to room parts least s keys bytes n = written_to room (plan.write (select_boundaries parts least (anchors_in s keys bytes n)))
