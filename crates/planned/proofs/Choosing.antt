-- Which boundaries are chosen: none in the cases of one range, else those of the walk; and the plan of what is marked.
-- Assumes nothing.
use Prim.Native.Nat.{ℕ, ◌<◌, ◌≤◌, ◌^◌}
use native.Mathlib.Omega.{arith}
use native.Mathlib.Nat.{eq-zero-or-pos}
use mathlib.Core.Path.{◌≡◌, refl, sym, ap, ◌∙◌}
use mathlib.Core.Logic.{inl, inr}
use mathlib.Core.Bool.{Bool, true, false, ◌||◌, true≢false}
use mathlib.Core.List.{List}
use lib.ListN.{length}
use lib.Dec.{leb, eqb}
use borrow.Author.Tests.{le-leb, lt-leb, eq-eqb, ne_eqb, leb-true, leb-false}
use Rattle.base.specs.Outcome.{reported, lent, written_to}
use Rattle.base.specs.SortLaws.{decided}
use Rattle.base.specs.declared.Written.{Written}
use Rattle.key.specs.Order.{Key}
use Rattle.records.specs.Values.{Anchors}
use Rattle.records.specs.Layouts.{plan}
use Rattle.manifest.specs.Checks.{total}
use Rattle.key_rows.specs.Rows.{Rows}
use Rattle.key_rows.proofs.RowLaws.{rows_none}
use Rattle.subcompaction.specs.Boundaries.{target, unsplit, prepared, boundaries, chosen, select_boundaries}
use Rattle.planned.proofs.Ordered.{sorted_rows, sorted_room}
use Rattle.planned.specs.Marks.{goal_of, marked_keys, Marked, plan_bytes}

or_true : (a : Bool) → (a || true) ≡ true
or_true true = refl
or_true false = refl

module _ (parts goal bytes : ℕ) where
  unsplit_parts : parts ≤ 1 → unsplit parts goal bytes ≡ true
  unfolding unsplit
  unsplit_parts h = rw (le-leb parts 1 h)

  unsplit_none : goal ≡ 0 → unsplit parts goal bytes ≡ true
  unfolding unsplit
  unsplit_none z = rw (eq-eqb goal 0 z, or_true (leb parts 1))

  unsplit_wide : bytes ≤ goal → unsplit parts goal bytes ≡ true
  unfolding unsplit
  unsplit_wide h = rw (le-leb bytes goal h) (or_true (leb parts 1 || eqb goal 0))

  split : 1 < parts → (goal ≡ 0 → ⊥) → goal < bytes → unsplit parts goal bytes ≡ false
  unfolding unsplit
  split h z l = rw (lt-leb parts 1 h, ne_eqb goal 0 z, lt-leb bytes goal l)

-- ---- goal_bytes
module _ (parts least bytes : ℕ) where
  one : unsplit parts (target parts least bytes) bytes ≡ true → 0 ≡ goal_of parts least bytes
  unfolding goal_of
  one e = rw e

  pub one_part : parts ≤ 1 → 0 ≡ goal_of parts least bytes
  one_part h = one (unsplit_parts parts (target parts least bytes) bytes h)

  module _ {goal : ℕ} (g : goal ≡ target parts least bytes) where
    pub wide_target : bytes ≤ goal → 0 ≡ goal_of parts least bytes
    wide_target h = one (unsplit_wide parts (target parts least bytes) bytes (omega (arith, g)))

    not_one : unsplit parts (target parts least bytes) bytes ≡ false → goal ≡ goal_of parts least bytes
    unfolding goal_of
    not_one e = rw e g

    pub narrow_target : 1 < parts → goal < bytes → goal ≡ goal_of parts least bytes
    narrow_target h l = elim (eq-zero-or-pos goal) [
      | inl z ↦ z ∙ one (unsplit_none parts (target parts least bytes) bytes (sym g ∙ z))
      | inr z ↦ not_one (split parts (target parts least bytes) bytes h (λ q. omega (arith, g)) (omega (arith, g)))
    ]

pub some_part : {parts : ℕ} → 1 < parts → 0 < parts
some_part h = omega arith

pub ruleset goal_exits = (one_part, wide_target, narrow_target, some_part)

-- ---- choose
-- there is a goal where more than one range may be chosen
pub record Splits (parts least bytes goal : ℕ) : Type 0 where
  pub is : goal ≡ target parts least bytes
  pub not_one : unsplit parts goal bytes ≡ false

splits : (parts least bytes : ℕ) {goal : ℕ} → goal ≡ goal_of parts least bytes → (goal ≡ 0 → ⊥) → Splits parts least bytes goal
unfolding goal_of
splits parts least bytes {goal} g z = elim (decided (unsplit parts (target parts least bytes) bytes)) [
  | inl e ↦ absurd (z (g ∙ rw e))
  | inr e ↦ let q : goal ≡ target parts least bytes = g ∙ rw e in record { is = q; not_one = rw q e }
]

no_goal : (parts least bytes : ℕ) → 0 ≡ goal_of parts least bytes → unsplit parts (target parts least bytes) bytes ≡ true
unfolding goal_of
no_goal parts least bytes g = elim (decided (unsplit parts (target parts least bytes) bytes)) [
  | inl e ↦ e
  | inr e ↦ unsplit_none parts (target parts least bytes) bytes (sym (g ∙ rw e))
]

module _ {parts least bytes goal : ℕ} (p : Splits parts least bytes goal) where
  several : 1 < parts
  several = elim (decided (leb parts 1)) [
    | inl h ↦ absurd (true≢false (sym (unsplit_parts parts goal bytes (leb-true parts 1 h)) ∙ p.not_one))
    | inr h ↦ leb-false parts 1 h
  ]

  below : goal < bytes
  below = elim (decided (leb bytes goal)) [
    | inl h ↦ absurd (true≢false (sym (unsplit_wide parts goal bytes (leb-true bytes goal h)) ∙ p.not_one))
    | inr h ↦ leb-false bytes goal h
  ]

module _ (s marks : List ℕ) (parts least : ℕ) (as' : Anchors) {goal bytes : ℕ} (e : bytes ≡ total as') (g : goal ≡ goal_of parts least bytes) where
  goal_is : goal ≡ goal_of parts least (total as')
  goal_is = g ∙ ap (goal_of parts least) e

  pub none_chosen : goal ≡ 0 → Marked s marks 0 (chosen parts least as')
  unfolding chosen
  none_chosen z =
      let u = no_goal parts least (total as') (sym z ∙ goal_is) in
      record { few = omega arith; there = rows_none s marks; keys = rw u }

  module _ (z : goal ≡ 0 → ⊥) where
    several_parts : Splits parts least (total as') goal
    several_parts = splits parts least (total as') goal_is z

    pub part_wanted : 0 < parts
    part_wanted = omega (arith, several several_parts)

    pub goal_below : bytes < 2 ^ 63 → goal < 2 ^ 63
    goal_below l = omega (arith, below several_parts, e)

    chosen_is : boundaries parts goal (prepared as') ≡ chosen parts least as'
    unfolding chosen
    chosen_is = rw (← several_parts.is, several_parts.not_one)

    pub some_chosen : {count : ℕ} → Marked s marks count (boundaries parts goal (prepared as')) → Marked s marks count (chosen parts least as')
    some_chosen m = record { few = m.few; there = m.there; keys = m.keys ∙ chosen_is }

pub total_below : {bytes m : ℕ} → bytes ≡ m → bytes < 2 ^ 63 → m < 2 ^ 63
total_below e l = omega arith

pub ruleset choose_exits = (none_chosen, part_wanted, goal_below, some_chosen, total_below, sorted_rows, sorted_room)

-- ---- planned
pub marks_few : {s marks : List ℕ} {count : ℕ} {ks : List Key} → Marked s marks count ks → count ≤ 63
marks_few m = m.few

pub marks_there : {s marks : List ℕ} {count : ℕ} {ks : List Key} → Marked s marks count ks → Rows s marks count
marks_there m = m.there

module _ {s marks : List ℕ} {count : ℕ} (parts least : ℕ) (as' : Anchors) (m : Marked s marks count (chosen parts least as')) where
  plan_is : plan_bytes (marked_keys s marks count) ≡ plan.write (select_boundaries parts least as')
  unfolding select_boundaries
  plan_is = ap plan_bytes m.keys

  pub plan_reported : (room : ℕ) {r : Written} → r ≡ reported (written_to room (plan_bytes (marked_keys s marks count))) → r ≡ reported (written_to room (plan.write (select_boundaries parts least as')))
  plan_reported room e = e ∙ ap (λ l. reported (written_to room l)) plan_is

  pub plan_lent : (d : List ℕ) {f : List ℕ} → f ≡ lent d (written_to (length d) (plan_bytes (marked_keys s marks count))) → f ≡ lent d (written_to (length d) (plan.write (select_boundaries parts least as')))
  plan_lent d e = e ∙ ap (λ l. lent d (written_to (length d) l)) plan_is

pub ruleset planned_exits = (marks_few, marks_there, plan_reported, plan_lent)
