-- The bytes of a plan: its count, the head of its first range, and then at each key the end of one range and the start of the
-- next.
-- Assumes nothing.
use Prim.Native.Nat.{ℕ, suc, ◌+◌, ◌*◌, ◌<◌, ◌≤◌}
use native.Mathlib.Omega.{arith}
use native.Mathlib.Nat.{mod-eq_of_lt}
use mathlib.Core.Path.{◌≡◌, refl, sym, ap, ◌∙◌}
use mathlib.Core.List.{List, [], ◌∷◌, ◌++◌, append_assoc, append-nil}
use lib.ListN.{length, length-append}
use borrow.Author.Tests.{lt-ltb}
use Rattle.key.specs.Order.{Key}
use Rattle.comparable_range.specs.Range.{Bound, unbounded, included}
use Rattle.comparable_range.specs.declared.Kind.TheVariants.{Unbounded, Included, Excluded}
use Rattle.format.specs.Number.{write_number}
use Rattle.format.specs.Key.{write_key}
use Rattle.format.specs.Range.{head_byte, kind_of_bound, write_bound, write_range}
use Rattle.format.proofs.Layouts.{key_length}
use Rattle.records.specs.Form.{write_many}
use Rattle.records.specs.Layouts.{plan}
use Rattle.subcompaction.specs.Boundaries.{ranges_from}
use Rattle.planned.specs.Marks.{end_kind, joint, joints, plan_bytes}

ranges_bytes_lem : (start : Bound) (ks : List Key) → write_many write_range (ranges_from start ks) ≡ head_byte (kind_of_bound start) (end_kind (length ks)) ∷ (write_bound start ++ joints ks)
unfolding joints joint ranges_from write_many write_range write_bound
ranges_bytes_lem start [] = ap (λ l. head_byte (kind_of_bound start) Unbounded ∷ l) (append-nil (write_bound start ++ []))
ranges_bytes_lem start (k ∷ ks) =
    let h = head_byte Included (end_kind (length ks)) in
    let z = lt-ltb 0 (suc (length ks)) (omega arith) in
    rw (z, ranges_bytes_lem (included k) ks)
    (ap (λ l. head_byte (kind_of_bound start) Excluded ∷ l)
    (append_assoc (write_bound start) (write_key k) (h ∷ (write_key k ++ joints ks))
    ∙ ap (λ l. write_bound start ++ l) (sym (append_assoc (write_key k) (h ∷ write_key k) (joints ks)))))

ranges_count : (start : Bound) (ks : List Key) → length (ranges_from start ks) ≡ suc (length ks)
unfolding ranges_from
ranges_count start [] = refl
ranges_count start (k ∷ ks) = ap suc (ranges_count (included k) ks)

one_byte : (v : ℕ) → v < 256 → write_number 1 v ≡ v ∷ []
unfolding write_number
one_byte v h = rw (mod-eq_of_lt h)

pub plan_bytes_lem : (ks : List Key) → length ks ≤ 63 → plan_bytes ks ≡ (length ks + 1) ∷ head_byte Unbounded (end_kind (length ks)) ∷ joints ks
unfolding plan write_bound
plan_bytes_lem ks h =
    let c = ranges_count unbounded ks in
    let e : length (ranges_from unbounded ks) ≡ length ks + 1 = omega (arith, c) in
    rw (ranges_bytes_lem unbounded ks, e, one_byte (length ks + 1) (omega arith))

pub joint_length : (k : Key) (left : ℕ) → length (joint k left) ≡ 5 + 2 * length k
unfolding joint
joint_length k left = rw (length-append, key_length k) (omega arith)

pub joints_length : (k : Key) (ks : List Key) → length (joints (k ∷ ks)) ≡ 5 + 2 * length k + length (joints ks)
unfolding joints
joints_length k ks = rw (length-append, joint_length k (length ks))

pub plan_length : (ks : List Key) → length ks ≤ 63 → length (plan_bytes ks) ≡ 2 + length (joints ks)
plan_length ks h = ap length (plan_bytes_lem ks h) ∙ omega arith
