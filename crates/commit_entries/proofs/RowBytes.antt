-- The bytes of the views that entries become, and how many they are.
-- Assumes nothing.
use Prim.Native.Nat.{ℕ, ◌+◌, ◌-◌}
use native.Mathlib.Omega.{arith}
use mathlib.Core.Path.{◌≡◌, refl, sym, ap, ◌∙◌}
use mathlib.Core.List.{List, ◌++◌}
use lib.ListN.{length, take, drop, length-append, length-drop}
use lib.Seq.{length-take-le, take-take}
use Rattle.comparable_range.specs.Range.{Range, bound_of}
use Rattle.comparable_range.specs.declared.Kind.{Kind}
use Rattle.comparable_range.specs.declared.Kind.TheVariants.{Unbounded, Included, Excluded}
use Rattle.format.specs.Number.{write_number}
use Rattle.format.specs.Range.{bound_in, BoundInside, write_bound, write_range}
use Rattle.format.specs.declared.range.BoundSpan.{BoundSpan}
use Rattle.format.proofs.Layouts.{key_length}
use Rattle.records.specs.Form.{write_if}
use Rattle.records.specs.Values.{Table, View}
use Rattle.records.specs.Layouts.{table, view}
use Rattle.incremental_progress.specs.Parts.{identity}
use Rattle.incremental_progress.specs.Draws.{drawn_view}
use Rattle.incremental_progress.specs.Entries.{cut, entry_view}
use Rattle.commit_rows.specs.Bytes.{new_id_bytes, cut_bytes, whole_bytes, bound_length, range_length}

-- ---- the bytes
pub cut_view_bytes : (v : View) (r : Range) (ten : List ℕ) → view.write (drawn_view v r ten) ≡ cut_bytes (take 6 v.id.0 ++ ten) (table.write v.table) (write_range r)
unfolding view cut_bytes write_number write_if
cut_view_bytes v r ten = refl

pub cut_entry_bytes : (v : View) (r : Range) → view.write (entry_view (cut v r)) ≡ cut_bytes v.id.0 (table.write v.table) (write_range r)
unfolding view cut_bytes write_number write_if
cut_entry_bytes v r = refl

pub identity_bytes : (t : Table) → view.write (identity t) ≡ whole_bytes t.id.0 (table.write t)
unfolding view whole_bytes write_number write_if
identity_bytes t = refl

-- the time of an id that stands at a place, and ten bytes of the supply
pub new_id_bytes_lem : (s : List ℕ) (at : ℕ) (ids : List ℕ) (ten : ℕ) (id : List ℕ) → take 16 (drop at s) ≡ id → new_id_bytes s at ids ten ≡ take 6 id ++ take 10 (drop ten ids)
unfolding new_id_bytes
new_id_bytes_lem s at ids ten id e =
    let a : at + 6 - at ≡ 6 = omega arith in
    let b : ten + 10 - ten ≡ 10 = omega arith in
    let c : take 6 (drop at s) ≡ take 6 id = sym (take-take 6 16 (drop at s) (omega arith)) ∙ ap (take 6) e in
    rw (a, b, c)

-- ---- how many they are
bound_length_lem : (s : List ℕ) (b : BoundSpan) → BoundInside s b → length (write_bound (bound_in s b)) ≡ bound_length b.kind b.len
unfolding write_bound
bound_length_lem s b h = go b.kind
  where
    long : length (take b.len (drop b.at s)) ≡ b.len
    long = length-take-le b.len (drop b.at s) (rw length-drop (omega arith))

    go : (k : Kind) → length (write_bound (bound_of k (take b.len (drop b.at s)))) ≡ bound_length k b.len
    go Unbounded = refl
    go Included = rw (key_length, long)
    go Excluded = rw (key_length, long)

pub range_length_lem :
    (s e : List ℕ) (a b : BoundSpan)
    → BoundInside s a
    → BoundInside e b
    → length (write_range (record { start = bound_in s a; end = bound_in e b })) ≡ range_length a b
unfolding write_range
range_length_lem s e a b h k = rw (length-append, bound_length_lem s a h, bound_length_lem e b k) (omega arith)

pub cut_length : (id t r : List ℕ) → length (cut_bytes id t r) ≡ length id + length t + 1 + length r
unfolding cut_bytes
cut_length id t r = rw (length-append, length-append) (omega arith)

pub whole_length : (id t : List ℕ) → length (whole_bytes id t) ≡ length id + length t + 1
unfolding whole_bytes
whole_length id t = rw (length-append, length-append) (omega arith)
