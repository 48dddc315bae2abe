-- The exits of `visible_at` and `view_span`: a view is read field by field, and the first stop is the answer.
-- Assumes nothing.
use Prim.Native.Nat.{ℕ, ◌+◌, ◌-◌, ◌^◌, ◌<◌, ◌≤◌}
use native.Mathlib.Omega.{arith}
use mathlib.Core.Path.{◌≡◌, sym}
use mathlib.Core.Bool.{Bool}
use mathlib.Core.List.{List}
use lib.ListN.{length, get_or, take, drop, length-drop, drop_of_length-le}
use mir.Val.{Fits}
use mir.Syntax.{w64}
use Rattle.comparable_range.specs.declared.Kind.TheVariants.{Unbounded}
use Rattle.format.specs.Got.{got}
use Rattle.format.specs.Key.{read_bytes}
use Rattle.format.specs.declared.range.BoundSpan.{BoundSpan}
use Rattle.format.specs.declared.range.RangeRead.{RangeRead}
use Rattle.format.specs.declared.range.RangeRead.TheVariants.{At as RangeAt, Stop as RangeStop}
use Rattle.records.specs.Form.{range, read_if}
use Rattle.records.specs.Layouts.{flag_of, table, view}
use Rattle.records.specs.Spans.{flag_read, range_if, visible_read, VisibleFound, TableFound, ViewFound}
use Rattle.records.specs.There.{TableThere}
use Rattle.records.specs.declared.fields.FlagRead.{FlagRead}
use Rattle.records.specs.declared.fields.FlagRead.TheVariants.{Is, Stop as FlagStop}
use Rattle.records.specs.declared.tables.TableSpan.{TableSpan}
use Rattle.records.specs.declared.tables.TableRead.{TableRead}
use Rattle.records.specs.declared.tables.TableRead.TheVariants.{At as TableAt, Stop as TableStop}
use Rattle.records.specs.declared.views.ViewRead.TheVariants.{At, Stop}
use Rattle.records.proofs.FieldExits.{bytes_is, byte_is, bytes_short, number_short}

-- the bound of a view without a visible range
abbrev pub free : ℕ → BoundSpan
free at = record { kind = Unbounded; at = at; len = 0 }

-- ---- view_of
module _ (s : List ℕ) (at : ℕ) {t : TableSpan} (h : at + 16 ≤ length s) (x : TableThere s (table.read (drop (at + 16) s)) t) where
  abbrev p : ℕ
  p = t.past

  id_is : read_bytes 16 (drop at s) ≡ got (take 16 (drop at s)) (drop (at + 16) s)
  id_is = bytes_is s at 16 h

  pub no_flag : length s ≤ p → ViewFound s (view.read (drop at s)) (Stop 1)
  unfolding view
  no_flag l =
      record {
        meaning = rw (id_is, x.meaning, number_short 1 (drop p s) (rw (drop_of_length-le s {i = p} l) (omega arith)));
        inside = tt;
      }

  module _ (l : p < length s) {b : FlagRead} (e : flag_read b ≡ flag_of (get_or s p 0)) where
    pub bad_visible : {k : ℕ} → b ≡ FlagStop k → ViewFound s (view.read (drop at s)) (Stop k)
    unfolding view
    bad_visible z = record { meaning = rw (id_is, x.meaning, byte_is s p l, ← e, z); inside = tt }

    module _ {f : Bool} (z : b ≡ Is f) {c : RangeRead} (y : VisibleFound s f (range_if f (drop (p + 1) s)) c) where
      range_is : visible_read s f c ≡ read_if range f (drop (p + 1) s)
      unfolding range_if
      range_is = y.meaning

      pub bad_range : {k : ℕ} → c ≡ RangeStop k → ViewFound s (view.read (drop at s)) (Stop k)
      unfolding view
      bad_range u = record { meaning = rw (id_is, x.meaning, byte_is s p l, ← e, z, ← range_is, u); inside = tt }

      pub view_read_lem :
          {i j : BoundSpan} {n : ℕ}
          → c ≡ RangeAt i j n
          → ViewFound s (view.read (drop at s)) (At (record { id = at; table = t; shown = f; start = i; end = j; past = n }))
      unfolding view
      view_read_lem u =
          let v = rw u at y.inside in
          record {
            meaning = rw (id_is, x.meaning, byte_is s p l, ← e, z, ← range_is, u);
            inside = record { id = h; table = x.inside; start = v.0; end = v.1.0; past = v.1.1 };
          }

module _ (s : List ℕ) (p : ℕ) (l : p < length s) where
  pub range_fits : length s < 2 ^ 64 → Fits w64 (p + 1)
  range_fits k = omega arith

  pub range_place : p + 1 ≤ length s
  range_place = omega arith

pub ruleset view_of_exits = (no_flag, bad_visible, bad_range, view_read_lem, range_fits, range_place)

-- ---- view_span
module _ (s : List ℕ) (at : ℕ) where
  pub no_id : at ≤ length s → length s - at < 16 → ViewFound s (view.read (drop at s)) (Stop 1)
  unfolding view
  no_id h l = record { meaning = rw (bytes_short 16 (drop at s) (rw length-drop l)); inside = tt }

  pub table_fits : 16 ≤ length s - at → length s < 2 ^ 64 → Fits w64 (at + 16)
  table_fits h k = omega arith

  pub table_place : 16 ≤ length s - at → at + 16 ≤ length s
  table_place h = omega arith

  module _ {w : TableRead} (x : TableFound s (table.read (drop (at + 16) s)) w) where
    pub bad_table : {k : ℕ} → 16 ≤ length s - at → w ≡ TableStop k → ViewFound s (view.read (drop at s)) (Stop k)
    unfolding view
    bad_table h q =
        record { meaning = rw (bytes_is s at 16 (omega arith), ← x.meaning, q); inside = tt }

    pub table_found : {t : TableSpan} → w ≡ TableAt t → TableThere s (table.read (drop (at + 16) s)) t
    table_found q = record { meaning = sym (rw q at x.meaning); inside = rw q at x.inside }

pub ruleset view_exits = (no_id, table_fits, table_place, bad_table, table_found)
