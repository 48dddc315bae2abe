-- The bytes of a table, or of a view, that stands at a place: they are its writing.
-- Assumes nothing.
use Prim.Native.Nat.{ℕ, ◌+◌, ◌-◌, ◌≤◌}
use native.Mathlib.Omega.{arith}
use mathlib.Core.Path.{◌≡◌, refl, sym, ap, ◌∙◌}
use mathlib.Core.List.{List, ◌++◌, append_assoc}
use lib.ListN.{length, take, drop, length-append, length-drop}
use lib.Seq.{length-take-le, take_at, take-append_seam}
use Rattle.base.specs.Bytes.{Bytes, bytes_drop}
use Rattle.format.specs.Got.{Got, got}
use Rattle.format.specs.Laws.{Layout}
use Rattle.records.specs.Layouts.{table, view}
use Rattle.records.specs.Spans.{table_in, view_in}
use Rattle.records.specs.There.{TableThere, ViewThere}
use Rattle.records.specs.declared.tables.TableSpan.{TableSpan}
use Rattle.records.specs.declared.views.ViewSpan.{ViewSpan}
use Rattle.records.proofs.RecordLayouts.{table_layout, view_layout}
use Rattle.commit_rows.specs.Bytes.{between}

-- the bytes from a place on are the writing of what was read there, and end where it said
pub record Stands (s : List ℕ) (at past : ℕ) (bytes : List ℕ) : Type 0 where
  pub are : between s at past ≡ bytes
  pub ends : past ≡ at + length bytes

pub stands :
    {A : Type 0} {read : List ℕ → Got A} {write : A → List ℕ} {Within : A → Type 0}
    → Layout read write Within
    → (s : List ℕ) (at past : ℕ) (v : A)
    → Bytes s
    → at ≤ length s
    → past ≤ length s
    → read (drop at s) ≡ got v (drop past s)
    → Stands s at past (write v)
stands {write} y s at past v b h k e =
    let w = (y.only (drop at s) v (drop past s) (bytes_drop at s b) e).bytes in
    let n : length s - at ≡ length (write v) + (length s - past) = sym (length-drop at s) ∙ ap length w ∙ rw (length-append, length-drop) in
    let m : past - at ≡ length (write v) = omega arith in
    record { are = rw (m, w) (take-append_seam (write v) (drop past s)); ends = omega arith }

-- what is written begins with the id
front_of : (x y z : List ℕ) (n : ℕ) → length x ≡ n → take n ((x ++ y) ++ z) ≡ x
front_of x y z n e = rw append_assoc (take_at x (y ++ z) n e)

module _ (s : List ℕ) (at : ℕ) (b : Bytes s) (h : at ≤ length s) where
  -- ---- a table
  module _ {t : TableSpan} (f : TableThere s (table.read (drop at s)) t) where
    pub table_stands : Stands s at t.past (table.write (table_in s t))
    table_stands = stands table_layout s at t.past (table_in s t) b h f.inside.past f.meaning

    pub table_id_long : length (table_in s t).id.0 ≡ 16
    table_id_long = length-take-le 16 (drop t.id s) (rw length-drop (omega (arith, f.inside.id)))

    record IdFirst : Type 0 where
      rest : List ℕ
      is : table.write (table_in s t) ≡ (table_in s t).id.0 ++ rest

    id_first : IdFirst
    unfolding table
    id_first = record { rest = _; is = refl }

    pub table_id : take 16 (drop at s) ≡ (table_in s t).id.0
    table_id =
        let w = (table_layout.only (drop at s) (table_in s t) (drop t.past s) (bytes_drop at s b) f.meaning).bytes in
        rw (w, id_first.is) (front_of (table_in s t).id.0 id_first.rest (drop t.past s) 16 table_id_long)

    pub table_id_within : at + 16 ≤ t.past
    table_id_within =
        let n : length (table.write (table_in s t)) ≡ length (table_in s t).id.0 + length id_first.rest
        = ap length id_first.is ∙ length-append (table_in s t).id.0 id_first.rest in
        omega (arith, table_id_long, table_stands.ends)

  -- ---- a view
  module _ {v : ViewSpan} (f : ViewThere s (view.read (drop at s)) v) where
    pub view_stands : Stands s at v.past (view.write (view_in s v))
    view_stands = stands view_layout s at v.past (view_in s v) b h f.inside.past f.meaning

    pub view_id_long : length (view_in s v).id.0 ≡ 16
    view_id_long = length-take-le 16 (drop v.id s) (rw length-drop (omega (arith, f.inside.id)))

    record ViewFirst : Type 0 where
      rest : List ℕ
      is : view.write (view_in s v) ≡ (view_in s v).id.0 ++ rest

    view_first : ViewFirst
    unfolding view
    view_first = record { rest = _; is = refl }

    pub view_id : take 16 (drop at s) ≡ (view_in s v).id.0
    view_id =
        let w = (view_layout.only (drop at s) (view_in s v) (drop v.past s) (bytes_drop at s b) f.meaning).bytes in
        rw (w, view_first.is) (front_of (view_in s v).id.0 view_first.rest (drop v.past s) 16 view_id_long)

    pub view_id_within : at + 16 ≤ v.past
    view_id_within =
        let n : length (view.write (view_in s v)) ≡ length (view_in s v).id.0 + length view_first.rest
        = ap length view_first.is ∙ length-append (view_in s v).id.0 view_first.rest in
        omega (arith, view_id_long, view_stands.ends)
