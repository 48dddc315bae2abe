-- Each entry takes 60 bytes or more, so that few rows fit into an image.
-- Assumes nothing.
use Prim.Native.Nat.{◌*◌, ◌≤◌}
use native.Mathlib.Omega.{arith}
use mathlib.Core.Path.{◌≡◌}
use mathlib.Core.List.{List, [], ◌∷◌}
use lib.ListN.{length, length-append}
use Rattle.base.specs.Lists.{All}
use Rattle.format.specs.Key.{write_key}
use Rattle.format.proofs.Layouts.{number_length}
use Rattle.records.specs.Form.{write_many}
use Rattle.records.specs.Values.{Table, View}
use Rattle.records.specs.Layouts.{table, view}
use Rattle.records.proofs.Within.{table_keys, ViewWithin}
use Rattle.incremental_progress.specs.Entries.{Entry, whole, cut, entry_view}
use Rattle.incremental_progress.specs.Plans.{entry_bytes}
use Rattle.incremental_progress.proofs.Filling.{source}

-- ---- one entry
-- a key is two bytes and itself
table_least : (t : Table) → length t.id.0 ≡ 16 → 43 ≤ length (table.write t)
unfolding table write_key
table_least t h = simp (length-append, number_length) (omega (arith, h))

view_least : (v : View) → ViewWithin v → 60 ≤ length (view.write v)
unfolding view
view_least v w =
    let t = table_least v.table (table_keys v.table w.table).id in
    simp (length-append, number_length) (omega (arith, w.id, t))

entry_least : (e : Entry) → ViewWithin (source e) → 60 ≤ length (view.write (entry_view e))
unfolding view
entry_least (whole v) w = view_least v w
entry_least (cut v r) w =
    let t = table_least v.table (table_keys v.table w.table).id in
    simp (length-append, number_length) (omega (arith, w.id, t))

-- ---- entries
pub entries_least : (es : List Entry) → All (λ e. ViewWithin (source e)) es → 60 * length es ≤ length (entry_bytes es)
unfolding write_many
entries_least [] a = omega arith
entries_least (e ∷ es) a =
    let l = length-append (view.write (entry_view e)) (entry_bytes es) in
    omega (arith, l, entry_least e a.0, entries_least es a.1)
