-- What the code holds of a view that stands at a place of the image s.
use Rattle.std.specs.Prelude.{ℕ, ◌+◌, ◌≤◌, ◌≡◌, true, List, [], length, take, drop}
use Rattle.std.proofs.Math.Option.{none}
use Rattle.format.specs.Got.{Got, got, stop}
use Rattle.format.specs.Range.{range_in, BoundInside}
use Rattle.records.specs.Values.{View}
use Rattle.records.specs.Layouts.{table, view}
use Rattle.manifest.specs.Ranges.{effective}
use Rattle.manifest.specs.Checks.{table_passes}
use Rattle.commit_rows.specs.Bytes.{between}
use Rattle.commit_plan.specs.declared.held.ViewHeld.{ViewHeld}

-- the view at a place; one without a key stands in for none
abbrev pub view_got : Got View → View
view_got (got v r) = v
view_got (stop k) =
    record {
      id = record { 0 = [] };
      table = record { id = record { 0 = [] }; index_offset = 0; index_len = 0; filter_offset = 0; first = []; last = none };
      visible = none;
    }

abbrev pub view_at : List ℕ → ℕ → View
view_at s at = view_got (view.read (drop at s))

pub record HeldAt (s : List ℕ) (at : ℕ) (h : ViewHeld) : Type 0 where
  pub place : h.at ≡ at
  pub read : view.read (drop at s) ≡ got (view_at s at) (drop h.past s)
  pub within : h.past ≤ length s
  pub id : at + 16 ≤ h.past
  pub table_id : at + 16 ≤ h.end
  pub table_within : h.end ≤ length s
  pub id_long : length (view_at s at).id.0 ≡ 16
  pub id_is : take 16 (drop at s) ≡ (view_at s at).id.0
  pub bytes : between s at h.past ≡ view.write (view_at s at)
  pub long : h.past ≡ at + length (view.write (view_at s at))
  pub table_bytes : between s (at + 16) h.end ≡ table.write (view_at s at).table
  pub table_long : h.end ≡ at + 16 + length (table.write (view_at s at).table)
  pub range_is : range_in s h.range.start h.range.end ≡ effective (view_at s at)
  pub start : BoundInside s h.range.start
  pub end : BoundInside s h.range.end

-- it passed check 5
pub record ViewReady (s : List ℕ) (h : ViewHeld) : Type 0 where
  pub small : length s ≤ 262144
  pub held : HeldAt s h.at h
  pub passes : table_passes (view_at s h.at) ≡ true
