-- The bytes of an image of which drawn bits are left open. Only the last 10 bytes of a drawn id are.
use Rattle.std.specs.Prelude.{ℕ, zero, suc, length}
use Rattle.std.proofs.Math.Option.{Option, none, some}
use mathlib.Core.List.{List, [], ◌∷◌, ◌++◌, map, flat_map}
use Rattle.records.specs.Values.{View}
use Rattle.records.specs.Layouts.{view, up_to}
use Rattle.records.specs.Spans.{run_head}
use Rattle.incremental_progress.specs.Ids.{NewId, kept, drawn, random_length}
use Rattle.incremental_progress.specs.Entries.{Entry, entry_view, entry_id}
use Rattle.incremental_progress.specs.Jobs.{OpenRun}

-- each byte is known, or left open
abbrev pub Pattern : Type 0
Pattern = List (Option ℕ)

abbrev pub known : List ℕ → Pattern
known l = map some l

unfoldable pub unknown : ℕ → Pattern
unknown zero = []
unknown (suc n) = none ∷ unknown n

-- what is written of a view after its id
abbrev pub after_id : View → List ℕ
after_id v = view.write (record { id = record { 0 = [] }; table = v.table; visible = v.visible })

-- of a drawn id the time is known, and the random bytes are open
unfoldable pub id_pattern : NewId → Pattern
id_pattern (kept id) = known id.0
id_pattern (drawn time) = known time ++ unknown random_length

-- a view's id, and what is written after it
unfoldable pub entry_pattern : Entry → Pattern
entry_pattern e = id_pattern (entry_id e) ++ known (after_id (entry_view e))

unfoldable pub run_pattern : OpenRun → Pattern
run_pattern r = known (run_head.write (r.id, length r.entries)) ++ flat_map entry_pattern r.entries

unfoldable pub image_pattern : List OpenRun → Pattern
image_pattern i = known ((up_to 1 64).write (length i)) ++ flat_map run_pattern i

-- bytes that are as long as a pattern, and equal where it is known
pub data Fits : Pattern → List ℕ → Type 0 where
  ended : Fits [] []
  same : {b : ℕ} {p : Pattern} {l : List ℕ} → Fits p l → Fits (some b ∷ p) (b ∷ l)
  any : {b : ℕ} {p : Pattern} {l : List ℕ} → Fits p l → Fits (none ∷ p) (b ∷ l)

-- two lists of bytes, as long as each other, and equal but for what a pattern leaves open
pub data AlikeBut : Pattern → List ℕ → List ℕ → Type 0 where
  both_ended : AlikeBut [] [] []
  equal : {b : ℕ} {p : Pattern} {l m : List ℕ} → AlikeBut p l m → AlikeBut (some b ∷ p) (b ∷ l) (b ∷ m)
  free : {b c : ℕ} {p : Pattern} {l m : List ℕ} → AlikeBut p l m → AlikeBut (none ∷ p) (b ∷ l) (c ∷ m)
