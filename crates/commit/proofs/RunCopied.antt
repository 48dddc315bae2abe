-- A run that is copied: the bytes from its head on are its writing.
-- Assumes nothing.
use Prim.Native.Nat.{ℕ, ◌+◌, ◌-◌}
use native.Mathlib.Omega.{arith}
use mathlib.Core.Path.{◌≡◌, sym, ap, ◌∙◌}
use mathlib.Core.List.{List, ◌++◌}
use lib.ListN.{length, drop, length-append, length-drop}
use lib.Seq.{take-append_seam}
use Rattle.base.specs.Bytes.{Bytes, bytes_drop}
use Rattle.records.specs.Values.{Run, Job}
use Rattle.records.specs.Layouts.{run}
use Rattle.records.proofs.RecordLayouts.{run_layout}
use Rattle.incremental_progress.proofs.PlanBytes.{run_length}
use Rattle.commit_rows.specs.Bytes.{between}
use Rattle.commit_rows.specs.declared.runs.RunRow.{RunRow}
use Rattle.commit_plan.specs.Plans.{RunHeld}
use Rattle.commit_write.specs.Runs.{Copied}

module _ {given : List ℕ} (b : Bytes given) {j : Job} {r : Run} {x : RunRow} (h : RunHeld given j r x) where
  bytes_are : drop h.at given ≡ run.write r ++ drop x.past given
  bytes_are = (run_layout.only (drop h.at given) r (drop x.past given) (bytes_drop h.at given b) h.is).bytes

  long : length given - h.at ≡ length (run.write r) + (length given - x.past)
  long =
      sym (length-drop h.at given) ∙ ap length bytes_are
      ∙ length-append (run.write r) (drop x.past given)
      ∙ ap (λ n. length (run.write r) + n) (length-drop x.past given)

  pub run_copied : Copied given x
  run_copied =
      let l = run_length r in
      record { head = omega (arith, h.first); order = omega (arith, h.first, h.past, long, l); past = h.past }

  pub run_stands : between given (x.first - 6) x.past ≡ run.write r
  run_stands =
      let l = run_length r in
      let a : x.first - 6 ≡ h.at = omega (arith, h.first) in
      let n : x.past - h.at ≡ length (run.write r) = omega (arith, h.past, long, l) in
      rw (a, n, bytes_are) (take-append_seam (run.write r) (drop x.past given))
