-- The exits of `image_indexed`, and of the functions on the table that it fills.
-- Assumes nothing.
use Prim.Native.Nat.{ℕ, ◌*◌, ◌≤◌, ◌<◌}
use native.Mathlib.Omega.{arith}
use native.Mathlib.Numerals.{add-one}
use mathlib.Core.Path.{◌≡◌, refl, sym, ap, ◌∙◌}
use mathlib.Core.Bool.{Bool, true, false, not}
use mathlib.Core.List.{List, []}
use lib.ListN.{length, get_or, drop, drop_of_length-le}
use lib.Seq.{drop-cons}
use lib.Dec.{leb}
use borrow.Author.Tests.{leb-true, leb-false, not-true, not-false}
use Rattle.base.specs.Rows.{row_at, RowsHold, hold_at}
use Rattle.format.specs.Got.{got, stop}
use Rattle.format.specs.Whole.{ended}
use Rattle.records.specs.Form.{read_many}
use Rattle.records.specs.Found.{values_of}
use Rattle.records.specs.Values.{Run}
use Rattle.records.specs.Layouts.{run, image, up_to}
use Rattle.records.specs.Spans.{CountFound}
use Rattle.records.specs.declared.runs.CountRead.{CountRead}
use Rattle.records.specs.declared.runs.CountRead.TheVariants.{At as CountAt, Stop as CountStop}
use Rattle.records.proofs.Forms.{read_many_length}
use Rattle.records.proofs.HeadExits.{image_is}
use Rattle.manifest.specs.Checks.{image_checks, has}
use Rattle.manifest.specs.Spans.{judged}
use Rattle.commit_index.specs.Index.{image_of, image_ids, indexed_of, row_ids, RunHeld, RunIs, IndexHold, IndexedFound, RunsIndexed, ImageIndexed}
use Rattle.manifest.specs.declared.images.Judged.{Judged}
use Rattle.manifest.specs.declared.images.Judged.TheVariants.{At, Stop}
use Rattle.commit_index.specs.declared.Indexed.TheVariants.{At as IndexedAt, Stop as IndexedStop}
use Rattle.commit_index.specs.declared.runs.IndexedRun.{IndexedRun}
use Rattle.commit_index.proofs.RunRows.{held_ids}
use Rattle.manifest.proofs.ImageExits.{Judge, judge, judge_stop, count_most}

-- ---- image_indexed
pub no_image : (s d : List ℕ) {r : CountRead} {k : ℕ} → CountFound s ((up_to 1 64).read (drop 0 s)) r → r ≡ CountStop k → ImageIndexed s d d (IndexedStop k)
no_image s d {r} {k} f q =
    let e : image.read s ≡ stop k = image_is s ∙ rw (← f.meaning, q) in
    record { is = ap ended e; same = refl }

module _ (s : List ℕ) {r : CountRead} (f : CountFound s ((up_to 1 64).read (drop 0 s)) r) {n first : ℕ} (q : r ≡ CountAt n first) where
  pub runs_room : (d : List ℕ) → 256 ≤ length d → n * 4 ≤ length d
  runs_room d h = omega (arith, count_most f q)

  opened : image.read s ≡ read_many run.read n (drop first s)
  opened = image_is s ∙ rw (← f.meaning, q)

  module _ {d t : List ℕ} {w : Judged} (x : RunsIndexed s (read_many run.read n (drop first s)) d t w) where
    pub runs_stop : {k : ℕ} → w ≡ Stop k → ImageIndexed s d t (IndexedStop k)
    runs_stop {k} y =
        let z : read_many run.read n (drop first s) ≡ stop k = judge_stop image_checks (read_many run.read n (drop first s)) k (sym (ap (judged s) y) ∙ x.found.meaning) in
        record { is = ap ended (opened ∙ z); same = x.same }

    module _ {next fault : ℕ} (y : w ≡ At next fault) where
      here : Judge image_checks s (read_many run.read n (drop first s)) next fault
      here = judge image_checks s (read_many run.read n (drop first s)) next fault (sym (ap (judged s) y) ∙ x.found.meaning)

      read : image.read s ≡ got here.value (drop next s)
      read = opened ∙ here.is

      pub left_over : {b : Bool} → b ≡ leb (length s) next → not b ≡ true → ImageIndexed s d t (IndexedStop 1)
      left_over {b} e z =
          let h = leb-false (length s) next (sym e ∙ not-true b z) in
          record { is = ap ended read ∙ rw (drop-cons s next 0); same = x.same }

      pub image_done : {b : Bool} → b ≡ leb (length s) next → not b ≡ false → ImageIndexed s d t (IndexedAt n fault)
      image_done {b} e z =
          let h = leb-true (length s) next (sym e ∙ not-false b z) in
          let rows : RowsHold 4 (RunIs s) (values_of (read_many run.read n (drop first s))) t = rw y at x.kept in
          let count = read_many_length run.read n (drop first s) here.value (drop next s) here.is in
          record {
            is =
                record {
                  is = ap ended read ∙ rw (drop_of_length-le s {i = next} h, read);
                  fault_is = rw read here.fault_is;
                  runs = record { count = rw read (sym count); most = count_most f q; rows = rw read (rw here.is at rows) };
                };
            same = x.same;
          }

pub ruleset image_indexed_exits = (no_image, runs_room, runs_stop, left_over, image_done)

-- ---- indexed_run
abbrev nothing : Run
nothing = record { id = 0; views = [] }

module _ {s : List ℕ} {n : ℕ} {t : List ℕ} (p : IndexHold s n t) where
  module _ {k : ℕ} (h : k < n) where
    pub run_found : {r : IndexedRun} → r ≡ indexed_of (row_at 4 k t) → IndexedFound s k r
    run_found {r} e =
        let l : k < length (image_of s) = omega (arith, p.count) in
        let d = drop-cons (image_of s) k nothing l in
        let x : RunHeld s (get_or (image_of s) k nothing) r = rw (← e) at (hold_at 4 (RunIs s) p.rows l d) in
        record { run = get_or (image_of s) k nothing; is = rw (add-one k) d; held = x }

  -- ---- has_run
  pub run_there : (id : ℕ) {b : Bool} → b ≡ has id (row_ids n t) → b ≡ has id (image_ids s)
  run_there id e =
      let c = p.count in
      let z : row_ids n t ≡ image_ids s = ap (λ m. row_ids m t) c ∙ held_ids s (image_of s) t p.rows in
      e ∙ ap (has id) z
