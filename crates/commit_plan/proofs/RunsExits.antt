-- What the loop over the image's runs keeps: those seen are planned and counted.
-- Assumes nothing.
use Prim.Native.Nat.{ℕ, ◌+◌, ◌-◌, ◌*◌, ◌≤◌, ◌<◌}
use native.Mathlib.Omega.{arith}
use mathlib.Core.Path.{◌≡◌, refl, sym, ap, ap₂, subst, ◌∙◌}
use mathlib.Core.Bool.{Bool, true, false, ◌&&◌}
use mathlib.Core.List.{List, [], ◌∷◌, ◌++◌, flat_map, append-nil, append_assoc}
use lib.Dec.{leb}
use lib.ListN.{length, take, length-append}
use lib.Seq.{take_all, length-take-le}
use mir.Val.{Fits}
use mir.Syntax.{w64}
use Rattle.base.specs.Lists.{flat_map_append}
use Rattle.base.specs.Pick.{and_first}
use Rattle.base.specs.Rows.{RowsHold, hold_none, hold_more}
use Rattle.base.specs.Splice.{splice, spliced_length}
use Rattle.records.specs.Found.{values_of}
use Rattle.records.specs.Values.{View, Run, Job}
use Rattle.records.specs.Layouts.{run}
use Rattle.records.proofs.RecordLayouts.{run_layout}
use Rattle.manifest.specs.Checks.{all, table_passes, ascend, starts, image_checks}
use Rattle.commit_index.specs.Index.{image_of, IndexHold, IndexedFound}
use Rattle.commit_index.specs.declared.runs.IndexedRun.{IndexedRun}
use Rattle.incremental_progress.specs.Entries.{Entry, part_entries}
use Rattle.incremental_progress.specs.Plans.{run_draws, draw_entries, view_count, views_length, runs_length, image_length, view_bytes, entry_bytes}
use Rattle.incremental_progress.proofs.Checks.{all_each}
use Rattle.incremental_progress.proofs.Plans.{length_more}
use Rattle.incremental_progress.proofs.PlanBytes.{run_length}
use Rattle.commit_rows.specs.Numbers.{run_numbers}
use Rattle.commit_rows.specs.declared.runs.RunKind.{RunKind}
use Rattle.commit_rows.specs.declared.runs.RunRow.{RunRow}
use Rattle.commit_rows.proofs.RowExits.{run_back}
use Rattle.commit_durable.specs.Tables.{job_of}
use Rattle.commit_gaps.proofs.Places.{take_more, all_at}
use Rattle.commit_entries.specs.Planned.{PlanReady, Planned, PlannedMore}
use Rattle.commit_entries.specs.declared.Plan.{Plan}
use Rattle.commit_entries.proofs.Planning.{ready_most}
use Rattle.commit_entries.proofs.Standing.{Stands, stands}
use Rattle.commit_outputs.specs.Outputs.{output_buckets}
use Rattle.commit_plan.specs.Runs.{views_at, RunReady}
use Rattle.commit_plan.specs.Plans.{RunHeld, RunMade, run_buckets, HeadHeld, GapsReady, ImagePassed, OutputsPlanned, kind_of, run_in, RunPlannedMore, size_by, SizeReady, CountReady, RunCounted, CommitPlanned}
use Rattle.commit_plan.specs.declared.plan.PlanHead.{PlanHead}
use Rattle.commit_plan.specs.declared.plan.ImagePlan.{ImagePlan}
use Rattle.commit_plan.specs.declared.plan.RunPlanned.{RunPlanned}
use Rattle.commit_plan.proofs.OneExits.{size_small}
use Rattle.commit_plan.proofs.CountExits.{entries_append, draws_most, size_bytes_are, size_views_are}

-- ---- one run more
draws_more : (j : Job) (rs : List Run) (r : Run) → flat_map (run_draws j) (rs ++ (r ∷ [])) ≡ flat_map (run_draws j) rs ++ run_draws j r
unfolding flat_map
draws_more j rs r = flat_map_append (run_draws j) rs (r ∷ []) ∙ ap (λ (l : List Entry). flat_map (run_draws j) rs ++ l) (append-nil (run_draws j r))

buckets_more : (j : Job) (rs : List Run) (r : Run) → flat_map (run_buckets j) (rs ++ (r ∷ [])) ≡ flat_map (run_buckets j) rs ++ run_buckets j r
unfolding flat_map
buckets_more j rs r = flat_map_append (run_buckets j) rs (r ∷ []) ∙ ap (λ (l : List ℕ). flat_map (run_buckets j) rs ++ l) (append-nil (run_buckets j r))

all_more : (f : Run → Bool) (rs : List Run) (r : Run) → all f (rs ++ (r ∷ [])) ≡ (all f rs && f r)
unfolding all
all_more f [] r = go (f r)
  where
    go : (b : Bool) → (b && true) ≡ (true && b)
    go true = refl
    go false = refl
all_more f (q ∷ rs) r = rw (all_more f rs r) (go (f q))
  where
    go : (b : Bool) → (b && (all f rs && f r)) ≡ ((b && all f rs) && f r)
    go true = refl
    go false = refl

abbrev parts_of : List ℕ → List Entry
parts_of s = flat_map part_entries (job_of s).parts

pub record RunsSeen (given s ids gap_table index : List ℕ) (h : PlanHead) (o : Plan) (d e : List ℕ) (k : ℕ) (a : ImagePlan) (runs rows : List ℕ) : Type 0 where
  pub hold : IndexHold given h.runs index
  pub passed : ImagePassed given
  pub head : HeadHeld s h
  pub gaps : GapsReady s gap_table h
  pub out_rows : o.rows ≡ length (parts_of s)
  pub out_bytes : o.bytes ≡ length (entry_bytes (parts_of s))
  pub out_ready : PlanReady ids 65536 o
  pub upto : k ≤ h.runs
  pub planned : Planned given s ids (parts_of s ++ flat_map (run_draws (job_of s)) (take k (image_of given))) (output_buckets 0 (job_of s).parts ++ flat_map (run_buckets (job_of s)) (take k (image_of given))) rows a.plan
  pub ready : PlanReady ids (65536 + k * 66560) a.plan
  pub outputs : a.outputs ≡ length (parts_of s)
  pub bytes : a.bytes ≡ 1 + runs_length (job_of s) (take k (image_of given))
  pub short : a.bytes ≤ 1 + k * 4503599627370496
  pub fits : a.fits ≡ all (λ r. leb (view_count (job_of s) r) 1024) (take k (image_of given))
  pub made : RowsHold 6 (RunMade given (job_of s)) (take k (image_of given)) runs
  pub long : 384 ≤ length runs
  pub same_runs : length runs ≡ length d
  pub same_rows : length rows ≡ length e

pub runs_begin :
    (given s ids gap_table index : List ℕ) (h : PlanHead) (runs rows : List ℕ)
    → IndexHold given h.runs index
    → ImagePassed given
    → HeadHeld s h
    → GapsReady s gap_table h
    → OutputsPlanned given s ids rows h.outputs
    → 384 ≤ length runs
    → RunsSeen given s ids gap_table index h h.outputs runs rows 0 (record { plan = h.outputs; outputs = h.outputs.rows; bytes = 1; fits = true }) runs rows
unfolding flat_map runs_length all
runs_begin given s ids gap_table index h runs rows i p q g o l =
    record {
      hold = i;
      passed = p;
      head = q;
      gaps = g;
      out_rows = o.planned.count;
      out_bytes = o.planned.bytes;
      out_ready = o.ready;
      upto = omega arith;
      planned = rw (append-nil, append-nil) o.planned;
      ready = ready_most o.ready (omega (arith, o.ready.few));
      outputs = o.planned.count;
      bytes = refl;
      short = omega arith;
      fits = refl;
      made = hold_none 6 (RunMade given (job_of s)) runs;
      long = l;
      same_runs = refl;
      same_rows = refl;
    }

module _ {given s ids gap_table index : List ℕ} {h : PlanHead} {o : Plan} {d e : List ℕ} {k : ℕ} {a : ImagePlan} {runs rows : List ℕ} (x : RunsSeen given s ids gap_table index h o d e k a runs rows) where
  pub runs_plan : PlanReady ids 274877906944 a.plan
  runs_plan = ready_most x.ready (omega (arith, x.ready.few, x.upto, x.hold.most))

  pub runs_all : h.runs ≤ k → CommitPlanned given s ids rows runs a
  unfolding draw_entries image_length
  runs_all l =
      let z : take k (image_of given) ≡ image_of given = take_all k (image_of given) (omega (arith, x.hold.count)) in
      record {
        planned = rw z at x.planned;
        outputs = x.outputs;
        bytes = rw z at x.bytes;
        fits = rw z at x.fits;
        runs_are = rw z at x.made;
      }

  module _ (l : k < h.runs) where
    pub runs_next : Fits w64 (k + 1)
    runs_next = omega (arith, x.hold.most)

    pub runs_room : k * 6 + 6 ≤ length runs
    runs_room = omega (arith, x.hold.most, x.long)

    module _ {y : IndexedRun} (f : IndexedFound given k y) where
      is_run : run_in given y ≡ f.run
      is_run = ap₂ (λ (n : ℕ) (vs : List View). record { id = n; views = vs }) f.held.id (ap values_of f.held.views_are)

      views_are : views_at given y.first y.views ≡ f.run.views
      views_are = ap values_of f.held.views_are

      passes : (g : Run → Bool) → all g (image_of given) ≡ true → g f.run ≡ true
      passes g z = all_at (λ q. g q ≡ true) k (image_of given) (all_each g (image_of given) z) f.is

      pub runs_ready : RunReady given y.first y.views
      unfolding image_checks
      runs_ready =
          record {
            small = x.passed.small;
            bytes = x.passed.bytes;
            within = f.held.views_from;
            most = f.held.few;
            there = rw f.held.views_are tt;
            tables = rw views_are (passes (λ r. all table_passes r.views) x.passed.tables);
            order = rw views_are (passes (λ r. ascend (starts r.views)) (and_first _ _ x.passed.order));
          }

      -- its views end where it does
      run_stands : Stands given f.held.at y.past (run.write f.run)
      run_stands = stands run_layout given f.held.at y.past f.run x.passed.bytes (omega (arith, f.held.first, f.held.views_from)) f.held.past f.held.run_is

      long : y.past ≡ y.first + length (view_bytes f.run.views)
      long = omega (arith, run_stands.ends, f.held.first, run_length f.run)

      few_draws : length (run_draws (job_of s) f.run) ≤ 66560
      few_draws = draws_most (job_of s) f.run (omega (arith, x.gaps.hold.count, x.gaps.hold.most)) (omega (arith, f.held.count, f.held.few))

      module _ {one : RunPlanned} {t : List ℕ} (w : RunPlannedMore given s ids y a.plan rows one t) where
        more : PlannedMore given s ids (run_draws (job_of s) f.run) (run_buckets (job_of s) f.run) a.plan rows one.plan t
        more = subst (λ (q : Run). PlannedMore given s ids (run_draws (job_of s) q) (run_buckets (job_of s) q) a.plan rows one.plan t) is_run w.more

        kind_is : one.kind ≡ kind_of (job_of s) f.run
        kind_is = w.kind ∙ ap (kind_of (job_of s)) is_run

        now : Planned given s ids ((parts_of s ++ flat_map (run_draws (job_of s)) (take k (image_of given))) ++ run_draws (job_of s) f.run) ((output_buckets 0 (job_of s).parts ++ flat_map (run_buckets (job_of s)) (take k (image_of given))) ++ run_buckets (job_of s) f.run) t one.plan
        now = more.more (parts_of s ++ flat_map (run_draws (job_of s)) (take k (image_of given))) (output_buckets 0 (job_of s).parts ++ flat_map (run_buckets (job_of s)) (take k (image_of given))) x.planned

        rows_are : one.plan.rows ≡ a.plan.rows + length (run_draws (job_of s) f.run)
        rows_are = now.count ∙ length-append (parts_of s ++ flat_map (run_draws (job_of s)) (take k (image_of given))) (run_draws (job_of s) f.run) ∙ rw (← x.planned.count)

        bytes_are : one.plan.bytes ≡ a.plan.bytes + length (entry_bytes (run_draws (job_of s) f.run))
        bytes_are = now.bytes ∙ entries_append (parts_of s ++ flat_map (run_draws (job_of s)) (take k (image_of given))) (run_draws (job_of s) f.run) ∙ rw (← x.planned.bytes)

        ready_now : PlanReady ids (65536 + k * 66560 + length (run_draws (job_of s) f.run)) one.plan
        ready_now = more.ready (65536 + k * 66560) x.ready

        size : SizeReady y a.plan one.plan o
        size =
            record {
              rows = omega (arith, rows_are);
              bytes = omega (arith, bytes_are);
              place = omega (arith, long);
              few = omega (arith, ready_now.few, few_draws, x.upto, x.hold.most);
              short = ready_now.short;
              few_outputs = x.out_ready.few;
              short_outputs = x.out_ready.short;
            }

        pub runs_count : CountReady y a one o
        runs_count = record { size = size; small = omega (arith, f.held.past, x.passed.small); bytes = omega (arith, x.short, x.upto, x.hold.most) }

        pub runs_more_rows : length t ≡ length e
        runs_more_rows = more.same ∙ x.same_rows

        module _ {b : ImagePlan} {u : List ℕ} (c : RunCounted k y one a o runs b u) where
          row : RunRow
          row = record { id = y.id; views = y.views; first = y.first; past = y.past; kind = one.kind; rows = one.plan.rows - a.plan.rows }

          more_runs : take (k + 1) (image_of given) ≡ take k (image_of given) ++ (f.run ∷ [])
          more_runs = take_more k (image_of given) f.is

          seen_long : length (take k (image_of given)) ≡ k
          seen_long = length-take-le k (image_of given) (omega (arith, x.hold.count))

          views_count : (size_by one.kind y a.plan one.plan o).views ≡ view_count (job_of s) f.run
          views_count =
              ap (λ (q : RunKind). (size_by q y a.plan one.plan o).views) kind_is
              ∙ size_views_are (job_of s) f.run y a.plan one.plan o rows_are bytes_are x.out_rows x.out_bytes f.held.count long

          bytes_count : (size_by one.kind y a.plan one.plan o).bytes ≡ views_length (job_of s) f.run
          bytes_count =
              ap (λ (q : RunKind). (size_by q y a.plan one.plan o).bytes) kind_is
              ∙ size_bytes_are (job_of s) f.run y a.plan one.plan o rows_are bytes_are x.out_rows x.out_bytes f.held.count long

          held_row : RunHeld given (job_of s) f.run row
          unfolding row
          held_row =
              record {
                id = f.held.id;
                kind = kind_is;
                rows = omega (arith, rows_are);
                at = f.held.at;
                first = f.held.first;
                past = f.held.past;
                is = f.held.run_is;
              }

          made_row : RunMade given (job_of s) f.run (run_numbers row)
          made_row = subst (λ (q : RunRow). RunHeld given (job_of s) f.run q) (sym (run_back row)) held_row

          put_row : u ≡ splice runs (length (take k (image_of given)) * 6) (run_numbers row)
          unfolding row
          put_row = rw seen_long c.put

          pub runs_more_same : length u ≡ length d
          unfolding row
          runs_more_same = spliced_length runs (k * 6) (run_numbers row) c.put (omega (arith, x.hold.most, x.long)) ∙ x.same_runs

          pub runs_onward : RunsSeen given s ids gap_table index h o d e (k + 1) b u t
          runs_onward =
              let v = draws_more (job_of s) (take k (image_of given)) f.run in
              let w' = buckets_more (job_of s) (take k (image_of given)) f.run in
              let assoc = append_assoc (parts_of s) (flat_map (run_draws (job_of s)) (take k (image_of given))) (run_draws (job_of s) f.run) in
              let assoc' = append_assoc (output_buckets 0 (job_of s).parts) (flat_map (run_buckets (job_of s)) (take k (image_of given))) (run_buckets (job_of s) f.run) in
              rw c.is
              (record {
                hold = x.hold;
                passed = x.passed;
                head = x.head;
                gaps = x.gaps;
                out_rows = x.out_rows;
                out_bytes = x.out_bytes;
                out_ready = x.out_ready;
                upto = omega arith;
                planned = rw (more_runs, v, w') (rw (assoc, assoc') at now);
                ready = ready_most ready_now (omega (arith, ready_now.few, few_draws));
                outputs = x.outputs;
                bytes = rw (more_runs, length_more, bytes_count) (omega (arith, x.bytes));
                short = omega (arith, x.short, size_small one.kind y a.plan one.plan o size (omega (arith, f.held.past, x.passed.small)));
                fits = rw (more_runs, all_more, views_count, x.fits);
                made = rw (more_runs, put_row) (hold_more 6 (RunMade given (job_of s)) f.run (run_numbers row) x.made refl (rw seen_long runs_room) made_row);
                long = omega (arith, runs_more_same, x.same_runs, x.long);
                same_runs = runs_more_same;
                same_rows = runs_more_rows;
              })

pub ruleset runs_exits = (runs_begin, runs_plan, runs_all, runs_next, runs_room, runs_ready, runs_count, runs_more_rows, runs_more_same, runs_onward)
