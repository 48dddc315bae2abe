-- The planned image is the image of the runs that its rows stand for.
-- Assumes nothing.
use Prim.Native.Nat.{ℕ, suc, ◌+◌, ◌-◌, ◌*◌, ◌≤◌, ◌<◌}
use native.Mathlib.Omega.{arith}
use mathlib.Core.Path.{◌≡◌, refl, sym, ap, ◌∙◌}
use mathlib.Core.List.{List, [], ◌∷◌, ◌++◌, flat_map, append_assoc}
use lib.ListN.{length, take, drop, length-append, length-map}
use Rattle.base.specs.Lists.{All, All-append}
use Rattle.base.specs.Rows.{Each}
use Rattle.format.specs.Number.{write_number}
use Rattle.records.specs.Form.{write_many}
use Rattle.records.specs.Values.{View, Run, Image}
use Rattle.records.specs.Layouts.{view, run, image}
use Rattle.incremental_progress.specs.Gaps.{Placed, by_gap}
use Rattle.commit_rows.specs.Bytes.{between}
use Rattle.commit_rows.specs.declared.rows.Row.{Row}
use Rattle.commit_rows.specs.declared.runs.RunKind.TheVariants.{Other, Source, Destination}
use Rattle.commit_rows.specs.declared.runs.RunRow.{RunRow}
use Rattle.commit_write.specs.Rows.{view_bytes}
use Rattle.commit_write.specs.Buckets.{by_bucket, destination_rows}
use Rattle.commit_write.specs.EachLaws.{each_length}
use Rattle.commit_write.specs.BucketLaws.{by_length, by_each}
use Rattle.commit_write.specs.Runs.{head_bytes, run_bytes, runs_bytes, new_image_bytes, Bucketed}
use Rattle.commit_write.proofs.RunExits.{other_bytes_lem, source_bytes_lem, destination_run_bytes}
use Rattle.commit_write.proofs.Placed.{outputs_placed, pieces_placed, RowFor, buckets_are_gaps, destination_bytes_lem}

-- ---- the layouts
run_is : (i : ℕ) (vs : List View) → run.write (record { id = i; views = vs }) ≡ head_bytes i (length vs) ++ write_many view.write vs
unfolding run head_bytes
run_is i vs = sym (append_assoc (write_number 4 i) (write_number 2 (length vs * 16)) (write_many view.write vs))

image_is : (rs : Image) → image.write rs ≡ write_number 1 (length rs) ++ write_many run.write rs
unfolding image
image_is rs = refl

pub many_flat : {A : Type 0} (w : A → List ℕ) (xs : List A) → flat_map w xs ≡ write_many w xs
unfolding write_many flat_map
many_flat w [] = refl
many_flat w (x ∷ xs) = ap (λ l. w x ++ l) (many_flat w xs)

module _ (given job ids : List ℕ) (outputs : List Row) where
  -- ---- one run
  module _ (r : RunRow) (rows : List Row) where
    pub other_made : (v : Run) → r.kind ≡ Other → between given (r.first - 6) r.past ≡ run.write v → run_bytes given job ids outputs r rows ≡ run.write v
    other_made v k e = sym (other_bytes_lem given job ids outputs r rows k) ∙ e

    module _ (vs : List View) where
      pub source_made : r.kind ≡ Source → r.rows ≡ length vs → view_bytes given job ids rows ≡ write_many view.write vs → run_bytes given job ids outputs r rows ≡ run.write (record { id = r.id; views = vs })
      source_made k n e =
          sym (source_bytes_lem given job ids outputs r rows k)
          ∙ ap (λ c. head_bytes r.id c ++ view_bytes given job ids rows) n
          ∙ ap (λ l. head_bytes r.id (length vs) ++ l) e
          ∙ sym (run_is r.id vs)

      pub destination_made : r.kind ≡ Destination → length outputs + r.rows ≡ length vs → view_bytes given job ids (destination_rows outputs rows) ≡ write_many view.write vs → run_bytes given job ids outputs r rows ≡ run.write (record { id = r.id; views = vs })
      destination_made k n e =
          sym (destination_run_bytes given job ids outputs r rows k)
          ∙ ap (λ c. head_bytes r.id c ++ view_bytes given job ids (destination_rows outputs rows)) n
          ∙ ap (λ l. head_bytes r.id (length vs) ++ l) e
          ∙ sym (run_is r.id vs)

    -- pieces of gaps, and between them the outputs of intervals
    module _ (outs : List (List View)) (ps : List (Placed View)) where
      pub gaps_made :
          r.kind ≡ Destination
          → r.rows ≡ length rows
          → Bucketed outputs
          → Bucketed rows
          → length outs ≤ 64
          → All (λ p. p.gap ≤ length outs) ps
          → Each (RowFor view.write given job ids) (outputs_placed 0 outs ++ pieces_placed ps) (outputs ++ rows)
          → run_bytes given job ids outputs r rows ≡ run.write (record { id = r.id; views = by_gap 0 outs ps })
      gaps_made k n a b h g e =
          let all = outputs_placed 0 outs ++ pieces_placed ps in
          let num : Placed View → ℕ = λ p. p.gap in
          let buck : Row → ℕ = λ q. q.bucket in
          let each = by_each num buck (RowFor view.write given job ids) (λ p q f. f.bucket_is) 0 131 all (outputs ++ rows) e in
          let l₁ : length (by_gap 0 outs ps) ≡ length (by_bucket num 0 131 all)
          = ap length (sym (buckets_are_gaps outs ps h g)) ∙ length-map (by_bucket num 0 131 all) (λ p. p.item) in
          let l₂ = each_length (RowFor view.write given job ids) (by_bucket num 0 131 all) (by_bucket buck 0 131 (outputs ++ rows)) each in
          let l₃ = by_length buck 131 (outputs ++ rows) (All-append (λ q. q.bucket < 131) outputs rows a b) in
          let l₄ = length-append outputs rows in
          destination_made (by_gap 0 outs ps) k (omega (arith, l₁, l₂, l₃, l₄))
          (destination_bytes_lem view.write given job ids outs ps outputs rows h g e ∙ many_flat view.write (by_gap 0 outs ps))

  -- ---- all runs
  -- each run's bytes are those of the new run
  abbrev pub RunsMade : List RunRow → List Row → List Run → Type 0
  RunsMade [] rows [] = Unit {0}
  RunsMade [] rows (v ∷ vs) = ⊥
  RunsMade (r ∷ rs) rows [] = ⊥
  RunsMade (r ∷ rs) rows (v ∷ vs) = (run_bytes given job ids outputs r (take r.rows rows) ≡ run.write v) × RunsMade rs (drop r.rows rows) vs

  runs_made : (rs : List RunRow) (rows : List Row) (new : List Run) → RunsMade rs rows new → runs_bytes given job ids outputs rs rows ≡ write_many run.write new
  unfolding runs_bytes write_many
  runs_made [] rows [] m = refl
  runs_made [] rows (v ∷ vs) m = absurd m
  runs_made (r ∷ rs) rows [] m = absurd m
  runs_made (r ∷ rs) rows (v ∷ vs) m = rw (m.0, runs_made rs (drop r.rows rows) vs m.1)

  as_many : (rs : List RunRow) (rows : List Row) (new : List Run) → RunsMade rs rows new → length rs ≡ length new
  as_many [] rows [] m = refl
  as_many [] rows (v ∷ vs) m = absurd m
  as_many (r ∷ rs) rows [] m = absurd m
  as_many (r ∷ rs) rows (v ∷ vs) m = ap suc (as_many rs (drop r.rows rows) vs m.1)

  pub image_made : (rs : List RunRow) (rows : List Row) (new : List Run) → RunsMade rs rows new → new_image_bytes given job ids outputs rs rows ≡ image.write new
  unfolding new_image_bytes
  image_made rs rows new m =
      ap (λ n. write_number 1 n ++ runs_bytes given job ids outputs rs rows) (as_many rs rows new m)
      ∙ ap (λ l. write_number 1 (length new) ++ l) (runs_made rs rows new m)
      ∙ sym (image_is new)
