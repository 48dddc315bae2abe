-- The places that cover the asked range, by the two counts: the last view that starts within its end intersects it, and the
-- walk back begins past those that start at or below its start.
-- Assumes nothing.
use Prim.Native.Nat.{ℕ, zero, suc, ◌+◌, ◌-◌, ◌<◌, ◌≤◌}
use native.Mathlib.Omega.{arith}
use mathlib.Core.Path.{◌≡◌, refl, sym, ap, subst, ◌∙◌}
use mathlib.Core.Bool.{Bool, true, false}
use mathlib.Core.Option.{some}
use mathlib.Core.List.{List, [], ◌∷◌}
use lib.ListN.{length}
use Rattle.base.specs.Pick.{pick}
use Rattle.base.specs.Outcome.{Outcome, answer, stop, and_then}
use Rattle.comparable_range.specs.Range.{Bound, Range, non_empty, end_holds}
use Rattle.format.specs.Range.{bound_in, BoundInside}
use Rattle.format.specs.declared.range.BoundSpan.{BoundSpan}
use Rattle.format.specs.declared.span.RangeSpan.{RangeSpan}
use Rattle.records.specs.Found.{values_of}
use Rattle.records.specs.Layouts.{image}
use Rattle.records.specs.Values.{View}
use Rattle.records.specs.declared.there.RunSpan.{RunSpan}
use Rattle.manifest.specs.Checks.{all, table_passes}
use Rattle.partitioned_keyspace.specs.Partitions.{Places, partition_point, last_before}
use Rattle.db_state.specs.Lookup.{start_key, start_keys, max_idx, table_intersects, walk_back, min_idx, nowhere, covered_to, table_idx_covering_range}
use Rattle.db_state.specs.LookupCalls.{image_and_range, views_at, table_idx_covering_range_outcome}
use Rattle.db_state.specs.LookupLaws.{starts_by, SomeOf}
use Rattle.sst_view.specs.Asked.{range_at, AskedFound}
use Rattle.sst_view.specs.Runs.{views_of, RunInside, RunCalled, PlacesOf, leading, up_to}
use Rattle.sst_view.specs.declared.asked.Asked.{Asked}
use Rattle.sst_view.specs.declared.asked.Asked.TheVariants.{Range as AskedRange, Stop as AskedStop}
use Rattle.sst_view.specs.declared.places.RunPlaced.{RunPlaced}
use Rattle.sst_view.specs.declared.places.RunPlaced.TheVariants.{At as RunAt, Stop as RunStop}
use Rattle.sst_view.proofs.AskedExits.{not_given, given, image_given_lem}
use Rattle.sst_view.proofs.PlaceExits.{run_not_called, run_called}
use Rattle.sst_view.proofs.Leading.{leading_most, max_by_count, min_by_count}
use Rattle.db_state.proofs.FoundTables.{table_idx_finds_a_table_elsewhere}
use Rattle.sorted_run.specs.Found.{Sought, up_to_span, LeadsFound}
use Rattle.sorted_run.specs.declared.tables.Leads.{Leads}
use Rattle.sorted_run.proofs.Passed.{sought}
use Rattle.sorted_run.proofs.OverlapExits.{views_long}
use Rattle.sorted_run.proofs.LeadExits.{up_to_is, up_to_inside}

-- ---- walk_back
pub record Back (vs : List View) (asked : Range) (from idx n : ℕ) : Type 0 where
  pub same : walk_back vs asked from ≡ walk_back vs asked idx
  pub inside : idx ≤ n

module _ (vs : List View) (asked : Range) where
  pub back_begin : (from n : ℕ) → from ≤ n → Back vs asked from from n
  back_begin from n h = record { same = refl; inside = h }

module _ {vs : List View} {asked : Range} {from idx n : ℕ} (p : Back vs asked from idx n) where
  pub back_none : idx ≤ 0 → 0 ≡ walk_back vs asked from
  unfolding walk_back
  back_none h =
      let z : idx ≡ 0 = omega arith in
      sym (p.same ∙ ap (walk_back vs asked) z)

  pub back_place : 0 < idx → idx - 1 < n
  back_place h = omega (arith, p.inside)

  module _ (h : 0 < idx) {t : Bool} (e : t ≡ table_intersects vs asked (idx - 1)) where
    pub back_more : t ≡ true → Back vs asked from (idx - 1) n
    unfolding walk_back
    back_more u = record { same = p.same ∙ go idx h (sym e ∙ u); inside = omega (arith, p.inside) }
      where
        go : (k : ℕ) → 0 < k → table_intersects vs asked (k - 1) ≡ true → walk_back vs asked k ≡ walk_back vs asked (k - 1)
        go zero h w = absurd (omega arith)
        go (suc k) h w =
            let z : suc k - 1 ≡ k = omega arith in
            let v : table_intersects vs asked k ≡ true = ap (table_intersects vs asked) (sym z) ∙ w in
            rw (z, v)

    pub back_ends : t ≡ false → idx - 1 + 1 ≡ walk_back vs asked from
    unfolding walk_back
    back_ends u = let z : idx - 1 + 1 ≡ idx = omega arith in z ∙ sym (p.same ∙ go idx h (sym e ∙ u))
      where
        go : (k : ℕ) → 0 < k → table_intersects vs asked (k - 1) ≡ false → walk_back vs asked k ≡ k
        go zero h w = absurd (omega arith)
        go (suc k) h w =
            let z : suc k - 1 ≡ k = omega arith in
            let v : table_intersects vs asked k ≡ false = ap (table_intersects vs asked) (sym z) ∙ w in
            rw v

pub ruleset back_exits = (back_begin, back_none, back_place, back_more, back_ends)

-- ---- by the two counts
none_lead : (vs : List View) (asked : Range) → leading asked.end vs ≡ 0 → table_idx_covering_range vs asked ≡ nowhere
unfolding table_idx_covering_range
none_lead vs asked e = rw (max_by_count vs asked.end, e)

starts_within : (end : Bound) (vs : List View) (m : ℕ) → leading end vs ≡ suc m → starts_by vs end ≡ true
unfolding leading start_keys partition_point
starts_within end [] m e = absurd (omega (arith, e))
starts_within end (v ∷ vs) m e = go (end_holds end (start_key v)) e
  where
    go : (t : Bool) → pick t (suc (partition_point (end_holds end) (start_keys vs))) 0 ≡ suc m → t ≡ true
    go true e = refl
    go false e = absurd (omega (arith, e))

found : (n : ℕ) (t : Bool) (p : Places) → SomeOf n (pick t p nowhere) → pick t p nowhere ≡ p
found n true p x = refl
found n false p x = absurd (omega (arith, x.some_place))

some_lead :
    (vs : List View) (asked : Range) (n : ℕ)
    → all table_passes vs ≡ true
    → non_empty asked ≡ true
    → leading asked.end vs ≡ n
    → (n ≡ 0 → ⊥)
    → table_idx_covering_range vs asked ≡ record { start = walk_back vs asked (leading (up_to asked.start) vs); end = n }
unfolding table_idx_covering_range
some_lead vs asked zero p a e h = absurd (h refl)
some_lead vs asked (suc m) p a e h =
    let w = table_idx_finds_a_table_elsewhere vs asked p a (starts_within asked.end vs m e) in
    let c : max_idx vs asked.end ≡ some m = max_by_count vs asked.end ∙ ap last_before e in
    let q : Places = record { start = min_idx vs asked; end = suc m } in
    ap (covered_to vs asked) c
    ∙ (found (length vs) (table_intersects vs asked m) q (subst (λ o. SomeOf (length vs) (covered_to vs asked o)) c w)
    ∙ ap (λ (k : ℕ). record { start = k; end = suc m }) (min_by_count vs asked))

-- ---- covered_in_run
module _ {s q : List ℕ} {r : RunSpan} {asked : RangeSpan} (i : Sought s r q asked) where
  pub sought_run : RunInside s r
  sought_run = i.run

  pub sought_end : BoundInside q asked.end
  sought_end = i.range.end

  module _ {b : BoundSpan} (f : b ≡ up_to_span asked.start) where
    pub sought_from : BoundInside q b
    sought_from = rw f (up_to_inside q asked.start i.range.start)

    module _ {places : List ℕ} {n : Leads} (x : LeadsFound s r q b asked.end places n) where
      pub table_of : PlacesOf s r places
      table_of = x.table

      pub leads_in : n.start ≤ r.views
      leads_in = omega (arith, x.start, leading_most (bound_in q b) (views_of s r), views_long s r i.run)

      pub covers_none : n.end ≡ 0 → answer (record { start = 0; end = 0 }) ≡ answer (table_idx_covering_range (views_of s r) (range_at q asked))
      covers_none e = ap answer (sym (none_lead (views_of s r) (range_at q asked) (sym x.end ∙ e)))

      pub covers : {k : ℕ} → (n.end ≡ 0 → ⊥) → k ≡ walk_back (views_of s r) (range_at q asked) n.start → answer (record { start = k; end = n.end }) ≡ answer (table_idx_covering_range (views_of s r) (range_at q asked))
      covers {k} h w =
          let a = some_lead (views_of s r) (range_at q asked) n.end i.tables i.passes (sym x.end) h in
          let c : n.start ≡ leading (up_to (bound_in q asked.start)) (views_of s r)
          = x.start ∙ ap (λ b. leading b (views_of s r)) (ap (bound_in q) f ∙ up_to_is q asked.start) in
          ap answer (ap (λ (m : ℕ). record { start = m; end = n.end }) (w ∙ ap (walk_back (views_of s r) (range_at q asked)) c) ∙ sym a)

pub ruleset covered_exits = (sought_run, sought_end, sought_from, table_of, leads_in, covers_none, covers)

-- ---- table_idx_covering_range
module _ (l q : List ℕ) (run : ℕ) {w : Asked} (x : AskedFound l q (image_and_range l q) w) where
  pub covering_not_given : {k : ℕ} → w ≡ AskedStop k → stop k ≡ table_idx_covering_range_outcome l run q
  unfolding table_idx_covering_range_outcome
  covering_not_given e = rw (not_given x e)

  module _ {r : RangeSpan} (e : w ≡ AskedRange r) {z : RunPlaced} (y : RunCalled l (views_at (values_of (image.read l)) run) z) where
    outcome_is : {o : Outcome (List View)} → views_at (values_of (image.read l)) run ≡ o → table_idx_covering_range_outcome l run q ≡ and_then o (λ vs. answer (table_idx_covering_range vs (range_at q r)))
    unfolding table_idx_covering_range_outcome
    outcome_is h = rw (given x e) (ap (λ o. and_then o (λ vs. answer (table_idx_covering_range vs (range_at q r)))) h)

    pub covering_no_run : {k : ℕ} → z ≡ RunStop k → stop k ≡ table_idx_covering_range_outcome l run q
    covering_no_run h = sym (outcome_is (run_not_called y h))

    pub covering_found : {s : RunSpan} {o : Outcome Places} → z ≡ RunAt s → o ≡ answer (table_idx_covering_range (views_of l s) (range_at q r)) → o ≡ table_idx_covering_range_outcome l run q
    covering_found h u = u ∙ sym (outcome_is (run_called y h))

pub ruleset covering_exits = (image_given_lem, sought, covering_not_given, covering_no_run, covering_found)
