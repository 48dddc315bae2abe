-- The fraction and the size of a view, the walk that sums the sizes of a run's views, and the exits of the calls.
-- Assumes nothing.
use Prim.Native.Nat.{ℕ, ◌+◌, ◌*◌, ◌<◌, ◌≤◌, ◌^◌, max}
use native.Mathlib.Omega.{arith}
use native.Mathlib.Nat.{max-le}
use mathlib.Core.Path.{◌≡◌, refl, sym, ap, ap₂, ◌∙◌}
use mathlib.Core.Bool.{true, false}
use mathlib.Core.List.{List, [], ◌∷◌, ◌++◌}
use lib.ListN.{drop}
use lib.Dec.{T}
use borrow.Author.Tests.{leb-true}
use Rattle.base.specs.Outcome.{Outcome, answer, stop, and_then}
use Rattle.format.specs.Whole.{whole}
use Rattle.format.specs.Range.{range_in}
use Rattle.format.specs.declared.range.BoundSpan.{BoundSpan}
use Rattle.format.specs.declared.span.RangeSpan.{RangeSpan}
use Rattle.records.specs.Form.{read_many}
use Rattle.records.specs.Found.{is_got, values_of}
use Rattle.records.specs.Layouts.{view, image}
use Rattle.records.specs.Values.{View}
use Rattle.records.specs.Spans.{view_in, ViewInside}
use Rattle.records.specs.There.{ViewThere, Past}
use Rattle.records.specs.declared.views.ViewSpan.{ViewSpan}
use Rattle.records.specs.declared.views.ViewRead.{ViewRead}
use Rattle.records.specs.declared.views.ViewRead.TheVariants.{At as ViewAt, Stop as ViewStop}
use Rattle.records.specs.declared.there.RunSpan.{RunSpan}
use Rattle.manifest.specs.Checks.{all, size_passes, image_checks, image_given}
use Rattle.manifest.specs.Spans.{first_span, last_span, EffectiveFound, JudgedWhole}
use Rattle.manifest.specs.declared.images.Judged.{Judged}
use Rattle.manifest.specs.declared.images.Judged.TheVariants.{At as JudgedAt, Stop as JudgedStop}
use Rattle.manifest.proofs.RangeExits.{own_in, first_inside, last_inside}
use Rattle.manifest.proofs.Given.{not_read, refused, accepted, image_there}
use Rattle.db_state.specs.Places.{view_given}
use Rattle.db_state.specs.LookupCalls.{views_at}
use Rattle.db_state.proofs.RunLookups.{at_passes}
use Rattle.sst_view.specs.Spans.{ViewPlaced}
use Rattle.sst_view.specs.Runs.{views_of, RunInside, RunCalled}
use Rattle.sst_view.specs.declared.places.RunPlaced.{RunPlaced}
use Rattle.sst_view.specs.declared.places.RunPlaced.TheVariants.{At as RunAt, Stop as RunStop}
use Rattle.sst_view.proofs.Past.{past_none, past_more, past_here, value_here, values_more}
use Rattle.sst_view.proofs.PlaceExits.{run_not_called, run_called, run_called_inside}
use Rattle.sst_view.proofs.ViewCalls.{not_called, called, called_inside}
use Rattle.visible_size.specs.Steps.{ranges_fraction, visible_size}
use Rattle.visible_size.specs.Numbers.{InPart, FractionFound, SizeFound}
use Rattle.visible_size.specs.Sizes.{visible_fraction, estimate_visible_size, estimate_run_visible_size}
use Rattle.visible_size.specs.declared.VisibleFraction.{VisibleFraction}
use Rattle.visible_size.specs.declared.VisibleFraction.TheVariants.{Whole}
use Rattle.view_sizes.specs.Found.{ViewSized}
use Rattle.view_sizes.specs.SizeCalls.{visible_fraction_outcome, estimate_visible_size_outcome, estimate_run_visible_size_outcome}
use Rattle.view_sizes.proofs.Passed.{image_sized, run_sized, view_sized}

-- ---- view_fraction
module _ (s : List ℕ) (v : ViewSpan) where
  pub no_last : v.table.flagged ≡ false → FractionFound (visible_fraction (view_in s v)) Whole
  unfolding visible_fraction
  no_last e = record { meaning = rw e; within = tt }

  module _ {a b : BoundSpan} {w : RangeSpan} (h : a ≡ first_span v.table) (l : b ≡ last_span v.table) (x : EffectiveFound s v w) where
    pub part_shown :
        {f : VisibleFraction}
        → v.table.flagged ≡ true
        → FractionFound (ranges_fraction (range_in s a b) (range_in s w.start w.end)) f
        → FractionFound (visible_fraction (view_in s v)) f
    unfolding visible_fraction
    part_shown e y =
        let o = ap₂ (λ c d. range_in s c d) h l ∙ own_in s v.table in
        record { meaning = y.meaning ∙ (ap₂ ranges_fraction o x.meaning ∙ rw e); within = y.within }

pub ruleset fraction_exits = (first_inside, last_inside, no_last, part_shown)

-- ---- view_size
pub one_or_raw : (raw : ℕ) → raw ≤ 2 ^ 53 → max 1 raw ≤ 2 ^ 53
one_or_raw raw h = let one : 1 ≤ 2 ^ 53 = omega arith in max-le one h

module _ (s : List ℕ) (v : ViewSpan) (h : size_passes (view_in s v).table ≡ true) where
  pub raw_most : v.table.index_offset + v.table.index_len ≤ 2 ^ 53
  unfolding size_passes
  raw_most = leb-true (v.table.index_offset + v.table.index_len) (2 ^ 53) h

  pub raw_fits : v.table.index_offset + v.table.index_len < 2 ^ 64
  raw_fits = omega (arith, raw_most)

  pub whole_size : v.shown ≡ false → ViewSized (view_in s v) (v.table.index_offset + v.table.index_len)
  unfolding estimate_visible_size
  whole_size e = record { meaning = rw e; most = raw_most }

  module _ {f : VisibleFraction} (x : FractionFound (visible_fraction (view_in s v)) f) where
    pub part_within : InPart f
    part_within = x.within

    pub part_size_lem : {r : ℕ} → v.shown ≡ true → SizeFound (v.table.index_offset + v.table.index_len) f r → ViewSized (view_in s v) r
    unfolding estimate_visible_size
    part_size_lem {r} e y =
        record {
          meaning = y.meaning ∙ (ap (visible_size (v.table.index_offset + v.table.index_len)) x.meaning ∙ rw e);
          most = omega (arith, y.most, one_or_raw (v.table.index_offset + v.table.index_len) raw_most);
        }

pub ruleset size_exits = (raw_most, raw_fits, whole_size, part_within, part_size_lem)

-- ---- run_size
sum_more : (vs : List View) (v : View) → estimate_run_visible_size (vs ++ (v ∷ [])) ≡ estimate_run_visible_size vs + estimate_visible_size v
unfolding estimate_run_visible_size
sum_more [] v = omega arith
sum_more (w ∷ vs) v = omega (arith, sum_more vs v)

pub record Summing (s : List ℕ) (r : RunSpan) (sum seen at : ℕ) : Type 0 where
  pub run : RunInside s r
  pub sized : all (λ v. size_passes v.table) (views_of s r) ≡ true
  pub upto : seen ≤ r.views
  pub past : Past s (read_many view.read seen (drop r.first s)) at
  pub is : sum ≡ estimate_run_visible_size (values_of (read_many view.read seen (drop r.first s)))
  pub most : sum ≤ seen * 2 ^ 53

pub sum_begin : (s : List ℕ) (r : RunSpan) → RunInside s r → all (λ v. size_passes v.table) (views_of s r) ≡ true → Summing s r 0 0 r.first
unfolding read_many estimate_run_visible_size
sum_begin s r i h =
    record { run = i; sized = h; upto = omega arith; past = past_none view.read s r.first i.first; is = refl; most = omega arith }

module _ {s : List ℕ} {r : RunSpan} {sum seen at : ℕ} (p : Summing s r sum seen at) where
  pub all_summed : r.views ≤ seen → sum ≡ estimate_run_visible_size (views_of s r)
  all_summed h =
      let z : seen ≡ r.views = omega (arith, p.upto) in
      p.is ∙ ap (λ n. estimate_run_visible_size (values_of (read_many view.read n (drop r.first s)))) z

  module _ (h : seen < r.views) where
    pub seen_fits : seen + 1 < 2 ^ 64
    seen_fits = omega (arith, p.run.most)

    pub view_here : T (is_got (view.read (drop at s)))
    view_here = past_here view.read s r.first seen p.past r.views h p.run.there

    module _ {v : ViewSpan} (x : ViewThere s (view.read (drop at s)) v) where
      pub here_inside : ViewInside s v
      here_inside = x.inside

      pub here_sized : size_passes (view_in s v).table ≡ true
      here_sized =
          at_passes (λ (v : View). size_passes v.table) (views_of s r) seen (view_in s v) p.sized
          (value_here view.read s r.first seen p.past r.views h p.run.there x.meaning)

      module _ {n : ℕ} (y : ViewSized (view_in s v) n) where
        pub sum_fits : sum + n < 2 ^ 64
        sum_fits = omega (arith, p.most, y.most, p.run.most)

        pub sum_onward : Summing s r (sum + n) (seen + 1) v.past
        sum_onward =
            record {
              run = p.run;
              sized = p.sized;
              upto = omega arith;
              past = past_more view.read s r.first seen p.past x.meaning x.inside.past;
              is =
                  ap₂ (λ a b. a + b) p.is y.meaning
                  ∙ (sym (sum_more (values_of (read_many view.read seen (drop r.first s))) (view_in s v))
                  ∙ sym (ap estimate_run_visible_size (values_more view.read s r.first seen p.past x.meaning)));
              most = omega (arith, p.most, y.most);
            }

pub ruleset sum_exits = (sum_begin, all_summed, seen_fits, view_here, here_inside, here_sized, sum_fits, sum_onward)

-- ---- the calls on a view
module _ (l : List ℕ) (run place : ℕ) {z : ViewRead} (y : ViewPlaced l (view_given l run place) z) where
  pub fraction_not_given : {k : ℕ} → z ≡ ViewStop k → stop k ≡ visible_fraction_outcome l run place
  unfolding visible_fraction_outcome
  fraction_not_given e = rw (not_called y e)

  pub size_not_given : {k : ℕ} → z ≡ ViewStop k → stop k ≡ estimate_visible_size_outcome l run place
  unfolding estimate_visible_size_outcome
  size_not_given e = rw (not_called y e)

  module _ {v : ViewSpan} (e : z ≡ ViewAt v) where
    pub given_sized : size_passes (view_in l v).table ≡ true
    given_sized = view_sized l run place (view_in l v) (called y e)

    pub fraction_given : {f : VisibleFraction} → FractionFound (visible_fraction (view_in l v)) f → answer f ≡ visible_fraction_outcome l run place
    unfolding visible_fraction_outcome
    fraction_given x = ap answer x.meaning ∙ rw (called y e)

    pub size_given : {n : ℕ} → ViewSized (view_in l v) n → answer n ≡ estimate_visible_size_outcome l run place
    unfolding estimate_visible_size_outcome
    size_given x = ap answer x.meaning ∙ rw (called y e)

pub ruleset call_exits = (called_inside, fraction_not_given, size_not_given, given_sized, fraction_given, size_given)

-- ---- the call on a run
module _ (l : List ℕ) (run : ℕ) {w : Judged} (x : JudgedWhole l image_checks (whole image.read l) w) where
  pub run_not_read : {k : ℕ} → w ≡ JudgedStop k → stop k ≡ estimate_run_visible_size_outcome l run
  unfolding estimate_run_visible_size_outcome
  run_not_read e = rw (not_read x e)

  module _ {next fault : ℕ} (e : w ≡ JudgedAt next fault) where
    pub run_refused : fault < 8 → stop fault ≡ estimate_run_visible_size_outcome l run
    unfolding estimate_run_visible_size_outcome
    run_refused h = rw (refused x e h)

    pub run_image : 8 ≤ fault → T (is_got (image.read l))
    run_image h = image_there x e h

    module _ (h : 8 ≤ fault) {z : RunPlaced} (y : RunCalled l (views_at (values_of (image.read l)) run) z) where
      image_is : image_given l ≡ answer (values_of (image.read l))
      image_is = let a = accepted x e h in a.given ∙ ap (λ g. answer (values_of g)) (sym a.read)

      outcome_is : {o : Outcome (List View)} → views_at (values_of (image.read l)) run ≡ o → estimate_run_visible_size_outcome l run ≡ and_then o (λ vs. answer (estimate_run_visible_size vs))
      unfolding estimate_run_visible_size_outcome
      outcome_is q = rw image_is (ap (λ o. and_then o (λ vs. answer (estimate_run_visible_size vs))) q)

      pub run_not_there : {k : ℕ} → z ≡ RunStop k → stop k ≡ estimate_run_visible_size_outcome l run
      run_not_there q = sym (outcome_is (run_not_called y q))

      module _ {r : RunSpan} (q : z ≡ RunAt r) where
        pub views_sized : all (λ v. size_passes v.table) (views_of l r) ≡ true
        views_sized = run_sized (values_of (image.read l)) run (views_of l r) (image_sized l (values_of (image.read l)) image_is) (run_called y q)

        pub run_given : {n : ℕ} → n ≡ estimate_run_visible_size (views_of l r) → answer n ≡ estimate_run_visible_size_outcome l run
        run_given f = ap answer f ∙ sym (outcome_is (run_called y q))

pub ruleset run_exits = (run_called_inside, run_not_read, run_refused, run_image, run_not_there, views_sized, run_given)
