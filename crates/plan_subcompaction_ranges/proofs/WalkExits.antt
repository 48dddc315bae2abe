-- What the walks over the views of a run and over the runs of an image keep: the views seen were sampled.
-- Assumes nothing.
use Prim.Native.Nat.{ℕ, ◌+◌, ◌<◌, ◌≤◌, min}
use native.Mathlib.Omega.{arith}
use native.Mathlib.Nat.{min-eq_left}
use mathlib.Core.Path.{◌≡◌, refl, sym, ap, subst, ◌∙◌}
use mathlib.Core.List.{List, [], ◌∷◌, ◌++◌, append_assoc, append-nil, flat_map}
use lib.ListN.{length, drop}
use lib.Seq.{take-nil}
use lib.Dec.{T}
use Rattle.base.specs.Lists.{flat_map_append}
use Rattle.format.specs.Got.{stop, and_then}
use Rattle.records.specs.Form.{read_many}
use Rattle.records.specs.Found.{is_got, values_of}
use Rattle.records.specs.Values.{View, Run}
use Rattle.records.specs.Layouts.{view, run, image, index}
use Rattle.records.specs.Spans.{view_in, ViewInside, run_head}
use Rattle.records.specs.There.{Past, ViewThere, RunThere, RunsThere}
use Rattle.records.specs.declared.views.ViewSpan.{ViewSpan}
use Rattle.records.specs.declared.there.RunSpan.{RunSpan}
use Rattle.records.proofs.HeadExits.{run_of}
use Rattle.records.proofs.Many.{after}
use Rattle.records.proofs.Walk.{Walk, walk_begin, walk_all, walk_here, walk_ahead, walk_onward}
use Rattle.records.proofs.RunsThere.{head_got, there_views, there_past, there_most, there_here}
use Rattle.manifest.specs.Checks.{all, total, index_checks}
use Rattle.manifest.specs.Faults.{fault_of, least}
use Rattle.manifest.specs.Spans.{faults, JudgedFound}
use Rattle.manifest.specs.declared.images.Judged.{Judged}
use Rattle.manifest.specs.declared.images.Judged.TheVariants.{At as JudgedAt, Stop as JudgedStop}
use Rattle.manifest.proofs.ImageExits.{judge_stop}
use Rattle.subcompaction.specs.PlanCalls.{views, sampled}
use Rattle.subcompaction.specs.Tables.{anchors_in, Held}
use Rattle.key_rows.specs.Rows.{count_from}
use Rattle.plan_subcompaction_ranges.specs.Walks.{RunViews, run_views, indexes_read, largest_passing, Sampled, SampledSome, IndexNext, WithView, SampledAll, SampledMore, ViewsPast}
use Rattle.plan_subcompaction_ranges.specs.declared.SoFar.{SoFar}
use Rattle.plan_subcompaction_ranges.specs.declared.Walked.TheVariants.{All, Stop as WalkedStop}
use Rattle.plan_subcompaction_ranges.specs.declared.RunWalked.{RunWalked}
use Rattle.plan_subcompaction_ranges.specs.declared.RunWalked.TheVariants.{At, Stop}
use Rattle.plan_subcompaction_ranges.proofs.ViewsSampled.{indexes_more, stops_with_more}

-- an index image that is not there
index_stops : {m keys bytes : List ℕ} {vs : List View} {w : SoFar} → Sampled m keys bytes vs w → {k : ℕ} → index.read (drop w.at m) ≡ stop k → (v : View) (ws : List View) → indexes_read m (vs ++ (v ∷ ws)) ≡ stop k
unfolding read_many
index_stops {m} {vs = vs} p e v ws =
    indexes_more m vs (v ∷ ws)
    ∙ (ap (λ g. and_then g (λ xs r. after xs (read_many index.read (length (v ∷ ws)) r))) p.read.is ∙ rw e)

-- ---- views_sampled
pub record ViewsWalk (s : List ℕ) (r : RunSpan) (m keys₀ bytes₀ : List ℕ) (w₀ : SoFar) (keys bytes : List ℕ) (seen at : ℕ) (w : SoFar) : Type 0 where
  pub done : List View
  pub walk : Walk view.read s r.first r.views seen at done
  pub run : RunViews s r
  pub start : SampledSome m keys₀ bytes₀ w₀
  pub so_far : (before : List View) → Sampled m keys₀ bytes₀ before w₀ → Sampled m keys bytes (before ++ done) w
  pub keys_long : length keys ≡ length keys₀
  pub bytes_long : length bytes ≡ length bytes₀

pub views_begin : (s : List ℕ) (r : RunSpan) (m keys bytes : List ℕ) (w : SoFar) → RunViews s r → SampledSome m keys bytes w → ViewsWalk s r m keys bytes w keys bytes 0 r.first w
views_begin s r m keys bytes w h p =
    record {
      done = [];
      walk = walk_begin view.read s r.first r.views h.first h.there;
      run = h;
      start = p;
      so_far = λ before q. subst (λ vs. Sampled m keys bytes vs w) (sym (append-nil before)) q;
      keys_long = refl;
      bytes_long = refl;
    }

module _ {s : List ℕ} {r : RunSpan} {m keys₀ bytes₀ : List ℕ} {w₀ : SoFar} {keys bytes : List ℕ} {seen at : ℕ} {w : SoFar} (p : ViewsWalk s r m keys₀ bytes₀ w₀ keys bytes seen at w) where
  pub keys_kept : length keys ≡ length keys₀
  keys_kept = p.keys_long

  pub bytes_kept : length bytes ≡ length bytes₀
  bytes_kept = p.bytes_long

  pub sampled_now : SampledSome m keys bytes w
  sampled_now = record { views = p.start.views ++ p.done; are = p.so_far p.start.views p.start.are }

  pub index_place : w.at ≤ length m
  index_place = sampled_now.are.read.inside

  pub views_ended : r.views ≤ seen → SampledMore m keys₀ bytes₀ w₀ (run_views s r) keys bytes (At at w)
  views_ended h =
      let z : run_views s r ≡ p.done = ap values_of (walk_all p.walk h) in
      record { after = λ before q. record { is = subst (λ vs. Sampled m keys bytes (before ++ vs) w) (sym z) (p.so_far before q) } }

  pub views_past : r.views ≤ seen → ViewsPast s r (At at w)
  views_past h = record { is = record { is = let e = walk_all p.walk h in rw e; inside = p.walk.reading.within } }

  module _ (h : seen < r.views) where
    pub view_here : T (is_got (view.read (drop at s)))
    view_here = walk_here p.walk h

    module _ {v : ViewSpan} (f : ViewThere s (view.read (drop at s)) v) where
      pub view_inside : ViewInside s v
      view_inside = f.inside

      pub views_stop :
          {j : Judged} {k : ℕ}
          → JudgedFound m (faults index_checks (index.read (drop w.at m))) j
          → j ≡ JudgedStop k
          → SampledMore m keys₀ bytes₀ w₀ (run_views s r) keys bytes (Stop k)
      views_stop {j} {k} x q =
          let e : index.read (drop w.at m) ≡ stop k = judge_stop index_checks (index.read (drop w.at m)) k (rw q at x.meaning) in
          let a = walk_ahead p.walk h (drop v.past s) f.meaning in
          record {
            after = λ before b.
                record {
                  is =
                      ap (λ vs. indexes_read m (before ++ vs)) a.all
                      ∙ (ap (indexes_read m) (sym (append_assoc before p.done (view_in s v ∷ a.tail)))
                      ∙ index_stops (p.so_far before b) e (view_in s v) a.tail);
                };
          }

      pub views_onward :
          {keys' bytes' : List ℕ} {w' : SoFar}
          → WithView m keys bytes w (view_in s v) keys' bytes' w'
          → length keys' ≡ length keys
          → length bytes' ≡ length bytes
          → ViewsWalk s r m keys₀ bytes₀ w₀ keys' bytes' (seen + 1) v.past w'
      views_onward {keys'} {bytes'} {w'} x a b =
          record {
            done = p.done ++ (view_in s v ∷ []);
            walk = walk_onward p.walk h f.meaning f.inside.past;
            run = p.run;
            start = p.start;
            so_far = λ before q.
                subst (λ vs. Sampled m keys' bytes' vs w') (append_assoc before p.done (view_in s v ∷ []))
                (x.after (before ++ p.done) (p.so_far before q));
            keys_long = a ∙ p.keys_long;
            bytes_long = b ∙ p.bytes_long;
          }

pub stop_past : (s : List ℕ) (r : RunSpan) {k : ℕ} → ViewsPast s r (Stop k)
stop_past s r = record { is = tt }

pub index_next : {m : List ℕ} {at next fault : ℕ} {j : Judged} → JudgedFound m (faults index_checks (index.read (drop at m))) j → j ≡ JudgedAt next fault → IndexNext m at next fault
index_next x q = record { found = record { meaning = rw q at x.meaning; inside = rw q at x.inside } }

pub ruleset views_exits = (views_begin, keys_kept, bytes_kept, sampled_now, index_place, views_ended, views_past, view_here, view_inside, views_stop, views_onward, stop_past, index_next)

-- ---- runs_sampled
views_of_more : (rs : List Run) (r : Run) (qs : List Run) → views (rs ++ (r ∷ qs)) ≡ (views rs ++ r.views) ++ views qs
unfolding flat_map
views_of_more rs r qs = flat_map_append (λ (r : Run). r.views) rs (r ∷ qs) ∙ sym (append_assoc (views rs) r.views (views qs))

views_of_one : (rs : List Run) (r : Run) → views (rs ++ (r ∷ [])) ≡ views rs ++ r.views
unfolding flat_map
views_of_one rs r = views_of_more rs r [] ∙ append-nil (views rs ++ r.views)

pub record RunsWalk (s : List ℕ) (n : ℕ) (m keys₀ bytes₀ keys bytes : List ℕ) (seen at : ℕ) (w : SoFar) : Type 0 where
  pub done : List Run
  pub walk : Walk run.read s 1 n seen at done
  pub runs : RunsThere s (image.read s) n
  pub so_far : Sampled m keys bytes (views done) w
  pub keys_long : length keys ≡ length keys₀
  pub bytes_long : length bytes ≡ length bytes₀

-- nothing was sampled
abbrev none_yet : SoFar
none_yet = record { at = 0; fault = 8; kept = record { rows = 0; total = 0 }; largest = 0 }

none_held : (m keys bytes : List ℕ) → length bytes ≡ length keys → Held m keys bytes 0 []
unfolding anchors_in count_from
none_held m keys bytes h =
    let z : min 0 (length keys) ≡ 0 = min-eq_left {n = 0} (omega arith) in
    record { count = refl; wide = h; rows = rw z (sym (take-nil (length keys))); there = record { row = λ r l. absurd (omega (arith, z)) } }

none_sampled : (m keys bytes : List ℕ) → length bytes ≡ length keys → Sampled m keys bytes [] none_yet
unfolding read_many sampled total least largest_passing fault_of all
none_sampled m keys bytes h =
    record {
      read = record { is = refl; inside = omega arith };
      order = refl;
      held = none_held m keys bytes h;
      sum = refl;
      few = omega arith;
      largest = refl;
    }

pub runs_begin : (s m keys bytes : List ℕ) (n : ℕ) → T (is_got (image.read s)) → RunsThere s (image.read s) n → length bytes ≡ length keys → RunsWalk s n m keys bytes keys bytes 0 1 none_yet
unfolding flat_map
runs_begin s m keys bytes n t r h =
    record {
      done = [];
      walk = walk_begin run.read s 1 n r.inside (subst (λ g. T (is_got g)) r.meaning t);
      runs = r;
      so_far = none_sampled m keys bytes h;
      keys_long = refl;
      bytes_long = refl;
    }

module _ {s : List ℕ} {n : ℕ} {m keys₀ bytes₀ keys bytes : List ℕ} {seen at : ℕ} {w : SoFar} (p : RunsWalk s n m keys₀ bytes₀ keys bytes seen at w) where
  pub run_keys_kept : length keys ≡ length keys₀
  run_keys_kept = p.keys_long

  pub run_bytes_kept : length bytes ≡ length bytes₀
  run_bytes_kept = p.bytes_long

  pub runs_now : SampledSome m keys bytes w
  runs_now = record { views = views p.done; are = p.so_far }

  image_is : {rs : List Run} → values_of (read_many run.read n (drop 1 s)) ≡ rs → values_of (image.read s) ≡ rs
  image_is e = ap values_of p.runs.meaning ∙ e

  pub runs_ended : n ≤ seen → SampledAll m keys₀ keys bytes (views (values_of (image.read s))) (All w)
  runs_ended h =
      let z = image_is (ap values_of (walk_all p.walk h)) in
      record { is = subst (λ rs. Sampled m keys bytes (views rs) w) (sym z) p.so_far; rows = p.keys_long }

  module _ (h : seen < n) where
    pub run_here : T (is_got (run_head.read (drop at s)))
    run_here = head_got s at (walk_here p.walk h)

    module _ {r : RunSpan} (f : RunThere s (run_head.read (drop at s)) r) where
      pub run_views_lem : RunViews s r
      run_views_lem = record { first = f.inside; there = there_views s at f (walk_here p.walk h); most = there_most s at f }

      module _ {keys' bytes' : List ℕ} {z : RunWalked} (x : SampledMore m keys bytes w (run_views s r) keys' bytes' z) where
        pub runs_stop : {k : ℕ} → z ≡ Stop k → length keys' ≡ length keys → SampledAll m keys₀ keys' bytes' (views (values_of (image.read s))) (WalkedStop k)
        runs_stop {k} q l =
            let e : indexes_read m (views p.done ++ run_views s r) ≡ stop k = rw q at (x.after (views p.done) p.so_far).is in
            let here = there_here s at f (walk_here p.walk h) in
            let a = walk_ahead p.walk h here.rest here.is in
            record {
              is =
                  ap (λ rs. indexes_read m (views rs)) (image_is a.all)
                  ∙ (ap (indexes_read m) (views_of_more p.done (run_of r.id (run_views s r)) a.tail)
                  ∙ stops_with_more m (views p.done ++ run_views s r) (views a.tail) e);
              rows = l ∙ p.keys_long;
            }

        pub runs_onward :
            {next : ℕ} {w' : SoFar}
            → z ≡ At next w'
            → ViewsPast s r z
            → length keys' ≡ length keys
            → length bytes' ≡ length bytes
            → RunsWalk s n m keys₀ bytes₀ keys' bytes' (seen + 1) next w'
        runs_onward {next} {w'} q y a b =
            let u : Past s (read_many view.read r.views (drop r.first s)) next = rw q at y.is in
            let v : Sampled m keys' bytes' (views p.done ++ run_views s r) w' = rw q at (x.after (views p.done) p.so_far).is in
            record {
              done = p.done ++ (run_of r.id (run_views s r) ∷ []);
              walk = walk_onward p.walk h (there_past s at f next u.is) u.inside;
              runs = p.runs;
              so_far = subst (λ vs. Sampled m keys' bytes' vs w') (sym (views_of_one p.done (run_of r.id (run_views s r)))) v;
              keys_long = a ∙ p.keys_long;
              bytes_long = b ∙ p.bytes_long;
            }

pub ruleset runs_exits = (runs_begin, run_keys_kept, run_bytes_kept, runs_now, runs_ended, run_here, run_views_lem, runs_stop, runs_onward)
