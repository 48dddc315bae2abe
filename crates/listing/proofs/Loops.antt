-- What the loops over views and runs keep: the text of those seen so far, measured or written.
-- Assumes nothing.
use Prim.Native.Nat.{ℕ, ◌+◌, ◌*◌, ◌≤◌, ◌<◌}
use native.Mathlib.Omega.{arith}
use mathlib.Core.Path.{◌≡◌, refl, sym, ap, ◌∙◌}
use mathlib.Core.List.{List, [], ◌∷◌, ◌++◌}
use lib.ListN.{length, drop, length-append}
use lib.Dec.{T}
use mir.Val.{Fits}
use mir.Syntax.{w64}
use Rattle.base.specs.Splice.{splice, splice_none, splice_splice, length_splice}
use Rattle.format.specs.Got.{Got, got}
use Rattle.records.specs.Form.{read_many}
use Rattle.records.specs.Found.{is_got, values_of}
use Rattle.records.specs.Values.{View, Run}
use Rattle.records.specs.Layouts.{view, run}
use Rattle.records.specs.Spans.{view_in, ViewInside, run_head}
use Rattle.records.specs.There.{ViewThere, RunThere}
use Rattle.records.specs.declared.views.ViewSpan.{ViewSpan}
use Rattle.records.specs.declared.there.RunSpan.{RunSpan}
use Rattle.records.proofs.HeadExits.{run_of}
use Rattle.records.proofs.Walk.{Walk, walk_begin, walk_all, walk_here, walk_ahead, walk_onward, walk_front}
use Rattle.records.proofs.RunsThere.{head_got, there_views, there_past, there_most, there_here}
use Rattle.listing.specs.Listing.{line, lines, run_lines}
use Rattle.listing.specs.Spans.{ReachedPast}
use Rattle.listing.specs.declared.Reached.{Reached}
use Rattle.listing.proofs.Lines.{lines_append, lines_more, run_lines_append, run_lines_more, line_within, run_within}

abbrev reached : ℕ → ℕ → Reached
reached next to = record { next = next; to = to }

-- what was read of all, and how far
past_all :
    {A : Type 0} (s : List ℕ) (g : Got (List A)) (seen : List A) (at first to : ℕ) (text : List A → List ℕ)
    → g ≡ got seen (drop at s)
    → at ≤ length s
    → to ≡ first + length (text seen)
    → ReachedPast s g first (text (values_of g)) (reached at to)
past_all s g seen at first to text e w h = record { is = rw e; inside = w; long = rw e h }

-- ---- views_len
pub record ViewsLen (s : List ℕ) (from n id place at to : ℕ) : Type 0 where
  pub seen : List View
  pub walk : Walk view.read s from n place at seen
  pub most : n ≤ 1024
  pub long : to ≡ length (lines id 0 seen)
  pub bound : to ≤ place * 262223

pub views_len_begin : (s : List ℕ) (from n id : ℕ) → from ≤ length s → n ≤ 1024 → T (is_got (read_many view.read n (drop from s))) → ViewsLen s from n id 0 from 0
unfolding lines
views_len_begin s from n id h m t = record { seen = []; walk = walk_begin view.read s from n h t; most = m; long = refl; bound = omega arith }

module _ {s : List ℕ} {from n id place at to : ℕ} (p : ViewsLen s from n id place at to) where
  pub views_len_at : at ≤ length s
  views_len_at = p.walk.reading.within

  pub views_len_end : n ≤ place → ReachedPast s (read_many view.read n (drop from s)) 0 (lines id 0 (values_of (read_many view.read n (drop from s)))) (reached at to)
  views_len_end h = past_all s (read_many view.read n (drop from s)) p.seen at 0 to (lines id 0) (walk_all p.walk h) p.walk.reading.within (let z : to ≡ 0 + length (lines id 0 p.seen) = omega (arith, p.long) in z)

  pub views_len_bound : to ≤ 268516352
  views_len_bound = omega (arith, p.bound, p.most, p.walk.upto)

  module _ (h : place < n) where
    pub views_len_here : T (is_got (view.read (drop at s)))
    views_len_here = walk_here p.walk h

    module _ {v : ViewSpan} (f : ViewThere s (view.read (drop at s)) v) where
      pub views_len_inside : ViewInside s v
      views_len_inside = f.inside

      module _ {l : ℕ} (e : (l ≡ length (line id place (view_in s v))) × (l ≤ 262223)) where
        pub views_len_fits : Fits w64 (to + l)
        views_len_fits = omega (arith, p.bound, p.most, p.walk.upto, e.1)

        pub views_len_onward : ViewsLen s from n id (place + 1) v.past (to + l)
        views_len_onward =
            record {
              seen = p.seen ++ (view_in s v ∷ []);
              walk = walk_onward p.walk h f.meaning f.inside.past;
              most = p.most;
              long = sym (ap length (lines_more id place p.seen (view_in s v) p.walk.count) ∙ rw (length-append, ← p.long, ← e.0));
              bound = omega (arith, p.bound, e.1);
            }

pub ruleset views_len_exits = (views_len_begin, views_len_at, views_len_end, views_len_bound, views_len_here, views_len_inside, views_len_fits, views_len_onward)

-- ---- runs_len
pub record RunsLen (s : List ℕ) (from n k at to : ℕ) : Type 0 where
  pub seen : List Run
  pub walk : Walk run.read s from n k at seen
  pub most : n ≤ 64
  pub long : to ≡ length (run_lines seen)
  pub bound : to ≤ k * 268516352

pub runs_len_begin : (s : List ℕ) (from n : ℕ) → from ≤ length s → n ≤ 64 → T (is_got (read_many run.read n (drop from s))) → RunsLen s from n 0 from 0
unfolding run_lines
runs_len_begin s from n h m t = record { seen = []; walk = walk_begin run.read s from n h t; most = m; long = refl; bound = omega arith }

module _ {s : List ℕ} {from n k at to : ℕ} (p : RunsLen s from n k at to) where
  pub runs_len_at : at ≤ length s
  runs_len_at = p.walk.reading.within

  pub runs_len_end : n ≤ k → to ≡ length (run_lines (values_of (read_many run.read n (drop from s))))
  runs_len_end h = p.long ∙ rw (walk_all p.walk h)

  pub runs_len_bound : to ≤ 17185046528
  runs_len_bound = omega (arith, p.bound, p.most, p.walk.upto)

  module _ (h : k < n) where
    pub runs_len_here : T (is_got (run_head.read (drop at s)))
    runs_len_here = head_got s at (walk_here p.walk h)

    module _ {r : RunSpan} (f : RunThere s (run_head.read (drop at s)) r) where
      pub runs_len_from : r.first ≤ length s
      runs_len_from = f.inside

      pub runs_len_views : r.views ≤ 1024
      runs_len_views = there_most s at f

      pub runs_len_there : T (is_got (read_many view.read r.views (drop r.first s)))
      runs_len_there = there_views s at f (walk_here p.walk h)

      module _ {w : Reached} (x : ReachedPast s (read_many view.read r.views (drop r.first s)) 0 (lines r.id 0 (values_of (read_many view.read r.views (drop r.first s)))) w) (b : w.to ≤ 268516352) where
        pub runs_len_fits : Fits w64 (to + w.to)
        runs_len_fits = omega (arith, p.bound, p.most, p.walk.upto, b)

        pub runs_len_onward : RunsLen s from n (k + 1) w.next (to + w.to)
        runs_len_onward =
            let vs = values_of (read_many view.read r.views (drop r.first s)) in
            record {
              seen = p.seen ++ (run_of r.id vs ∷ []);
              walk = walk_onward p.walk h (there_past s at f w.next x.is) x.inside;
              most = p.most;
              long = sym (ap length (run_lines_more p.seen (run_of r.id vs)) ∙ rw (length-append, ← p.long) (omega (arith, x.long)));
              bound = omega (arith, p.bound, b);
            }

pub ruleset runs_len_exits = (runs_len_begin, runs_len_at, runs_len_end, runs_len_bound, runs_len_here, runs_len_from, runs_len_views, runs_len_there, runs_len_fits, runs_len_onward)

-- ---- put_views
pub record ViewsPut (s : List ℕ) (from n id : ℕ) (d : List ℕ) (first : ℕ) (out : List ℕ) (place at to : ℕ) : Type 0 where
  pub seen : List View
  pub walk : Walk view.read s from n place at seen
  pub room : first + length (lines id 0 (values_of (read_many view.read n (drop from s)))) ≤ length d
  pub long : to ≡ first + length (lines id 0 seen)
  pub is : out ≡ splice d first (lines id 0 seen)

pub views_put_begin :
    (s : List ℕ) (from n id : ℕ) (d : List ℕ) (first : ℕ)
    → from ≤ length s
    → T (is_got (read_many view.read n (drop from s)))
    → first + length (lines id 0 (values_of (read_many view.read n (drop from s)))) ≤ length d
    → ViewsPut s from n id d first d 0 from first
unfolding lines
views_put_begin s from n id d first h t r =
    record { seen = []; walk = walk_begin view.read s from n h t; room = r; long = omega arith; is = sym (splice_none d first) }

module _ {s : List ℕ} {from n id : ℕ} {d : List ℕ} {first : ℕ} {out : List ℕ} {place at to : ℕ} (p : ViewsPut s from n id d first out place at to) where
  pub views_put_at : at ≤ length s
  views_put_at = p.walk.reading.within

  pub views_put_length : length out ≡ length d
  views_put_length =
      let a = walk_front p.walk in
      let b : length (lines id 0 p.seen) ≤ length (lines id 0 (values_of (read_many view.read n (drop from s)))) = rw (a.all, lines_append id 0 p.seen a.tail, length-append) (omega arith) in
      ap length p.is ∙ length_splice d first (lines id 0 p.seen) (omega (arith, p.room))

  pub views_put_end : n ≤ place → ReachedPast s (read_many view.read n (drop from s)) first (lines id 0 (values_of (read_many view.read n (drop from s)))) (reached at to)
  views_put_end h = past_all s (read_many view.read n (drop from s)) p.seen at first to (lines id 0) (walk_all p.walk h) p.walk.reading.within p.long

  pub views_put_is : n ≤ place → out ≡ splice d first (lines id 0 (values_of (read_many view.read n (drop from s))))
  views_put_is h = p.is ∙ rw (walk_all p.walk h)

  module _ (h : place < n) where
    pub views_put_here : T (is_got (view.read (drop at s)))
    views_put_here = walk_here p.walk h

    module _ {v : ViewSpan} (f : ViewThere s (view.read (drop at s)) v) where
      pub views_put_inside : ViewInside s v
      views_put_inside = f.inside

      fits : first + length (lines id 0 p.seen) + length (line id place (view_in s v)) ≤ length d
      fits =
          let a = walk_ahead p.walk h {a = view_in s v} (drop v.past s) f.meaning in
          let b : length (lines id 0 p.seen) + length (line id place (view_in s v)) ≤ length (lines id 0 (values_of (read_many view.read n (drop from s)))) = rw a.all (line_within id place p.seen (view_in s v) a.tail p.walk.count) in
          omega (arith, p.room)

      pub views_put_room : to + length (line id place (view_in s v)) ≤ length out
      views_put_room = rw (p.is, length_splice d first (lines id 0 p.seen) (omega (arith, fits)), p.long) fits

      pub views_put_onward :
          {out' : List ℕ} {to' : ℕ}
          → to' ≡ to + length (line id place (view_in s v))
          → out' ≡ splice out to (line id place (view_in s v))
          → ViewsPut s from n id d first out' (place + 1) v.past to'
      views_put_onward {out'} {to'} t o =
          let more = lines_more id place p.seen (view_in s v) p.walk.count in
          record {
            seen = p.seen ++ (view_in s v ∷ []);
            walk = walk_onward p.walk h f.meaning f.inside.past;
            room = p.room;
            long = t ∙ rw (p.long, more, length-append) (omega arith);
            is = o ∙ ap (λ l. splice l to (line id place (view_in s v))) p.is ∙ splice_splice d first (lines id 0 p.seen) (line id place (view_in s v)) to p.long (omega (arith, fits)) ∙ ap (splice d first) (sym more);
          }

pub ruleset views_put_exits = (views_put_begin, views_put_at, views_put_length, views_put_end, views_put_is, views_put_here, views_put_inside, views_put_room, views_put_onward)

-- ---- put_runs
pub record RunsPut (s : List ℕ) (from n : ℕ) (d : List ℕ) (first : ℕ) (out : List ℕ) (k at to : ℕ) : Type 0 where
  pub seen : List Run
  pub walk : Walk run.read s from n k at seen
  pub room : first + length (run_lines (values_of (read_many run.read n (drop from s)))) ≤ length d
  pub long : to ≡ first + length (run_lines seen)
  pub is : out ≡ splice d first (run_lines seen)

pub runs_put_begin :
    (s : List ℕ) (from n : ℕ) (d : List ℕ) (first : ℕ)
    → from ≤ length s
    → T (is_got (read_many run.read n (drop from s)))
    → first + length (run_lines (values_of (read_many run.read n (drop from s)))) ≤ length d
    → RunsPut s from n d first d 0 from first
unfolding run_lines
runs_put_begin s from n d first h t r =
    record { seen = []; walk = walk_begin run.read s from n h t; room = r; long = omega arith; is = sym (splice_none d first) }

module _ {s : List ℕ} {from n : ℕ} {d : List ℕ} {first : ℕ} {out : List ℕ} {k at to : ℕ} (p : RunsPut s from n d first out k at to) where
  pub runs_put_at : at ≤ length s
  runs_put_at = p.walk.reading.within

  pub runs_put_length : length out ≡ length d
  runs_put_length =
      let a = walk_front p.walk in
      let b : length (run_lines p.seen) ≤ length (run_lines (values_of (read_many run.read n (drop from s)))) = rw (a.all, run_lines_append p.seen a.tail, length-append) (omega arith) in
      ap length p.is ∙ length_splice d first (run_lines p.seen) (omega (arith, p.room))

  pub runs_put_is : n ≤ k → out ≡ splice d first (run_lines (values_of (read_many run.read n (drop from s))))
  runs_put_is h = p.is ∙ rw (walk_all p.walk h)

  module _ (h : k < n) where
    pub runs_put_here : T (is_got (run_head.read (drop at s)))
    runs_put_here = head_got s at (walk_here p.walk h)

    module _ {r : RunSpan} (f : RunThere s (run_head.read (drop at s)) r) where
      pub runs_put_from : r.first ≤ length s
      runs_put_from = f.inside

      pub runs_put_there : T (is_got (read_many view.read r.views (drop r.first s)))
      runs_put_there = there_views s at f (walk_here p.walk h)

      fits_run : first + length (run_lines p.seen) + length (lines r.id 0 (values_of (read_many view.read r.views (drop r.first s)))) ≤ length d
      fits_run =
          let e = there_here s at f (walk_here p.walk h) in
          let a = walk_ahead p.walk h e.rest e.is in
          let vs = values_of (read_many view.read r.views (drop r.first s)) in
          let b : length (run_lines p.seen) + length (lines r.id 0 vs) ≤ length (run_lines (values_of (read_many run.read n (drop from s)))) = rw a.all (run_within p.seen (run_of r.id vs) a.tail) in
          omega (arith, p.room)

      pub runs_put_room : to + length (lines r.id 0 (values_of (read_many view.read r.views (drop r.first s)))) ≤ length out
      runs_put_room = rw (p.is, length_splice d first (run_lines p.seen) (omega (arith, fits_run)), p.long) fits_run

      pub runs_put_onward :
          {out' : List ℕ} {w : Reached}
          → ReachedPast s (read_many view.read r.views (drop r.first s)) to (lines r.id 0 (values_of (read_many view.read r.views (drop r.first s)))) w
          → out' ≡ splice out to (lines r.id 0 (values_of (read_many view.read r.views (drop r.first s))))
          → RunsPut s from n d first out' (k + 1) w.next w.to
      runs_put_onward {out'} {w} x o =
          let vs = values_of (read_many view.read r.views (drop r.first s)) in
          let more = run_lines_more p.seen (run_of r.id vs) in
          record {
            seen = p.seen ++ (run_of r.id vs ∷ []);
            walk = walk_onward p.walk h (there_past s at f w.next x.is) x.inside;
            room = p.room;
            long = x.long ∙ rw (p.long, more, length-append) (omega arith);
            is = o ∙ ap (λ l. splice l to (lines r.id 0 vs)) p.is ∙ splice_splice d first (run_lines p.seen) (lines r.id 0 vs) to p.long (omega (arith, fits_run)) ∙ ap (splice d first) (sym more);
          }

pub ruleset runs_put_exits = (runs_put_begin, runs_put_at, runs_put_length, runs_put_is, runs_put_here, runs_put_from, runs_put_there, runs_put_room, runs_put_onward)
