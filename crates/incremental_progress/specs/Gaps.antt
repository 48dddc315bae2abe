-- The gaps between durable intervals, and a commit by gaps: what a program that reads forwards does.
use Rattle.std.specs.Prelude.{ℕ, zero, suc, Bool, eqb}
use Rattle.std.proofs.Math.Option.{Option, none, some}
use mathlib.Core.List.{List, [], ◌∷◌, ◌++◌, map, flat_map}
use Rattle.base.specs.Pick.{pick}
use Rattle.key.specs.Order.{Key}
use Rattle.comparable_range.specs.Range.{Bound, unbounded, included, excluded, Range, intersect}
use Rattle.records.specs.Values.{View, Run, Image, Part, Job}
use Rattle.manifest.specs.Ranges.{effective}
use Rattle.manifest.specs.Checks.{has}
use Rattle.incremental_progress.specs.Intervals.{Interval, listed}
use Rattle.incremental_progress.specs.Parts.{durable, intervals}
use Rattle.incremental_progress.specs.Entries.{Entry, piece_entry, part_entries}
use Rattle.incremental_progress.specs.Draws.{Ten, Drawn, got, next, fill_all}

-- A gap before an unbounded start or after an unbounded end is void: nothing meets it.
abbrev pub void : Range
void = record { start = unbounded; end = excluded [] }

-- from a start, if there is one, up to a key, if there is one
abbrev pub gap_to : Option Bound → Option Key → Range
gap_to none k = void
gap_to (some b) none = void
gap_to (some b) (some k) = record { start = b; end = excluded k }

abbrev pub last_gap : Option Bound → Range
last_gap none = void
last_gap (some b) = record { start = b; end = unbounded }

-- where the gap after an interval starts
abbrev pub gap_from : Option Key → Option Bound
gap_from none = none
gap_from (some k) = some (included k)

-- the gap before each interval, and the one after the last
unfoldable pub gaps_from : Option Bound → List Interval → List Range
gaps_from b [] = last_gap b ∷ []
gaps_from b (iv ∷ ivs) = gap_to b iv.start ∷ gaps_from (gap_from iv.end) ivs

unfoldable pub gaps : List Interval → List Range
gaps ivs = gaps_from (some unbounded) ivs

-- ---- pieces
-- what of a range lies in the gaps, one piece a gap
unfoldable pub pieces : List Range → Range → List Range
pieces gs r = flat_map (λ g. listed (intersect r g)) gs

unfoldable pub gap_entries : List Range → View → List Entry
gap_entries gs v = map (piece_entry v) (pieces gs (effective v))

-- ---- the destination, gap by gap
-- something with the number of the gap that it lies in
pub record Placed (A : Type 0) : Type 0 where
  pub gap : ℕ
  pub item : A

-- those of a gap, in the order in which they stand
unfoldable pub in_gap : {A : Type 0} → ℕ → List (Placed A) → List A
in_gap g [] = []
in_gap g (p ∷ ps) = pick (eqb p.gap g) (p.item ∷ in_gap g ps) (in_gap g ps)

-- from gap g on: each gap's pieces, then the outputs of the interval after it
unfoldable pub by_gap : {A : Type 0} → ℕ → List (List A) → List (Placed A) → List A
by_gap g [] ps = in_gap g ps
by_gap g (os ∷ outs) ps = in_gap g ps ++ (os ++ by_gap (suc g) outs ps)

-- which gap each piece of a range lies in, in their order
unfoldable pub gaps_met : ℕ → List Range → Range → List ℕ
gaps_met g [] r = []
gaps_met g (h ∷ hs) r = flat_map (λ (q : Range). g ∷ []) (listed (intersect r h)) ++ gaps_met (suc g) hs r

-- the numbers of the gaps that a run's entries lie in, in the order of the entries
unfoldable pub run_gaps : List Range → List View → List ℕ
run_gaps gs vs = flat_map (λ v. gaps_met 0 gs (effective v)) vs

-- items with the numbers of their gaps
unfoldable pub placed : {A : Type 0} → List ℕ → List A → List (Placed A)
placed [] as' = []
placed (g ∷ gs) [] = []
placed (g ∷ gs) (a ∷ as') = record { gap = g; item = a } ∷ placed gs as'

-- ---- the outputs, interval by interval
-- a part without an interval has no outputs to write, and no list of them
abbrev pub of_interval : Option Interval → List View → List (List View)
of_interval none vs = []
of_interval (some iv) vs = vs ∷ []

-- the outputs of each part that has an interval, filled in the order of the parts
unfoldable pub fill_parts : List Part → List Ten → Drawn (List (List View))
fill_parts [] s = got [] s
fill_parts (p ∷ ps) s =
    next (fill_all (part_entries p) s) (λ vs s. next (fill_parts ps s) (λ outs s. got (of_interval (durable p) vs ++ outs) s))

-- ---- the commit by gaps
unfoldable pub gap_views : Job → List (List View) → ℕ → List View → List Ten → Drawn (List View)
gap_views j outs n vs s =
    let gs = gaps (intervals j.parts) in
    pick (eqb n j.destination)
    (next (fill_all (flat_map (gap_entries gs) vs) s) (λ ws s. got (by_gap 0 outs (placed (run_gaps gs vs) ws)) s))
    (pick (has n j.sources) (fill_all (flat_map (gap_entries gs) vs) s) (got vs s))

unfoldable pub gap_runs : Job → List (List View) → List Run → List Ten → Drawn (List Run)
gap_runs j outs [] s = got [] s
gap_runs j outs (r ∷ rs) s =
    next (gap_views j outs r.id r.views s)
    (λ vs s. next (gap_runs j outs rs s) (λ new s. got (record { id = r.id; views = vs } ∷ new) s))

unfoldable pub gap_commit : Job → Image → List Ten → Drawn Image
gap_commit j i s = next (fill_parts j.parts s) (λ outs s. gap_runs j outs i s)
