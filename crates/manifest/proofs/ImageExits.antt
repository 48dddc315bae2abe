-- What the loops over views and runs keep: the values read so far, and the first of the checks 4 to 7 that these fail.
-- Assumes nothing.
use Prim.Native.Nat.{ℕ, suc, ◌+◌, ◌-◌, ◌≤◌, ◌<◌, min}
use native.Mathlib.Omega.{arith}
use native.Mathlib.Numerals.{add-one}
use native.Mathlib.Nat.{add-zero}
use mathlib.Core.Path.{◌≡◌, refl, sym, ap, ◌∙◌}
use mathlib.Core.Bool.{Bool, true, false, not, ◌||◌}
use mathlib.Core.List.{List, [], ◌∷◌, ◌++◌, map}
use mathlib.Core.List.{map-append}
use lib.ListN.{length, get_or, take, drop, set, length-set}
use lib.Seq.{slice, slice-cons, take-suc-set}
use lib.Dec.{eqb, leb}
use borrow.Author.Tests.{leb-true, ne_eqb}
use Rattle.std.specs.List.{list_any}
use Rattle.base.specs.Outcome.{answer, check}
use Rattle.key.specs.Order.{at_most}
use Rattle.comparable_range.specs.Range.{unbounded, cmp_bound}
use Rattle.comparable_range.specs.declared.Kind.TheVariants.{Unbounded}
use Rattle.format.specs.Got.{Got, got, stop, and_then}
use Rattle.format.specs.Number.{read_number}
use Rattle.format.specs.Range.{bound_in, BoundInside}
use Rattle.format.specs.declared.range.BoundSpan.{BoundSpan}
use Rattle.records.specs.Form.{read_many, taken}
use Rattle.records.specs.Values.{View, Run}
use Rattle.records.specs.Layouts.{view, run, image, up_to, count_of}
use Rattle.records.specs.Spans.{view_in, ViewInside, ViewFound, RunFound, run_head, CountFound}
use Rattle.records.specs.declared.views.ViewSpan.{ViewSpan}
use Rattle.records.specs.declared.views.ViewRead.{ViewRead}
use Rattle.records.specs.declared.views.ViewRead.TheVariants.{At as ViewAt, Stop as ViewStop}
use Rattle.records.specs.declared.runs.RunRead.{RunRead}
use Rattle.records.specs.declared.runs.RunRead.TheVariants.{At as RunAt, Stop as RunStop}
use Rattle.records.specs.declared.runs.CountRead.{CountRead}
use Rattle.records.specs.declared.runs.CountRead.TheVariants.{At as CountAt, Stop as CountStop}
use Rattle.records.proofs.Many.{Reading, begin, stopped, onward, all_read}
use Rattle.records.proofs.HeadExits.{run_of, run_is, image_is}
use Rattle.manifest.specs.Ranges.{effective}
use Rattle.manifest.specs.Checks.{Checks, image_checks, starts, has}
use Rattle.manifest.specs.Faults.{fault_of, ordered, view_checks, views_checks, last_of}
use Rattle.manifest.specs.Spans.{BoundFound, faults, judged, JudgedFound}
use Rattle.manifest.specs.declared.images.Judged.{Judged}
use Rattle.manifest.specs.declared.images.Judged.TheVariants.{At, Stop}
use Rattle.manifest.proofs.Steps.{min_is_least, has_is_any, views_none, views_more, starts_more, last_more, image_none, image_more}

-- ---- views_judged
pub record ViewsSeen (s : List ℕ) (from n k at fault : ℕ) (before : BoundSpan) : Type 0 where
  pub seen : List View
  pub reading : Reading view.read s from n (n - k) at seen
  pub so_far : fault ≡ fault_of (views_checks seen)
  pub last : bound_in s before ≡ last_of unbounded (starts seen)
  pub last_in_lem : BoundInside s before

abbrev free : ℕ → BoundSpan
free at = record { kind = Unbounded; at = at; len = 0 }

pub views_begin : (s : List ℕ) (from n : ℕ) → from ≤ length s → ViewsSeen s from n 0 from 8 (free from)
unfolding last_of
views_begin s from n h =
    let z : n - 0 ≡ n = omega arith in
    record { seen = []; reading = rw z (begin view.read s from n h); so_far = sym views_none; last = refl; last_in_lem = rw add-zero h }

module _ {s : List ℕ} {from n k at fault : ℕ} {before : BoundSpan} (p : ViewsSeen s from n k at fault before) where
  pub views_at_lem : at ≤ length s
  views_at_lem = p.reading.within

  pub before_in : BoundInside s before
  before_in = p.last_in_lem

  pub views_end : n ≤ k → JudgedFound s (faults views_checks (read_many view.read n (drop from s))) (At at fault)
  views_end h =
      let z : n - k ≤ 0 = omega arith in
      record { meaning = rw (all_read p.reading z, p.so_far); inside = p.reading.within }

  module _ (h : k < n) {r : ViewRead} (f : ViewFound s (view.read (drop at s)) r) where
    one_left : 0 < n - k
    one_left = omega arith

    pub views_stop : {j : ℕ} → r ≡ ViewStop j → JudgedFound s (faults views_checks (read_many view.read n (drop from s))) (Stop j)
    views_stop {j} q = record { meaning = rw (stopped p.reading {k = j} one_left (sym f.meaning ∙ rw q)); inside = tt }

    module _ {v : ViewSpan} (q : r ≡ ViewAt v) where
      pub view_inside : ViewInside s v
      view_inside = rw q at f.inside

      pub views_onward :
          {x : BoundSpan} {a b c d : ℕ}
          → BoundFound s (effective (view_in s v)).start x
          → a ≡ fault_of (view_checks (view_in s v))
          → b ≡ fault_of (ordered (at_most (cmp_bound true (bound_in s before) (bound_in s x))))
          → c ≡ min a b
          → d ≡ min fault c
          → ViewsSeen s from n (k + 1) v.past d x
      views_onward {x} {a} {b} {c} {d} e ha hb hc hd =
          let z : n - k - 1 ≡ n - (k + 1) = omega arith in
          record {
            seen = p.seen ++ (view_in s v ∷ []);
            reading = rw z at (onward p.reading {a = view_in s v} one_left (sym f.meaning ∙ rw q) view_inside.past);
            so_far = hd ∙ min_is_least fault c ∙ rw (hc, min_is_least a b, ha, hb, p.so_far, p.last, e.is) (sym (views_more p.seen (view_in s v)));
            last = e.is ∙ sym (ap (last_of unbounded) (starts_more p.seen (view_in s v)) ∙ last_more unbounded (starts p.seen) (effective (view_in s v)).start);
            last_in_lem = e.inside;
          }

pub ruleset views_exits = (views_begin, views_at_lem, before_in, views_end, views_stop, view_inside, views_onward)

-- ---- none of the first i of n numbers is the id
pub record Unshared (l : List ℕ) (n id i : ℕ) : Type 0 where
  pub upto : i ≤ n
  pub long : n ≤ length l
  pub rest : has id (take n l) ≡ has id (slice i n l)

pub unshared_none : (l : List ℕ) (n id : ℕ) → n ≤ length l → Unshared l n id 0
unshared_none l n id h = record { upto = omega arith; long = h; rest = refl }

module _ {l : List ℕ} {n id i : ℕ} (p : Unshared l n id i) where
  step : i < n → has id (take n l) ≡ (eqb id (get_or l i 0) || has id (slice (suc i) n l))
  unfolding has
  step h = p.rest ∙ ap (has id) (slice-cons i n l 0 h p.long)

  pub unshared_more : i < n → (get_or l i 0 ≡ id → ⊥) → Unshared l n id (i + 1)
  unshared_more h e =
      record { upto = omega arith; long = p.long; rest = step h ∙ rw (ne_eqb id (get_or l i 0) (λ q. e (sym q)), add-one) }

-- ---- shared_fault
module _ (l : List ℕ) (id : ℕ) {t : Bool} (h : t ≡ list_any (λ y. eqb y id) l) where
  pub found : t ≡ true → 6 ≡ fault_of (ordered (not (has id l)))
  unfolding fault_of
  found e = rw (← has_is_any, ← h, e)

  pub absent : t ≡ false → 8 ≡ fault_of (ordered (not (has id l)))
  unfolding fault_of
  absent e = rw (← has_is_any, ← h, e)

pub ruleset shared_exits = (found, absent)

-- ---- runs_judged
-- an answer's place and number are those of a value that was read
pub record Judge {A : Type 0} (checks : A → Checks) (s : List ℕ) (g : Got A) (next fault : ℕ) : Type 0 where
  pub value : A
  pub is : g ≡ got value (drop next s)
  pub fault_is : fault ≡ fault_of (checks value)

pub judge : {A : Type 0} (checks : A → Checks) (s : List ℕ) (g : Got A) (next fault : ℕ) → got fault (drop next s) ≡ faults checks g → Judge checks s g next fault
judge checks s (got a r) next fault e = record { value = a; is = let z : r ≡ drop next s = cc in rw z; fault_is = cc }
judge checks s (stop k) next fault e = absurd (let z : ◌≡◌ {A = ℕ} 0 1 = cc in omega arith)

pub judge_stop : {A : Type 0} (checks : A → Checks) (g : Got A) (k : ℕ) → stop k ≡ faults checks g → g ≡ stop k
judge_stop checks (got a r) k e = absurd (let z : ◌≡◌ {A = ℕ} 0 1 = cc in omega arith)
judge_stop checks (stop j) k e = let z : j ≡ k = cc in ap stop z

run_got : (l q r : List ℕ) (i m : ℕ) (vs : List View) → run_head.read l ≡ got (i, m) q → read_many view.read m q ≡ got vs r → run.read l ≡ got (run_of i vs) r
run_got l q r i m vs h k = run_is l ∙ rw (h, k)

abbrev ids_of : List Run → List ℕ
ids_of rs = map (λ r. r.id) rs

runs_step :
    (rs : List Run) (r : Run) {fault a b c d : ℕ}
    → fault ≡ fault_of (image_checks rs)
    → a ≡ fault_of (views_checks r.views)
    → b ≡ fault_of (ordered (not (has r.id (ids_of rs))))
    → c ≡ min a b
    → d ≡ min fault c
    → d ≡ fault_of (image_checks (rs ++ (r ∷ [])))
runs_step rs r {fault} {a} {b} {c} hf ha hb hc hd = hd ∙ min_is_least fault c ∙ rw (hf, hc, min_is_least a b, ha, hb) (sym (image_more rs r))

pub record RunsSeen (s : List ℕ) (from n : ℕ) (ids : List ℕ) (k at fault : ℕ) : Type 0 where
  pub runs : List Run
  pub reading : Reading run.read s from n (n - k) at runs
  pub upto : k ≤ n
  pub most : n ≤ 64
  pub long : length ids ≡ 64
  pub so_far : fault ≡ fault_of (image_checks runs)
  pub kept : take k ids ≡ ids_of runs

pub runs_begin : (s : List ℕ) (from n : ℕ) (ids : List ℕ) → from ≤ length s → n ≤ 64 → length ids ≡ 64 → RunsSeen s from n ids 0 from 8
runs_begin s from n ids h m l =
    let z : n - 0 ≡ n = omega arith in
    record { runs = []; reading = rw z (begin run.read s from n h); upto = omega arith; most = m; long = l; so_far = sym image_none; kept = refl }

module _ {s : List ℕ} {from n : ℕ} {ids : List ℕ} {k at fault : ℕ} (p : RunsSeen s from n ids k at fault) where
  pub runs_at : at ≤ length s
  runs_at = p.reading.within

  pub ids_in : k ≤ length ids
  ids_in = omega (arith, p.upto, p.most, p.long)

  pub id_place : k < n → k < length ids
  id_place h = omega (arith, p.most, p.long)

  pub runs_end : n ≤ k → JudgedFound s (faults image_checks (read_many run.read n (drop from s))) (At at fault)
  runs_end h =
      let z : n - k ≤ 0 = omega arith in
      record { meaning = rw (all_read p.reading z, p.so_far); inside = p.reading.within }

  module _ (h : k < n) {r : RunRead} (f : RunFound s (run_head.read (drop at s)) r) where
    here : 0 < n - k
    here = omega arith

    stops : {j : ℕ} → run.read (drop at s) ≡ stop j → JudgedFound s (faults image_checks (read_many run.read n (drop from s))) (Stop j)
    stops {j} e = record { meaning = rw (stopped p.reading {k = j} here e); inside = tt }

    pub head_stop : {j : ℕ} → r ≡ RunStop j → JudgedFound s (faults image_checks (read_many run.read n (drop from s))) (Stop j)
    head_stop q = stops (run_is (drop at s) ∙ rw (← f.meaning, q))

    module _ {i m next : ℕ} (q : r ≡ RunAt i m next) where
      pub views_from : next ≤ length s
      views_from = rw q at f.inside

      module _ {w : Judged} (x : JudgedFound s (faults views_checks (read_many view.read m (drop next s))) w) where
        pub run_stop : {j : ℕ} → w ≡ Stop j → JudgedFound s (faults image_checks (read_many run.read n (drop from s))) (Stop j)
        run_stop {j} y =
            let e : read_many view.read m (drop next s) ≡ stop j = judge_stop views_checks (read_many view.read m (drop next s)) j (sym (ap (judged s) y) ∙ x.meaning) in
            stops (run_is (drop at s) ∙ rw (← f.meaning, q, e))

        pub runs_onward :
            {past a b c d : ℕ}
            → w ≡ At past a
            → b ≡ fault_of (ordered (not (has i (take k ids))))
            → c ≡ min a b
            → d ≡ min fault c
            → RunsSeen s from n (set ids k i) (k + 1) past d
        runs_onward {past} {a} {b} {c} {d} y hb hc hd =
            let j = judge views_checks s (read_many view.read m (drop next s)) past a (sym (ap (judged s) y) ∙ x.meaning) in
            let e : run.read (drop at s) ≡ got (run_of i j.value) (drop past s) = run_got (drop at s) (drop next s) (drop past s) i m j.value (sym f.meaning ∙ rw q) j.is in
            let z : n - k - 1 ≡ n - (k + 1) = omega arith in
            let l : k < length ids = omega (arith, p.most, p.long) in
            record {
              runs = p.runs ++ (run_of i j.value ∷ []);
              reading = rw z at (onward p.reading here e (rw y at x.inside));
              upto = omega arith;
              most = p.most;
              long = length-set ids k i ∙ p.long;
              so_far = runs_step p.runs (run_of i j.value) p.so_far j.fault_is (hb ∙ ap (λ l. fault_of (ordered (not (has i l)))) p.kept) hc hd;
              kept = rw (add-one, take-suc-set ids k i l, p.kept) (sym (map-append _ p.runs (run_of i j.value ∷ [])));
            }

pub ruleset runs_exits = (runs_begin, runs_at, ids_in, id_place, runs_end, head_stop, views_from, run_stop, runs_onward)

-- ---- image_front
counted_within : (most : ℕ) (t : Bool) (w n : ℕ) (l r : List ℕ) → t ≡ leb w most → got n r ≡ taken (check 3 t (answer w)) l → n ≤ most
counted_within most true w n l r e h = let z : n ≡ w = cc in rw z (leb-true w most (sym e))
counted_within most false w n l r e h = absurd (let z : ◌≡◌ {A = ℕ} 0 1 = cc in omega arith)

pub count_within : (most : ℕ) (g : Got ℕ) (n : ℕ) (r : List ℕ) → got n r ≡ and_then g (λ w l. taken (count_of most w) l) → n ≤ most
unfolding count_of
count_within most (got w l) n r h = counted_within most (leb w most) w n l r refl h
count_within most (stop k) n r h = absurd (let z : ◌≡◌ {A = ℕ} 0 1 = cc in omega arith)

module _ (s : List ℕ) {r : CountRead} (f : CountFound s ((up_to 1 64).read (drop 0 s)) r) where
  pub no_runs_lem : {k : ℕ} → r ≡ CountStop k → JudgedFound s (faults image_checks (image.read s)) (Stop k)
  no_runs_lem q = record { meaning = rw (image_is s, ← f.meaning, q); inside = tt }

  pub all_runs : {n first : ℕ} {w : Judged} → r ≡ CountAt n first → JudgedFound s (faults image_checks (read_many run.read n (drop first s))) w → JudgedFound s (faults image_checks (image.read s)) w
  all_runs {n} {first} q x =
      let z : image.read s ≡ read_many run.read n (drop first s) = image_is s ∙ rw (← f.meaning, q) in
      record { meaning = x.meaning ∙ sym (ap (faults image_checks) z); inside = x.inside }

-- a count that was read is within its ceiling
pub count_most : {s : List ℕ} {r : CountRead} {n first : ℕ} → CountFound s ((up_to 1 64).read (drop 0 s)) r → r ≡ CountAt n first → n ≤ 64
count_most {s} {r} {n} {first} f q = count_within 64 (read_number 1 (drop 0 s)) n (drop first s) (rw q at f.meaning)

pub first_place : {s : List ℕ} {r : CountRead} {n first : ℕ} → CountFound s ((up_to 1 64).read (drop 0 s)) r → r ≡ CountAt n first → first ≤ length s
first_place f q = rw q at f.inside

pub ruleset image_exits = (no_runs_lem, all_runs, count_most, first_place)
