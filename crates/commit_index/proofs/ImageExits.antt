-- What the loop over an image's runs keeps: the runs read so far, the first of the checks 4 to 7 that these fail, and their rows.
-- Assumes nothing.
use Prim.Native.Nat.{ℕ, suc, ◌+◌, ◌*◌, ◌-◌, ◌≤◌, ◌<◌}
use native.Mathlib.Omega.{arith}
use native.Mathlib.Nat.{le_antisymm}
use mathlib.Core.Path.{◌≡◌, refl, sym, ap, ◌∙◌}
use mathlib.Core.Bool.{Bool, true, false, not, ◌||◌}
use mathlib.Core.List.{List, [], ◌∷◌, ◌++◌, map}
use lib.ListN.{length, get_or, take, drop, length-append, length-drop}
use lib.Seq.{slice, slice-cons, slice_empty, take_all}
use lib.Dec.{T, eqb}
use borrow.Author.Tests.{eq-eqb}
use Rattle.base.specs.Rows.{RowsHold, hold_none, hold_more}
use Rattle.base.specs.Splice.{splice, spliced_length}
use Rattle.format.specs.Got.{got, stop, and_then}
use Rattle.records.specs.Form.{read_many}
use Rattle.records.specs.Found.{is_got}
use Rattle.records.specs.Values.{Run}
use Rattle.records.specs.Layouts.{view, run}
use Rattle.records.specs.Spans.{RunFound, run_head}
use Rattle.records.specs.declared.runs.RunRead.{RunRead}
use Rattle.records.specs.declared.runs.RunRead.TheVariants.{At as HeadAt, Stop as HeadStop}
use Rattle.records.proofs.Many.{Reading, begin, stopped, onward, all_read}
use Rattle.records.proofs.FieldExits.{number_is}
use Rattle.records.proofs.Forms.{read_many_length}
use Rattle.records.proofs.HeadExits.{run_of}
use Rattle.records.proofs.RunsThere.{run_stops, run_opened, views_place, views_most}
use Rattle.records.proofs.ThereExits.{head_room, run_is as there-run}
use Rattle.manifest.specs.Checks.{image_checks, has}
use Rattle.manifest.specs.Faults.{fault_of, least, ordered, views_checks}
use Rattle.manifest.specs.Spans.{faults, judged, JudgedFound}
use Rattle.commit_index.specs.Index.{indexed_numbers, row_ids, RunIs, RunPassed, RunsIndexed}
use Rattle.manifest.specs.declared.images.Judged.{Judged}
use Rattle.manifest.specs.declared.images.Judged.TheVariants.{At, Stop}
use Rattle.commit_index.specs.declared.RunJudged.{RunJudged}
use Rattle.commit_index.specs.declared.RunJudged.TheVariants.{At as RunAt, Stop as RunStop}
use Rattle.commit_index.specs.declared.runs.IndexedRun.{IndexedRun}
use Rattle.commit_index.proofs.RunRows.{ids_length, id_number, held_ids}
use Rattle.manifest.proofs.Steps.{image_none, image_more}
use Rattle.manifest.proofs.ImageExits.{Unshared, unshared_none, unshared_more, judge, judge_stop}

-- ---- id_among
module _ {l : List ℕ} {n id i : ℕ} (p : Unshared l n id i) where
  step : i < n → has id (take n l) ≡ (eqb id (get_or l i 0) || has id (slice (suc i) n l))
  unfolding has
  step h = p.rest ∙ ap (has id) (slice-cons i n l 0 h p.long)

  pub shared : i < n → get_or l i 0 ≡ id → has id (take n l) ≡ true
  shared h e = rw (step h, eq-eqb id (get_or l i 0) (sym e))

  pub unshared_all : n ≤ i → has id (take n l) ≡ false
  unfolding has
  unshared_all h = rw (p.rest, le_antisymm p.upto h, slice_empty)

-- the same of the ids of rows
pub record NotYet (t : List ℕ) (n id i : ℕ) : Type 0 where
  pub none : Unshared (row_ids n t) n id i

pub none_yet : (t : List ℕ) (n id : ℕ) → NotYet t n id 0
none_yet t n id = record { none = unshared_none (row_ids n t) n id (omega (arith, ids_length n t)) }

module _ {t : List ℕ} {n id i : ℕ} (p : NotYet t n id i) where
  all_ids : take n (row_ids n t) ≡ row_ids n t
  all_ids = take_all n (row_ids n t) (omega (arith, ids_length n t))

  pub not_all : n ≤ i → false ≡ has id (row_ids n t)
  not_all h = sym (ap (has id) (sym all_ids) ∙ unshared_all p.none h)

  module _ (h : i < n) where
    pub this_one : get_or t (i * 4) 0 ≡ id → true ≡ has id (row_ids n t)
    this_one e = sym (ap (has id) (sym all_ids) ∙ shared p.none h (id_number n i t h ∙ e))

    pub not_this : (get_or t (i * 4) 0 ≡ id → ⊥) → NotYet t n id (i + 1)
    not_this e = record { none = unshared_more p.none h (λ q. e (sym (id_number n i t h) ∙ q)) }

pub ruleset among_exits = (none_yet, not_all, this_one, not_this)

-- ---- shared_fault
module _ (id n : ℕ) (t : List ℕ) {b : Bool} (e : b ≡ has id (row_ids n t)) where
  pub shared_id : b ≡ true → 6 ≡ fault_of (ordered (not (has id (row_ids n t))))
  unfolding fault_of
  shared_id q = rw (← e, q)

  pub unshared_id : b ≡ false → 8 ≡ fault_of (ordered (not (has id (row_ids n t))))
  unfolding fault_of
  unshared_id q = rw (← e, q)

pub ruleset shared_exits = (shared_id, unshared_id)

-- ---- run_judged
-- a run's head is six bytes
six_bytes : (s : List ℕ) (at i m next : ℕ) → next ≤ length s → run_head.read (drop at s) ≡ got (i, m) (drop next s) → next ≡ at + 6
six_bytes s at i m next h e =
    let t : T (is_got (run_head.read (drop at s))) = rw e tt in
    let l = head_room s at t in
    let x = there-run s at t (number_is s at 4 (omega arith)) (number_is s (at + 4) 2 (omega arith)) in
    let d : drop next s ≡ drop (at + 6) s = let y = sym e ∙ x.meaning in cc in
    let z : length s - next ≡ length s - (at + 6) = sym (length-drop next s) ∙ ap length d ∙ length-drop (at + 6) s in
    omega arith

module _ (s : List ℕ) (at : ℕ) {r : RunRead} (f : RunFound s (run_head.read (drop at s)) r) where
  pub head_stop : {k : ℕ} → r ≡ HeadStop k → RunPassed s (run.read (drop at s)) (RunStop k)
  head_stop q = record { is = run_stops s at f q }

  module _ {i m next : ℕ} (q : r ≡ HeadAt i m next) where
    views_from : next ≤ length s
    views_from = views_place s at f q

    module _ {w : Judged} (x : JudgedFound s (faults views_checks (read_many view.read m (drop next s))) w) where
      pub run_stop : {k : ℕ} → w ≡ Stop k → RunPassed s (run.read (drop at s)) (RunStop k)
      run_stop {k} y =
          let e : read_many view.read m (drop next s) ≡ stop k = judge_stop views_checks (read_many view.read m (drop next s)) k (sym (ap (judged s) y) ∙ x.meaning) in
          record { is = run_opened s at f q ∙ rw e }

      pub run_done : {past fault : ℕ} → w ≡ At past fault → RunPassed s (run.read (drop at s)) (RunAt (record { id = i; views = m; first = next; past = past }) fault)
      run_done {past} {fault} y =
          let j = judge views_checks s (read_many view.read m (drop next s)) past fault (sym (ap (judged s) y) ∙ x.meaning) in
          let g : run.read (drop at s) ≡ got (run_of i j.value) (drop past s) = run_opened s at f q ∙ ap (λ g. and_then g (λ vs q. got (run_of i vs) q)) j.is in
          record {
            is =
                record {
                  run = run_of i j.value;
                  is = g;
                  fault_is = j.fault_is;
                  held =
                      record {
                        id = refl;
                        count = sym (read_many_length view.read m (drop next s) j.value (drop past s) j.is);
                        few = views_most s at f q;
                        at = at;
                        first = six_bytes s at i m next views_from (sym f.meaning ∙ rw q);
                        views_from = views_from;
                        past = rw y at x.inside;
                        run_is = g;
                        views_are = j.is;
                      };
                };
          }

pub ruleset run_exits = (head_stop, run_stop, run_done)

-- ---- runs_indexed
abbrev ids_of : List Run → List ℕ
ids_of rs = map (λ r. r.id) rs

runs_step :
    (rs : List Run) (r : Run) {fault a b c d : ℕ}
    → fault ≡ fault_of (image_checks rs)
    → a ≡ fault_of (views_checks r.views)
    → b ≡ fault_of (ordered (not (has r.id (ids_of rs))))
    → c ≡ least a b
    → d ≡ least fault c
    → d ≡ fault_of (image_checks (rs ++ (r ∷ [])))
runs_step rs r hf ha hb hc hd = hd ∙ rw (hf, hc, ha, hb) (sym (image_more rs r))

pub record RunsSeen (s : List ℕ) (from n : ℕ) (d t : List ℕ) (k at fault : ℕ) : Type 0 where
  pub runs : List Run
  pub reading : Reading run.read s from n (n - k) at runs
  pub upto : k ≤ n
  pub count : length runs ≡ k
  pub room : n * 4 ≤ length d
  pub same : length t ≡ length d
  pub so_far : fault ≡ fault_of (image_checks runs)
  pub rows : RowsHold 4 (RunIs s) runs t

pub runs_begin : (s : List ℕ) (from n : ℕ) (d : List ℕ) → from ≤ length s → n * 4 ≤ length d → RunsSeen s from n d d 0 from 8
runs_begin s from n d h m =
    let z : n - 0 ≡ n = omega arith in
    record {
      runs = [];
      reading = rw z (begin run.read s from n h);
      upto = omega arith;
      count = refl;
      room = m;
      same = refl;
      so_far = sym image_none;
      rows = hold_none 4 (RunIs s) d;
    }

module _ {s : List ℕ} {from n : ℕ} {d t : List ℕ} {k at fault : ℕ} (p : RunsSeen s from n d t k at fault) where
  pub runs_end : n ≤ k → RunsIndexed s (read_many run.read n (drop from s)) d t (At at fault)
  runs_end h =
      let z : n - k ≤ 0 = omega arith in
      let e = all_read p.reading z in
      record { found = record { meaning = rw (e, p.so_far); inside = p.reading.within }; kept = rw e p.rows; same = p.same }

  module _ (h : k < n) where
    row_room : k * 4 + 4 ≤ length t
    row_room = omega (arith, p.room, p.same)

    row_same : (x : IndexedRun) {u : List ℕ} → u ≡ splice t (k * 4) (indexed_numbers x) → length u ≡ length d
    row_same x e = spliced_length t (k * 4) (indexed_numbers x) e row_room ∙ p.same

    here : 0 < n - k
    here = omega arith

    module _ {w : RunJudged} (x : RunPassed s (run.read (drop at s)) w) where
      pub runs_stop : {j : ℕ} → w ≡ RunStop j → RunsIndexed s (read_many run.read n (drop from s)) d t (Stop j)
      runs_stop {j} y =
          record { found = record { meaning = rw (stopped p.reading {k = j} here (rw y at x.is)); inside = tt }; kept = tt; same = p.same }

      pub runs_onward :
          {r : IndexedRun} {a b c e : ℕ} {u : List ℕ}
          → w ≡ RunAt r a
          → b ≡ fault_of (ordered (not (has r.id (row_ids k t))))
          → c ≡ least a b
          → e ≡ least fault c
          → u ≡ splice t (k * 4) (indexed_numbers r)
          → RunsSeen s from n d u (k + 1) r.past e
      runs_onward {r} {a} {b} {c} {e} {u} y hb hc he hu =
          let v = rw y at x.is in
          let z : n - k - 1 ≡ n - (k + 1) = omega arith in
          let l : length p.runs * 4 + 4 ≤ length t = omega (arith, p.count, row_room) in
          let o : RowsHold 4 (RunIs s) (p.runs ++ (v.run ∷ [])) (splice t (length p.runs * 4) (indexed_numbers r))
          = hold_more 4 (RunIs s) v.run (indexed_numbers r) p.rows refl l v.held in
          let ids : row_ids k t ≡ ids_of p.runs = rw p.count at (held_ids s p.runs t p.rows) in
          let i : has r.id (row_ids k t) ≡ has v.run.id (ids_of p.runs) = rw (ids, v.held.id) in
          record {
            runs = p.runs ++ (v.run ∷ []);
            reading = rw z at (onward p.reading here v.is v.held.past);
            upto = omega arith;
            count = rw length-append (omega (arith, p.count));
            room = p.room;
            same = row_same r hu;
            so_far = runs_step p.runs v.run p.so_far v.fault_is (hb ∙ ap (λ b. fault_of (ordered (not b))) i) hc he;
            rows = rw hu (rw p.count at o);
          }

pub ruleset runs_exits = (runs_begin, runs_end, runs_stop, runs_onward)
