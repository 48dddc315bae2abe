-- A run is its head and its views, a counted list its count and its values; and the exits of `run_span` and `count_at`.
-- Assumes nothing.
use Prim.Native.Nat.{ℕ, ◌+◌, ◌*◌, ◌-◌, ◌/◌, ◌%◌, ◌^◌, ◌<◌, ◌≤◌}
use native.Mathlib.Omega.{arith}
use mathlib.Core.Path.{◌≡◌, refl, sym}
use mathlib.Core.List.{List}
use lib.ListN.{length, drop, length-drop}
use mir.Val.{Fits}
use mir.Syntax.{w64}
use borrow.Author.Tests.{le-leb, lt-leb, eq-eqb, ne_eqb}
use Rattle.format.specs.Got.{Got, got, stop, and_then}
use Rattle.format.specs.Number.{read_number}
use Rattle.records.specs.Form.{Form, number, read_many}
use Rattle.records.specs.Values.{View, Run}
use Rattle.records.specs.Layouts.{up_to, count_of, view_count, view_count_of, counted, view, run, image}
use Rattle.records.specs.Spans.{run_head, RunFound, CountFound}
use Rattle.records.specs.declared.runs.RunRead.TheVariants.{At as RunAt, Stop as RunStop}
use Rattle.records.specs.declared.runs.CountRead.TheVariants.{At, Stop}
use Rattle.records.proofs.FieldExits.{number_short, number_exact, packed_short, seq_short}

-- ---- a count, and as many values
after_count : {A : Type 0} (g : Got ℕ) (m : ℕ → List ℕ → Got (List A)) → and_then {A = ℕ × List A} (and_then g (λ n r. and_then (m n r) (λ b q. got (n, b) q))) (λ p q. got p.1 q) ≡ and_then g m
after_count {A} (got n r) m = go (m n r)
  where
    go : (h : Got (List A)) → and_then {A = ℕ × List A} (and_then h (λ b q. got (n, b) q)) (λ p q. got p.1 q) ≡ h
    go (got b q) = refl
    go (stop k) = refl
after_count (stop k) m = refl

pub counted_is : {A : Type 0} (count : Form ℕ) (f : Form A) (l : List ℕ) → (counted count f).read l ≡ and_then (count.read l) (read_many f.read)
counted_is count f l = after_count (count.read l) (read_many f.read)

pub image_is : (l : List ℕ) → image.read l ≡ and_then ((up_to 1 64).read l) (read_many run.read)
unfolding image
image_is l = counted_is (up_to 1 64) run l

-- ---- a run's head, and its views
abbrev pub run_of : ℕ → List View → Run
run_of i vs = record { id = i; views = vs }

head_first :
    (g : Got ℕ) (c : List ℕ → Got ℕ) (m : ℕ → List ℕ → Got (List View))
    → and_then {A = ℕ × List View} (and_then g (λ i r. and_then (and_then (c r) m) (λ vs q. got (i, vs) q))) (λ p q. got (run_of p.0 p.1) q)
    ≡ and_then {A = ℕ × ℕ} (and_then g (λ i r. and_then (c r) (λ n q. got (i, n) q))) (λ h r. and_then (m h.1 r) (λ vs q. got (run_of h.0 vs) q))
head_first (stop k) c m = refl
head_first (got i r) c m = go (c r)
  where
    views : (h : Got (List View)) → and_then {A = ℕ × List View} (and_then h (λ vs q. got (i, vs) q)) (λ p q. got (run_of p.0 p.1) q) ≡ and_then h (λ vs q. got (run_of i vs) q)
    views (got vs q) = refl
    views (stop k) = refl

    go : (h : Got ℕ) → and_then {A = ℕ × List View} (and_then (and_then h m) (λ vs q. got (i, vs) q)) (λ p q. got (run_of p.0 p.1) q) ≡ and_then {A = ℕ × ℕ} (and_then h (λ n q. got (i, n) q)) (λ h r. and_then (m h.1 r) (λ vs q. got (run_of h.0 vs) q))
    go (stop k) = refl
    go (got n q) = views (m n q)

pub run_is : (l : List ℕ) → run.read l ≡ and_then (run_head.read l) (λ h r. and_then (read_many view.read h.1 r) (λ vs q. got (run_of h.0 vs) q))
unfolding run
run_is l =
    simp (counted_is view_count view) (head_first (read_number 4 l) view_count.read (read_many view.read))

-- ---- run_span
module _ (s : List ℕ) (at : ℕ) where
  pub no_head : at ≤ length s → length s - at < 6 → RunFound s (run_head.read (drop at s)) (RunStop 1)
  no_head h l =
      record {
        meaning = sym (seq_short (number 4) (λ id. view_count) 4 2 (number_short 4) (number_exact 4) (λ id. packed_short 2 view_count_of (λ n. n * 16) (λ n. n ≤ 1024)) (drop at s) (rw length-drop l));
        inside = tt;
      }

  pub id_there : 6 ≤ length s - at → at + 4 ≤ length s
  id_there h = omega arith

  pub count_there : 6 ≤ length s - at → at + 4 + 2 ≤ length s
  count_there h = omega arith

  pub count_fits : 6 ≤ length s - at → length s < 2 ^ 64 → Fits w64 (at + 4)
  count_fits h k = omega arith

  pub views_fit : 6 ≤ length s - at → length s < 2 ^ 64 → Fits w64 (at + 6)
  views_fit h k = omega arith

  module _ (h : 6 ≤ length s - at) {i w : ℕ} (e : read_number 4 (drop at s) ≡ got i (drop (at + 4) s)) (f : read_number 2 (drop (at + 4) s) ≡ got w (drop (at + 4 + 2) s)) where
    pub many_views_lem : 1024 < w / 16 → RunFound s (run_head.read (drop at s)) (RunStop 3)
    unfolding view_count_of
    many_views_lem l = record { meaning = rw (e, f, lt-leb (w / 16) 1024 l); inside = tt }

    pub padded : w / 16 ≤ 1024 → (w % 16 ≡ 0 → ⊥) → RunFound s (run_head.read (drop at s)) (RunStop 2)
    unfolding view_count_of
    padded l n = record { meaning = rw (e, f, le-leb (w / 16) 1024 l, ne_eqb (w % 16) 0 n); inside = tt }

    pub head_read : w / 16 ≤ 1024 → w % 16 ≡ 0 → RunFound s (run_head.read (drop at s)) (RunAt i (w / 16) (at + 6))
    unfolding view_count_of
    head_read l n =
        let z : at + 6 ≡ at + 4 + 2 = omega arith in
        record { meaning = rw (e, f, le-leb (w / 16) 1024 l, eq-eqb (w % 16) 0 n, z); inside = omega arith }

pub ruleset run_exits = (no_head, id_there, count_there, count_fits, views_fit, many_views_lem, padded, head_read)

-- ---- count_at
module _ (s : List ℕ) (at n most : ℕ) where
  pub no_count : at ≤ length s → length s - at < n → CountFound s ((up_to n most).read (drop at s)) (Stop 1)
  no_count h l = record { meaning = rw (number_short n (drop at s) (rw length-drop l)); inside = tt }

  pub count_in : at ≤ length s → n ≤ length s - at → at + n ≤ length s
  count_in h k = omega arith

  pub count_end : at ≤ length s → n ≤ length s - at → length s < 2 ^ 64 → Fits w64 (at + n)
  count_end h k l = omega arith

  module _ {v : ℕ} (e : read_number n (drop at s) ≡ got v (drop (at + n) s)) where
    pub over_most : most < v → CountFound s ((up_to n most).read (drop at s)) (Stop 3)
    unfolding count_of
    over_most l = record { meaning = rw (e, lt-leb v most l); inside = tt }

    pub count_read_lem : at ≤ length s → n ≤ length s - at → v ≤ most → CountFound s ((up_to n most).read (drop at s)) (At v (at + n))
    unfolding count_of
    count_read_lem h k l = record { meaning = rw (e, le-leb v most l); inside = omega arith }

pub ruleset count_exits = (no_count, count_in, count_end, over_most, count_read_lem)
