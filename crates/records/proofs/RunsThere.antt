-- Runs that are known to be there: their head is, and their views are.
-- Assumes nothing.
use Prim.Native.Nat.{ℕ, ◌/◌, ◌%◌, ◌<◌, ◌≤◌}
use native.Mathlib.Omega.{arith}
use mathlib.Core.Path.{◌≡◌, refl, sym, ap, ◌∙◌}
use mathlib.Core.Bool.{Bool, true, false}
use mathlib.Core.List.{List}
use lib.ListN.{length, drop}
use lib.Dec.{T, leb, eqb}
use borrow.Author.Tests.{leb-true}
use Rattle.base.specs.Outcome.{answer, check}
use Rattle.format.specs.Got.{Got, got, stop, and_then}
use Rattle.format.specs.Number.{read_number}
use Rattle.records.specs.Form.{read_many, taken}
use Rattle.records.specs.Found.{is_got, values_of}
use Rattle.records.specs.Values.{View}
use Rattle.records.specs.Layouts.{view, run, view_count, view_count_of}
use Rattle.records.specs.Spans.{run_head, RunFound}
use Rattle.records.specs.There.{RunThere}
use Rattle.records.specs.declared.runs.RunRead.{RunRead}
use Rattle.records.specs.declared.runs.RunRead.TheVariants.{At, Stop}
use Rattle.records.specs.declared.there.RunSpan.{RunSpan}
use Rattle.format.proofs.ThereExits.{first_got}
use Rattle.records.proofs.Many.{Reading, no_stop}
use Rattle.records.proofs.HeadExits.{run_of, run_is}

-- the next value of those that are there is there
pub here_got : {A : Type 0} {f : List ℕ → Got A} {s : List ℕ} {from n left at : ℕ} {seen : List A} → Reading f s from n left at seen → T (is_got (read_many f n (drop from s))) → 0 < left → T (is_got (f (drop at s)))
here_got {A} {f} {s} {from} {n} {left} {at} {seen} p t h = go (f (drop at s)) refl
  where
    go : (g : Got A) → f (drop at s) ≡ g → T (is_got (f (drop at s)))
    go (got a r) e = rw e tt
    go (stop k) e = absurd (no_stop p t h e)

views_of_lem : (i : ℕ) (g : Got (List View)) → T (is_got (and_then g (λ vs q. got (run_of i vs) q))) → T (is_got g)
views_of_lem i (got vs q) t = tt
views_of_lem i (stop k) t = t

-- a view count that was read is within its ceiling
tested : (a b : Bool) (w n : ℕ) (l r : List ℕ) → a ≡ leb w 1024 → got n r ≡ taken (check 3 a (check 2 b (answer w))) l → n ≤ 1024
tested true true w n l r e h = let z : n ≡ w = cc in rw z (leb-true w 1024 (sym e))
tested true false w n l r e h = absurd (let z : ◌≡◌ {A = ℕ} 0 1 = cc in omega arith)
tested false b w n l r e h = absurd (let z : ◌≡◌ {A = ℕ} 0 1 = cc in omega arith)

count_within : (g : Got ℕ) (n : ℕ) (r : List ℕ) → got n r ≡ and_then g (λ w l. taken (view_count_of w) l) → n ≤ 1024
unfolding view_count_of
count_within (got w l) n r h = tested (leb (w / 16) 1024) (eqb (w % 16) 0) (w / 16) n l r refl h
count_within (stop k) n r h = absurd (let z : ◌≡◌ {A = ℕ} 0 1 = cc in omega arith)

head_within : (g : Got ℕ) (c : List ℕ → Got ℕ) (i n : ℕ) (r : List ℕ) → ((l : List ℕ) → got n r ≡ c l → n ≤ 1024) → ◌≡◌ {A = Got (ℕ × ℕ)} (got (i, n) r) (and_then g (λ j l. and_then (c l) (λ m q. got (j, m) q))) → n ≤ 1024
head_within (stop k) c i n r h e = absurd (let z : ◌≡◌ {A = ℕ} 0 1 = cc in omega arith)
head_within (got j l) c i n r h e = go (c l) refl e
  where
    go : (g : Got ℕ) → c l ≡ g → ◌≡◌ {A = Got (ℕ × ℕ)} (got (i, n) r) (and_then g (λ m q. got (j, m) q)) → n ≤ 1024
    go (stop k) x y = absurd (let z : ◌≡◌ {A = ℕ} 0 1 = cc in omega arith)
    go (got m q) x y =
        let c : ◌≡◌ {A = ℕ × ℕ} (i, n) (j, m) = cc in
        let a : n ≡ m = ap (λ (p : ℕ × ℕ). p.1) c in
        let b : r ≡ q = cc in
        h l (sym (x ∙ rw (a, b)))

-- the value of a run that is there
pub record RunHere (s : List ℕ) (at i m next : ℕ) : Type 0 where
  pub rest : List ℕ
  pub is : run.read (drop at s) ≡ got (run_of i (values_of (read_many view.read m (drop next s)))) rest

run_value :
    (s : List ℕ) (at i m next : ℕ) (g : Got (List View))
    → read_many view.read m (drop next s) ≡ g
    → T (is_got g)
    → run.read (drop at s) ≡ and_then g (λ vs q. got (run_of i vs) q)
    → RunHere s at i m next
run_value s at i m next (got vs q) e t w = record { rest = q; is = w ∙ rw e }
run_value s at i m next (stop k) e t w = absurd t

module _ (s : List ℕ) (at : ℕ) {r : RunRead} (f : RunFound s (run_head.read (drop at s)) r) where
  pub run_stops : {k : ℕ} → r ≡ Stop k → run.read (drop at s) ≡ stop k
  run_stops q = run_is (drop at s) ∙ rw (← f.meaning, q)

  module _ {i m next : ℕ} (q : r ≡ At i m next) where
    pub run_opened : run.read (drop at s) ≡ and_then (read_many view.read m (drop next s)) (λ vs q. got (run_of i vs) q)
    run_opened = run_is (drop at s) ∙ rw (← f.meaning, q)

    pub views_place : next ≤ length s
    views_place = rw q at f.inside

    pub views_there : T (is_got (run.read (drop at s))) → T (is_got (read_many view.read m (drop next s)))
    views_there t = views_of_lem i (read_many view.read m (drop next s)) (rw run_opened at t)

    pub run_past :
        (e : ℕ)
        → read_many view.read m (drop next s) ≡ got (values_of (read_many view.read m (drop next s))) (drop e s)
        → run.read (drop at s) ≡ got (run_of i (values_of (read_many view.read m (drop next s)))) (drop e s)
    run_past e x = run_opened ∙ ap (λ g. and_then g (λ vs q. got (run_of i vs) q)) x

    pub views_most : m ≤ 1024
    views_most = head_within (read_number 4 (drop at s)) view_count.read i m (drop next s) (λ l e. count_within (read_number 2 l) m (drop next s) e) (rw q at f.meaning)

    pub run_here : T (is_got (run.read (drop at s))) → RunHere s at i m next
    run_here t = run_value s at i m next (read_many view.read m (drop next s)) refl (views_there t) run_opened

-- ---- the same, for a run's head that is known to be there
pub head_got : (s : List ℕ) (at : ℕ) → T (is_got (run.read (drop at s))) → T (is_got (run_head.read (drop at s)))
head_got s at t = first_got (run_head.read (drop at s)) _ (rw (run_is (drop at s)) at t)

module _ (s : List ℕ) (at : ℕ) {r : RunSpan} (f : RunThere s (run_head.read (drop at s)) r) where
  found : RunFound s (run_head.read (drop at s)) (At r.id r.views r.first)
  found = record { meaning = sym f.meaning; inside = f.inside }

  pub there_views : T (is_got (run.read (drop at s))) → T (is_got (read_many view.read r.views (drop r.first s)))
  there_views t = views_there s at found refl t

  pub there_past :
      (e : ℕ)
      → read_many view.read r.views (drop r.first s) ≡ got (values_of (read_many view.read r.views (drop r.first s))) (drop e s)
      → run.read (drop at s) ≡ got (run_of r.id (values_of (read_many view.read r.views (drop r.first s)))) (drop e s)
  there_past e x = run_past s at found refl e x

  pub there_most : r.views ≤ 1024
  there_most = views_most s at found refl

  pub there_here : T (is_got (run.read (drop at s))) → RunHere s at r.id r.views r.first
  there_here t = run_here s at found refl t
