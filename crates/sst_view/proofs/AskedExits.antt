-- What is given to a lookup: the checks of an image and an asked range together are the asked range's check 4 and the image's
-- first failing check, computed at all values of the checks.
-- Assumes nothing.
use Prim.Native.Nat.{ℕ, ◌≤◌, ◌<◌}
use native.Mathlib.Omega.{arith}
use mathlib.Core.Path.{◌≡◌, refl, sym, ap, ◌∙◌}
use mathlib.Core.Bool.{Bool, true, false, false≢true}
use mathlib.Core.List.{List, []}
use lib.ListN.{length}
use lib.Seq.{take_all}
use lib.Dec.{T, leb}
use borrow.Author.Tests.{le-leb, lt-leb}
use Rattle.base.specs.Outcome.{Outcome, answer, stop, and_then, check}
use Rattle.comparable_range.specs.Range.{Bound, Range, bound_of, non_empty}
use Rattle.comparable_range.specs.declared.Kind.{Kind}
use Rattle.format.specs.Got.{got}
use Rattle.format.specs.Whole.{whole}
use Rattle.format.specs.Given.{bound_given, given_of}
use Rattle.format.specs.declared.given.Given.{Given}
use Rattle.format.specs.declared.given.Given.TheVariants.{Bound as GivenBound, Stop as GivenStop}
use Rattle.format.specs.Range.{read_range, range_in, BoundInside, RangeWhole}
use Rattle.format.specs.declared.range.BoundSpan.{BoundSpan}
use Rattle.format.specs.declared.range.RangeRead.{RangeRead}
use Rattle.format.specs.declared.range.RangeRead.TheVariants.{At as RangeAt, Stop as RangeStop}
use Rattle.format.specs.declared.span.RangeSpan.{RangeSpan}
use Rattle.records.specs.Values.{Image}
use Rattle.records.specs.Found.{is_got, values_of}
use Rattle.records.specs.Layouts.{image}
use Rattle.manifest.specs.Checks.{Checks, checked, joined, image_checks}
use Rattle.manifest.specs.Faults.{fault_of}
use Rattle.manifest.specs.Spans.{JudgedWhole, judged_whole}
use Rattle.manifest.specs.declared.images.Judged.{Judged}
use Rattle.manifest.specs.declared.images.Judged.TheVariants.{At as JudgedAt, Stop as JudgedStop}
use Rattle.manifest.proofs.Given.{Numbered, numbered, stopped_is, whole_read}
use Rattle.partitioned_keyspace.specs.Asked.{asked_checks}
use Rattle.db_state.specs.LookupCalls.{RangeAsked, checked_asked, image_and_range}
use Rattle.sst_view.specs.Asked.{range_at, SpanInside, range_asked, range_outcome, RangeChecked, ImageRead, asked, AskedFound, image_end_and_range, EndFound}
use Rattle.sst_view.specs.declared.asked.Asked.{Asked}
use Rattle.sst_view.specs.declared.asked.Asked.TheVariants.{Range as AskedRange, Stop as AskedStop}
use Rattle.sst_view.specs.declared.asked.EndAsked.TheVariants.{At as EndAt, Stop as EndStop}

-- ---- the checks of both
abbrev checks : Bool → Bool → Bool → Bool → Checks
checks a b c d = record { ranges = a; tables = b; order = c; sizes = d }

abbrev checked_range : ℕ → Range → Outcome Range
checked_range fault r = check 4 (non_empty r) (check fault (leb 8 fault) (answer r))

checked_both : (i : Image) (r : Range) → checked_asked i r ≡ and_then (checked_range (fault_of (image_checks i)) r) (λ r. answer (record { image = i; range = r }))
unfolding fault_of asked_checks
checked_both i r = go (image_checks i).ranges (image_checks i).tables (image_checks i).order (image_checks i).sizes (non_empty r)
  where
    go :
        (a b c d t : Bool)
        → ◌≡◌ {A = Outcome RangeAsked} (checked (joined (checks a b c d) (checks t true true true)) (answer (record { image = i; range = r })))
        (and_then (check 4 t (check (fault_of (checks a b c d)) (leb 8 (fault_of (checks a b c d))) (answer r))) (λ r. answer (record { image = i; range = r })))
    go false b c d true = refl
    go false b c d false = refl
    go true b c d false = refl
    go true false c d true = refl
    go true true false d true = refl
    go true true true false true = refl
    go true true true true true = refl

pub checked_after :
    (i : Image) (fault : ℕ)
    → fault ≡ fault_of (image_checks i)
    → (o : Outcome Range)
    → and_then o (λ r. checked_asked i r)
    ≡ and_then (and_then o (λ r. checked_range fault r)) (λ r. answer (record { image = i; range = r }))
checked_after i fault e (stop k) = refl
checked_after i fault e (answer r) = rw e (checked_both i r)

-- ---- range_asked
module _ (q : List ℕ) (fault : ℕ) {w : RangeRead} (x : RangeWhole q w) where
  pub range_not_read : {k : ℕ} → w ≡ RangeStop k → RangeChecked q (range_asked fault q) (AskedStop k)
  unfolding range_asked
  range_not_read e = record { meaning = rw (← x.meaning, e); inside = tt }

  module _ {start end : BoundSpan} {next : ℕ} (e : w ≡ RangeAt start end next) where
    pub asked_start : BoundInside q start
    asked_start = (rw e at x.inside).0

    pub asked_end : BoundInside q end
    asked_end = (rw e at x.inside).1.0

    module _ {t : Bool} (p : t ≡ non_empty (range_in q start end)) where
      pub range_fails : t ≡ false → RangeChecked q (range_asked fault q) (AskedStop 4)
      unfolding range_asked
      range_fails h = record { meaning = rw (← x.meaning, e, ← p, h); inside = tt }

      pub image_fails : t ≡ true → fault < 8 → RangeChecked q (range_asked fault q) (AskedStop fault)
      unfolding range_asked
      image_fails h l = record { meaning = rw (← x.meaning, e, ← p, h, lt-leb 8 fault l); inside = tt }

      pub both_pass : t ≡ true → 8 ≤ fault → RangeChecked q (range_asked fault q) (AskedRange (record { start = start; end = end }))
      unfolding range_asked
      both_pass h l =
          record {
            meaning = rw (← x.meaning, e, ← p, h, le-leb 8 fault l);
            inside = record { start = asked_start; end = asked_end };
          }

pub ruleset range_exits = (range_not_read, asked_start, asked_end, range_fails, image_fails, both_pass)

-- an image that passes with a range passes check 5
faults_pass : (c : Checks) → leb 8 (fault_of c) ≡ true → c.tables ≡ true
unfolding fault_of
faults_pass c h = go c.ranges c.tables c.order c.sizes h
  where
    go : (a b c d : Bool) → leb 8 (fault_of (checks a b c d)) ≡ true → b ≡ true
    go a true c d h = refl
    go true false c d h = absurd (false≢true h)
    go false false c d h = absurd (false≢true h)

passes_with : (fault : ℕ) (q : List ℕ) {r : Range} → answer r ≡ range_asked fault q → leb 8 fault ≡ true
unfolding range_asked
passes_with fault q {r} e = go (whole read_range q) e
  where
    by_tests : (t u : Bool) (s : Range) → answer r ≡ check 4 t (check fault u (answer s)) → u ≡ true
    by_tests true true s e = refl
    by_tests true false s e = absurd (let z : ◌≡◌ {A = ℕ} 0 1 = cc in omega arith)
    by_tests false u s e = absurd (let z : ◌≡◌ {A = ℕ} 0 1 = cc in omega arith)

    go : (o : Outcome Range) → answer r ≡ and_then o (λ r. checked_range fault r) → leb 8 fault ≡ true
    go (stop k) e = absurd (let z : ◌≡◌ {A = ℕ} 0 1 = cc in omega arith)
    go (answer s) e = by_tests (non_empty s) (leb 8 fault) s e

-- ---- an image that was judged
module _ (l : List ℕ) {w : Judged} (x : JudgedWhole l image_checks (whole image.read l) w) where
  not_read : {k : ℕ} → w ≡ JudgedStop k → whole image.read l ≡ stop k
  not_read {k} e = stopped_is image_checks (whole image.read l) k (sym (ap judged_whole e) ∙ x.meaning)

  module _ {next fault : ℕ} (e : w ≡ JudgedAt next fault) where
    here : Numbered image_checks (whole image.read l) fault
    here = numbered image_checks (whole image.read l) fault (sym (ap judged_whole e) ∙ x.meaning)

    read : image.read l ≡ got here.value []
    read = (whole_read image.read l here.value here.is).all

    passed : (q : List ℕ) {r : Range} → answer r ≡ range_asked fault q → ImageRead l
    unfolding image_checks
    passed q h =
        record { there = rw read tt; tables = rw read (faults_pass (image_checks here.value) (rw here.fault_is at (passes_with fault q h))) }

-- ---- image_and_range
module _ (l q : List ℕ) {w : Judged} (x : JudgedWhole l image_checks (whole image.read l) w) where
  pub image_not_read : {k : ℕ} → w ≡ JudgedStop k → AskedFound l q (image_and_range l q) (AskedStop k)
  unfolding image_and_range
  image_not_read e = record { meaning = rw (not_read l x e); read = tt; inside = tt }

  module _ {next fault : ℕ} (e : w ≡ JudgedAt next fault) where
    -- the outcome, by the asked range's
    both_is : image_and_range l q ≡ and_then (range_asked fault q) (λ r. answer (record { image = values_of (image.read l); range = r }))
    unfolding image_and_range range_asked
    both_is =
        let i = here l x e in
        rw (i.is, read l x e) (checked_after i.value fault i.fault_is (whole read_range q))

    by_cases : (r : Asked) → RangeChecked q (range_asked fault q) r → AskedFound l q (image_and_range l q) r
    by_cases (AskedStop k) y = record { meaning = sym (both_is ∙ rw (← y.meaning)); read = tt; inside = tt }
    by_cases (AskedRange r) y = record { meaning = sym (both_is ∙ rw (← y.meaning)); read = passed l x e q y.meaning; inside = y.inside }

    pub image_read : {r : Asked} → RangeChecked q (range_asked fault q) r → AskedFound l q (image_and_range l q) r
    image_read {r} y = by_cases r y

pub ruleset asked_exits = (image_not_read, image_read)

-- ---- image_end_and_range
then_then : {A B C : Type 0} (o : Outcome A) (f : A → Outcome B) (g : B → Outcome C) → and_then o (λ a. and_then (f a) g) ≡ and_then (and_then o f) g
then_then (stop k) f g = refl
then_then (answer a) f g = refl

module _ (l key q : List ℕ) (number : ℕ) {w : Judged} (x : JudgedWhole l image_checks (whole image.read l) w) where
  pub end_image_not_read : {k : ℕ} → w ≡ JudgedStop k → EndFound l key q (image_end_and_range l number key q) (EndStop k)
  unfolding image_end_and_range
  end_image_not_read e = record { meaning = rw (not_read l x e); inside = tt }

  module _ {next fault : ℕ} (e : w ≡ JudgedAt next fault) {g : Given} (y : given_of key g ≡ bound_given number key) where
    pub end_not_given : {k : ℕ} → g ≡ GivenStop k → EndFound l key q (image_end_and_range l number key q) (EndStop k)
    unfolding image_end_and_range
    end_not_given h = record { meaning = rw ((here l x e).is, ← y, h); inside = tt }

    module _ {j : Kind} (h : g ≡ GivenBound j) where
      -- the outcome, by the asked range's
      end_is : image_end_and_range l number key q ≡ and_then (range_asked fault q) (λ r. answer (bound_of j key, record { image = values_of (image.read l); range = r }))
      unfolding image_end_and_range range_asked
      end_is =
          let i = here l x e in
          let b : bound_given number key ≡ answer (bound_of j key) = sym y ∙ rw h in
          let f : RangeAsked → Outcome (Bound × RangeAsked) = λ a. answer (bound_of j key, a) in
          let c = then_then (whole read_range q) (λ r. checked_asked i.value r) f in
          let d = checked_after i.value fault i.fault_is (whole read_range q) in
          let m = then_then (range_asked fault q) (λ r. answer (record { image = i.value; range = r })) f in
          rw (i.is, b, read l x e) (c ∙ (ap (λ o. and_then o f) d ∙ sym m))

      pub end_no_range : {r : Asked} {k : ℕ} → RangeChecked q (range_asked fault q) r → r ≡ AskedStop k → EndFound l key q (image_end_and_range l number key q) (EndStop k)
      end_no_range z u = record { meaning = sym (end_is ∙ rw (← z.meaning, u)); inside = tt }

      pub end_given :
          {r : Asked} {s : RangeSpan}
          → RangeChecked q (range_asked fault q) r
          → r ≡ AskedRange s
          → EndFound l key q (image_end_and_range l number key q) (EndAt (record { kind = j; at = 0; len = length key }) s)
      end_given {r} {s} z u =
          let m : answer (range_at q s) ≡ range_asked fault q = sym (ap (range_outcome q) u) ∙ z.meaning in
          record {
            meaning = sym (end_is ∙ rw (← m, take_all (length key) key (omega arith)));
            inside = record { read = passed l x e q m; end = omega arith; range = rw u at z.inside };
          }

pub ruleset end_exits = (end_image_not_read, end_not_given, end_no_range, end_given)

-- ---- what a call goes on with
module _ {l q : List ℕ} {w : Asked} (x : AskedFound l q (image_and_range l q) w) where
  pub not_given : {k : ℕ} → w ≡ AskedStop k → image_and_range l q ≡ stop k
  not_given e = sym x.meaning ∙ rw e

  module _ {r : RangeSpan} (e : w ≡ AskedRange r) where
    pub given : image_and_range l q ≡ answer (asked l q r)
    given = sym x.meaning ∙ rw e

    pub image_passes : ImageRead l
    image_passes = rw e at x.read

    pub image_given_lem : T (is_got (image.read l))
    image_given_lem = image_passes.there

    pub range_given_lem : SpanInside q r
    range_given_lem = rw e at x.inside

pub ruleset given_exits = (image_given_lem, range_given_lem)
