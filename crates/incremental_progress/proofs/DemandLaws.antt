-- The laws on the words of demand 3.
-- Assumes nothing.
use Prim.Native.Nat.{ℕ, zero, suc, ◌+◌}
use native.Mathlib.Omega.{arith}
use mathlib.Core.Path.{◌≡◌, refl, sym, ap, ◌∙◌}
use mathlib.Core.Bool.{Bool, true, false, ◌&&◌, ◌||◌, true≢false}
use mathlib.Core.Option.{none, some}
use mathlib.Core.List.{List, [], ◌∷◌, ◌++◌, flat_map, append-nil}
use lib.Dec.{eqb}
use lib.ListN.{length, get_or, length-append}
use borrow.Author.Tests.{eq-eqb, ne_eqb}
use Rattle.base.specs.Pick.{pick}
use Rattle.key.specs.Order.{Key, key_below}
use Rattle.comparable_range.specs.Range.{Bound, unbounded, included, excluded, start_holds, end_holds, holds}
use Rattle.comparable_range.specs.Cut.{before}
use Rattle.comparable_range.proofs.Cut.{≼_refl}
use Rattle.comparable_range.proofs.Keyless.{equal_keys}
use Rattle.records.specs.Values.{Table, Part}
use Rattle.manifest.specs.Ranges.{own, effective}
use Rattle.manifest.specs.Checks.{has, is_excluded}
use Rattle.incremental_progress.specs.Intervals.{listed, to_range, any_holds, bit}
use Rattle.incremental_progress.specs.Views.{shown}
use Rattle.incremental_progress.specs.Parts.{key_of, last_written, is_key, up_to_key, durable, intervals, listings, listed_in, LaterPart, LaterParts, same_end, part_by_part}
use Rattle.incremental_progress.specs.Jobs.{expected}
use Rattle.incremental_progress.specs.Checks.{is_included}
use Rattle.incremental_progress.specs.Patterns.{Pattern, Fits, ended, same, any, AlikeBut, both_ended, equal, free}
use Rattle.incremental_progress.specs.Demand.{LaterRecord, none_yet, only, and-then}
use Rattle.incremental_progress.specs.DemandLaws.{ViewsAddUp, ListingsAddUp, DurableKeys, ExpectedCounts, OtherBytesCount, part_at, HasPart, further, LaterRecords, RecordByRecord, FittingBytes, AlikeBytes}
use Rattle.base.specs.Lists.{flat_map_append}
use Rattle.incremental_progress.proofs.Span.{none_within}
use Rattle.incremental_progress.proofs.Subtraction.{holds_within}
use Rattle.incremental_progress.proofs.Views.{shown_append}
use Rattle.incremental_progress.proofs.Job.{any_append}
use Rattle.incremental_progress.proofs.Later.{later_self}
use Rattle.incremental_progress.proofs.Outcomes.{same_answer}

-- ---- counts
bit_yes : (a b : Bool) → a ≡ true → b ≡ true → bit (a && b) + 0 ≡ 1
bit_yes a b e f = rw (e, f)

bit_first : (a b : Bool) → a ≡ false → bit (a && b) + 0 ≡ 0
bit_first a b e = rw e

bit_second : (a b : Bool) → b ≡ false → bit (a && b) + 0 ≡ 0
bit_second true b e = rw e
bit_second false b e = refl

pub views_add_up : ViewsAddUp
unfolding shown
views_add_up =
    record {
      once = λ q x v. bit_yes (q v.table) (holds (effective v) x);
      other_table = λ q x v. bit_first (q v.table) (holds (effective v) x);
      other_key = λ q x v. bit_second (q v.table) (holds (effective v) x);
      together = shown_append;
    }

listings_append : (q : Table → Bool) (x : Key) (s t : List Table) → listings q x (s ++ t) ≡ listings q x s + listings q x t
unfolding listings
listings_append q x [] t = omega arith
listings_append q x (u ∷ s) t = omega (arith, listings_append q x s t)

listed_append : (q : Table → Bool) (x : Key) (s t : List Part) → listed_in q x (s ++ t) ≡ listed_in q x s + listed_in q x t
unfolding listed_in
listed_append q x [] t = omega arith
listed_append q x (p ∷ s) t = omega (arith, listed_append q x s t)

pub listings_add_up : ListingsAddUp
unfolding listings listed_in
listings_add_up =
    record {
      once = λ q x t. bit_yes (q t) (holds (own t) x);
      other_table = λ q x t. bit_first (q t) (holds (own t) x);
      other_key = λ q x t. bit_second (q t) (holds (own t) x);
      together = listings_append;
      one_part = λ q x p. omega arith;
      parts_together = listed_append;
    }

-- ---- intervals
either : (a b : Bool) → pick a true b ≡ (a || b)
either true b = refl
either false b = refl

itself_picked : (a : Bool) → pick a true false ≡ a
itself_picked true = refl
itself_picked false = refl

-- an interval that is a range
planned_held : (s e : Bound) (x : Key) → is_excluded s ≡ false → is_included e ≡ false → holds (to_range (record { start = key_of s; end = key_of e })) x ≡ holds (record { start = s; end = e }) x
planned_held unbounded unbounded x a b = refl
planned_held unbounded (included l) x a b = absurd (true≢false b)
planned_held unbounded (excluded l) x a b = refl
planned_held (included k) unbounded x a b = refl
planned_held (included k) (included l) x a b = absurd (true≢false b)
planned_held (included k) (excluded l) x a b = refl
planned_held (excluded k) e x a b = absurd (true≢false a)

none_between : (b x : Key) → (start_holds (included b) x && key_below x b) ≡ false
unfolding holds end_holds
none_between b x =
    holds_within (record { start = included b; end = excluded b }) x ∙ none_within {c = before b} {d = before b} x (≼_refl (before b))

up_to_held : (s : Bound) (b x : Key) → is_excluded s ≡ false → any_holds (listed (up_to_key (key_of s) (some b))) x ≡ (start_holds s x && key_below x b)
unfolding up_to_key is_key any_holds holds end_holds start_holds
up_to_held unbounded b x a = itself_picked (key_below x b)
up_to_held (included k) b x a = go (is_key (some k) b) refl
  where
    go : (d : Bool) → is_key (some k) b ≡ d → any_holds (listed (pick d none (some (record { start = some k; end = some b })))) x ≡ (start_holds (included k) x && key_below x b)
    go true e = let z : k ≡ b = equal_keys k b e in sym (rw z (none_between b x))
    go false e = itself_picked (start_holds (included k) x && key_below x b)
up_to_held (excluded k) b x a = absurd (true≢false a)

of_one : (p : Part) → intervals (p ∷ []) ≡ listed (durable p)
unfolding intervals flat_map
of_one p = append-nil (listed (durable p))

last_written_is : (ts : List Table) (t : Table) → last_written (ts ++ (t ∷ [])) ≡ t.last
unfolding last_written
last_written_is [] t = refl
last_written_is (u ∷ []) t = refl
last_written_is (u ∷ v ∷ ts) t = last_written_is (v ∷ ts) t

pub durable_keys : DurableKeys
unfolding durable any_holds last_written up_to_key intervals
durable_keys =
    record {
      completed = λ p x c s e. rw (of_one p, c) (itself_picked _ ∙ planned_held p.planned.start p.planned.end x s e);
      unfinished = λ p x b c s w. rw (of_one p, c, w) (up_to_held p.planned.start b x s);
      last_written = last_written_is;
      unwritten = λ p x c o. rw (of_one p, c, o);
      together = λ ps qs x. rw (flat_map_append, any_append) (either (any_holds (intervals ps) x) (any_holds (intervals qs) x));
    }

-- ---- what is expected
always : (a b : Bool) (n : ℕ) → pick a n (pick b n n) ≡ n
always true b n = refl
always false true n = refl
always false false n = refl

pub expected_counts : ExpectedCounts
unfolding expected
expected_counts =
    record {
      destination_inside = λ j q x c h. rw (eq-eqb j.destination j.destination refl, h);
      source_inside = λ j q x n c s d h. rw (ne_eqb n j.destination d, s, h);
      outside = λ j q x n c h. rw h (always (eqb n j.destination) (has n j.sources) c);
      other_run = λ j q x n c s d. rw (ne_eqb n j.destination d, s);
    }

pub other_bytes_count : OtherBytesCount
other_bytes_count j r e = rw e

-- ---- later records
further_later : (p : Part) (more : List Table) (done : Bool) → LaterPart p (further p more done)
further_later p more done = record { planned = refl; more = more; begins = refl; keeps = λ e. rw e }

parts_later : (ps qs : List Part) (p q : Part) → LaterPart p q → LaterParts (ps ++ (p ∷ qs)) (ps ++ (q ∷ qs))
parts_later [] qs p q l = part_by_part l (later_self qs)
parts_later (r ∷ ps) qs p q l =
    part_by_part (record { planned = refl; more = []; begins = sym (append-nil r.outputs); keeps = λ e. e }) (parts_later ps qs p q l)

-- parts at one place of a record and of a later one
moved : {u v p q : Part} → LaterPart u v → some u ≡ some p → some v ≡ some q → LaterPart p q
moved {u} {v} {p} {q} l e f =
    let x : u ≡ p = cc in
    let y : v ≡ q = cc in
    rw (← x, ← y) l

part_later : {ps qs : List Part} → LaterParts ps qs → (n : ℕ) (p q : Part) → part_at n ps ≡ some p → part_at n qs ≡ some q → LaterPart p q
part_later same_end n p q e f = absurd (let z : ◌≡◌ {A = ℕ} 0 1 = cc in omega arith)
part_later (part_by_part l ls) zero p q e f = moved l e f
part_later (part_by_part l ls) (suc n) p q e f = part_later ls n p q e f

at_place : (l m : List ℕ) (n : ℕ) (p q : Part) → HasPart l n p → HasPart m n q → LaterRecord l m → LaterPart p q
at_place l m n p q a b h =
    let x : h.earlier ≡ a.progress = same_answer h.earlier_is a.progress_is in
    let y : h.later ≡ b.progress = same_answer h.later_is b.progress_is in
    part_later h.is.parts n p q (rw x a.there) (rw y b.there)

pub later_records : LaterRecords
later_records =
    record {
      itself = λ r j e.
          record {
            earlier = j;
            later = j;
            earlier_is = e;
            later_is = e;
            is = record { destination = refl; sources = refl; parts = later_self j.parts };
          };
      onward = λ l m i j ps qs p more done a b d s e f.
          record {
            earlier = i;
            later = j;
            earlier_is = a;
            later_is = b;
            is = record { destination = d; sources = s; parts = rw (e, f) (parts_later ps qs p (further p more done) (further_later p more done)) };
          };
      fewer_outputs = λ l m n p q a b h k.
          let z = at_place l m n p q a b k in
          let y = ap length z.begins ∙ length-append p.outputs z.more in
          omega arith;
      another_plan = λ l m n p q a b h k. h (at_place l m n p q a b k).planned;
      reopened = λ l m n p q a b h o k. true≢false (sym ((at_place l m n p q a b k).keeps h) ∙ o);
    }

pub record_by_record : RecordByRecord
record_by_record = record { no_record = none_yet; one_record = λ r. only; one_more = λ l m rs h e. and-then h e }

-- ---- patterns
fits_long : {p : Pattern} {l : List ℕ} → Fits p l → length l ≡ length p
fits_long ended = refl
fits_long (same f) = ap suc (fits_long f)
fits_long (any f) = ap suc (fits_long f)

fits_known_byte : {p : Pattern} {l : List ℕ} → Fits p l → (n b : ℕ) → get_or p n none ≡ some b → get_or l n 0 ≡ b
fits_known_byte ended n b e = absurd (let z : ◌≡◌ {A = ℕ} 0 1 = cc in omega arith)
fits_known_byte (same f) zero b e = cc
fits_known_byte (same f) (suc n) b e = fits_known_byte f n b e
fits_known_byte (any f) zero b e = absurd (let z : ◌≡◌ {A = ℕ} 0 1 = cc in omega arith)
fits_known_byte (any f) (suc n) b e = fits_known_byte f n b e

pub fitting_bytes : FittingBytes
fitting_bytes = record { as_long = λ p l f. fits_long f; known_byte = λ p l f. fits_known_byte f }

alike_long : {p : Pattern} {l m : List ℕ} → AlikeBut p l m → length l ≡ length m
alike_long both_ended = refl
alike_long (equal f) = ap suc (alike_long f)
alike_long (free f) = ap suc (alike_long f)

alike_known_byte : {p : Pattern} {l m : List ℕ} → AlikeBut p l m → (n b : ℕ) → get_or p n none ≡ some b → get_or l n 0 ≡ get_or m n 0
alike_known_byte both_ended n b e = refl
alike_known_byte (equal f) zero b e = refl
alike_known_byte (equal f) (suc n) b e = alike_known_byte f n b e
alike_known_byte (free f) zero b e = absurd (let z : ◌≡◌ {A = ℕ} 0 1 = cc in omega arith)
alike_known_byte (free f) (suc n) b e = alike_known_byte f n b e

pub alike_bytes : AlikeBytes
alike_bytes = record { as_long = λ p l m f. alike_long f; known_byte = λ p l m f. alike_known_byte f }
