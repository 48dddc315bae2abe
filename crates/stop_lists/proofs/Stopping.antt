-- Where an outcome's stop comes from: each step of a call keeps a list of numbers to which its stops belong, and each
-- combinator of layouts makes a reader that stops with 1, 2 or 3 alone.
-- Assumes nothing.
use Prim.Native.Nat.{ℕ, zero, suc, ◌/◌, ◌%◌}
use native.Mathlib.Omega.{arith}
use mathlib.Core.Path.{◌≡◌, refl}
use mathlib.Core.Bool.{Bool, true, false}
use mathlib.Core.List.{List, [], ◌∷◌}
use lib.ListN.{length}
use lib.Dec.{leb, ltb, eqb}
use Rattle.base.specs.Pick.{pick}
use Rattle.base.specs.Outcome.{Outcome, stop, answer, and_then, check, written_to}
use Rattle.comparable_range.specs.declared.Kind.{Kind}
use Rattle.comparable_range.specs.declared.Kind.TheVariants.{Unbounded, Included, Excluded}
use Rattle.format.specs.Got.{Got, got}
use Rattle.format.specs.Got as Reader
use Rattle.format.specs.Number.{read_number}
use Rattle.format.specs.Key.{read_bytes, read_key}
use Rattle.format.specs.Range.{head_of, headed, read_bound, read_range}
use Rattle.format.specs.declared.range.Head.{Head}
use Rattle.format.specs.declared.range.Head.TheVariants.{Kinds, Stop as HeadStop}
use Rattle.format.specs.Whole.{ended, whole, key_given}
use Rattle.records.specs.Form.{Form, number, bytes, key, range, taken, packed, seq, named, read_if, optional, read_many, many}
use Rattle.records.specs.Layouts.{flag_of, flag, count_of, up_to, view_count_of, view_count, outputs_of, output_count, counted, table_of, table_fields, table, view_of, view_fields, view, run, image, part_of, part_fields, part, job, block, index, anchor, anchors}
use Rattle.manifest.specs.Checks.{has}
use Rattle.incremental_progress.specs.Repeated.{StopsIn}
use Rattle.incremental_progress.proofs.Repeated.{answers, stops}

-- ---- the steps of a call
module _ {ns : List ℕ} where
  -- what follows a check is reached where it passes
  pub checks : {A : Type 0} (k : ℕ) (passes : Bool) {o : Outcome A} → has k ns ≡ true → (passes ≡ true → StopsIn ns o) → StopsIn ns (check k passes o)
  checks k true h s = s refl
  checks k false h s = stops k h

  pub and-then : {A B : Type 0} (o : Outcome A) {f : A → Outcome B} → StopsIn ns o → ((a : A) → StopsIn ns (f a)) → StopsIn ns (and_then o f)
  and-then (stop k) s t = stops k (s.listed k refl)
  and-then (answer a) s t = t a

  pub written : (room : ℕ) (b : List ℕ) → has 16 ns ≡ true → StopsIn ns (written_to room b)
  written room b h = checks 16 (leb (length b) room) h (λ _. answers b)

  pub key_given_lem : (l : List ℕ) → has 3 ns ≡ true → StopsIn ns (key_given l)
  unfolding key_given
  key_given_lem l h = checks 3 (leb (length l) 1024) h (λ _. answers l)

-- ---- the steps of a reader
-- a list that has the stops of readers of numbers and keys
pub record ReadsKeys (ns : List ℕ) : Type 0 where
  pub one : has 1 ns ≡ true
  pub three : has 3 ns ≡ true

-- or of padding and kinds too
pub record Reads (ns : List ℕ) : Type 0 where
  pub keys : ReadsKeys ns
  pub two : has 2 ns ≡ true

pub record ReaderStops {A : Type 0} (ns : List ℕ) (g : Got A) : Type 0 where
  pub listed : (n : ℕ) → g ≡ Reader.stop n → has n ns ≡ true

pub record FormStops {A : Type 0} (ns : List ℕ) (f : Form A) : Type 0 where
  pub reads : (l : List ℕ) → ReaderStops ns (f.read l)

module _ {ns : List ℕ} where
  reads_value : {A : Type 0} (a : A) (r : List ℕ) → ReaderStops ns (got a r)
  reads_value a r = record { listed = λ n e. absurd (let z : ◌≡◌ {A = ℕ} 0 1 = cc in omega arith) }

  reads_stop : {A : Type 0} (k : ℕ) → has k ns ≡ true → ReaderStops {A = A} ns (Reader.stop k)
  reads_stop k h = record { listed = λ n e. let x : n ≡ k = cc in rw x h }

  reads_either : {A : Type 0} (t : Bool) {g h : Got A} → ReaderStops ns g → ReaderStops ns h → ReaderStops ns (pick t g h)
  reads_either true s t = s
  reads_either false s t = t

  reads_then : {A B : Type 0} (g : Got A) {f : A → List ℕ → Got B} → ReaderStops ns g → ((a : A) (r : List ℕ) → ReaderStops ns (f a r)) → ReaderStops ns (Reader.and_then g f)
  reads_then (got a r) s t = t a r
  reads_then (Reader.stop k) s t = reads_stop k (s.listed k refl)

  reads_taken : {A : Type 0} (o : Outcome A) (r : List ℕ) → StopsIn ns o → ReaderStops ns (taken o r)
  reads_taken (stop k) r s = reads_stop k (s.listed k refl)
  reads_taken (answer a) r s = reads_value a r

  -- ---- the combinators
  pub seq_stops : {A B : Type 0} {f : Form A} {g : A → Form B} → FormStops ns f → ((a : A) → FormStops ns (g a)) → FormStops ns (seq f g)
  seq_stops {f = f} {g = g} F G =
      record { reads = λ l. reads_then (f.read l) (F.reads l) (λ a r. reads_then ((g a).read r) ((G a).reads r) (λ b q. reads_value (a, b) q)) }

  pub named_stops : {A B : Type 0} (to : A → B) (from : B → A) {f : Form A} → FormStops ns f → FormStops ns (named to from f)
  named_stops to from {f} F = record { reads = λ l. reads_then (f.read l) (F.reads l) (λ a r. reads_value (to a) r) }

  pub optional_stops : {A : Type 0} {f : Form A} (flag : Bool) → FormStops ns f → FormStops ns (optional f flag)
  unfolding read_if
  optional_stops false F = record { reads = λ l. reads_value _ l }
  optional_stops {f = f} true F = record { reads = λ l. reads_then (f.read l) (F.reads l) (λ a r. reads_value _ r) }

  pub many_stops : {A : Type 0} {f : Form A} (n : ℕ) → FormStops ns f → FormStops ns (many f n)
  unfolding read_many
  many_stops zero F = record { reads = λ l. reads_value [] l }
  many_stops {f = f} (suc n) F =
      record {
        reads = λ l. reads_then (f.read l) (F.reads l) (λ a r. reads_then (read_many f.read n r) ((many_stops n F).reads r) (λ bs q. reads_value (a ∷ bs) q));
      }

  pub counted_stops : {A : Type 0} {count : Form ℕ} {f : Form A} → FormStops ns count → FormStops ns f → FormStops ns (counted count f)
  counted_stops {f = f} C F = named_stops (λ p. p.1) (λ l. (length l, l)) (seq_stops C (λ n. many_stops n F))

module _ {ns : List ℕ} (K : ReadsKeys ns) where
  -- ---- the fields
  pub number_stops : (n : ℕ) → FormStops ns (number n)
  unfolding read_number
  number_stops n = record { reads = λ l. reads_either (leb n (length l)) (reads_value _ _) (reads_stop 1 K.one) }

  pub bytes_stops : (n : ℕ) → FormStops ns (bytes n)
  unfolding read_bytes
  bytes_stops n = record { reads = λ l. reads_either (leb n (length l)) (reads_value _ _) (reads_stop 1 K.one) }

  pub key_stops : FormStops ns key
  unfolding read_key
  key_stops =
      record {
        reads = λ l. reads_then (read_number 2 l) ((number_stops 2).reads l) (λ n r. reads_either (leb n 1024) ((bytes_stops n).reads r) (reads_stop 3 K.three));
      }

  pub packed_stops : {A : Type 0} (n : ℕ) {parts : ℕ → Outcome A} (joined : A → ℕ) (Within : A → Type 0) → ((w : ℕ) → StopsIn ns (parts w)) → FormStops ns (packed n parts joined Within)
  packed_stops n {parts} joined Within P =
      record { reads = λ l. reads_then (read_number n l) ((number_stops n).reads l) (λ w r. reads_taken (parts w) r (P w)) }

  up_to_stops : (n most : ℕ) → FormStops ns (up_to n most)
  unfolding count_of
  up_to_stops n most = packed_stops n _ _ (λ w. checks 3 (leb w most) K.three (λ _. answers _))

  -- ---- an index
  block_stops : FormStops ns block
  unfolding block
  block_stops = named_stops _ _ (seq_stops (number_stops 8) (λ _. key_stops))

  pub index_stops : FormStops ns index
  unfolding index
  index_stops = counted_stops (number_stops 2) block_stops

  -- ---- anchors
  anchor_stops : FormStops ns anchor
  unfolding anchor
  anchor_stops = named_stops _ _ (seq_stops key_stops (λ _. number_stops 8))

  pub anchors_stops : FormStops ns anchors
  unfolding anchors
  anchors_stops = counted_stops (up_to_stops 2 4096) anchor_stops

  -- ---- a buffer read whole
  ended_stops : {A : Type 0} (g : Got A) → ReaderStops ns g → StopsIn ns (ended g)
  ended_stops (Reader.stop k) s = stops k (s.listed k refl)
  ended_stops (got a []) s = answers a
  ended_stops (got a (b ∷ r)) s = stops 1 K.one

  pub whole_stops : {A : Type 0} (f : Form A) → FormStops ns f → (l : List ℕ) → StopsIn ns (whole f.read l)
  unfolding whole
  whole_stops f F l = checks 3 (leb (length l) 65536) K.three (λ _. ended_stops (f.read l) (F.reads l))

module _ {ns : List ℕ} (R : Reads ns) where
  bound_stops : (k : Kind) (l : List ℕ) → ReaderStops ns (read_bound k l)
  unfolding read_bound
  bound_stops Unbounded l = reads_value _ l
  bound_stops Included l = reads_then (read_key l) ((key_stops R.keys).reads l) (λ k r. reads_value _ r)
  bound_stops Excluded l = reads_then (read_key l) ((key_stops R.keys).reads l) (λ k r. reads_value _ r)

  record HeadStops (h : Head) : Type 0 where
    reads : (l : List ℕ) → ReaderStops ns (headed h l)

  kinds_stop : (ks ke : Kind) → HeadStops (Kinds ks ke)
  kinds_stop ks ke =
      record {
        reads = λ l. reads_then (read_bound ks l) (bound_stops ks l) (λ s r. reads_then (read_bound ke r) (bound_stops ke r) (λ e q. reads_value _ q));
      }

  head_either : (t : Bool) {h k : Head} → HeadStops h → HeadStops k → HeadStops (pick t h k)
  head_either true s t = s
  head_either false s t = t

  head_stops : (b : ℕ) → HeadStops (head_of b)
  unfolding head_of
  head_stops b =
      head_either (ltb (b / 64) 3) (head_either (ltb (b / 16 % 4) 3) (head_either (eqb (b % 16) 0) (kinds_stop _ _) bad) bad) bad
    where
      bad : HeadStops (HeadStop 2)
      bad = record { reads = λ l. reads_stop 2 R.two }

  headed_stops : (l : List ℕ) → ReaderStops ns (read_range l)
  unfolding read_range
  headed_stops [] = reads_stop 1 R.keys.one
  headed_stops (b ∷ l) = (head_stops b).reads l

  pub range_stops : FormStops ns range
  range_stops = record { reads = headed_stops }

  flag_stops : FormStops ns flag
  unfolding flag_of
  flag_stops = packed_stops R.keys 1 _ _ (λ w. checks 2 (eqb (w % 128) 0) R.two (λ _. answers _))

  view_count_stops : FormStops ns view_count
  unfolding view_count_of
  view_count_stops = packed_stops R.keys 2 _ _ (λ w. checks 3 (leb (w / 16) 1024) R.keys.three (λ _. checks 2 (eqb (w % 16) 0) R.two (λ _. answers _)))

  output_count_stops : FormStops ns output_count
  unfolding outputs_of
  output_count_stops = packed_stops R.keys 2 _ _ (λ w. checks 3 (leb (w % 32768) 1024) R.keys.three (λ _. answers _))

  -- ---- the layouts
  table_stops : FormStops ns table
  unfolding table
  table_stops =
      named_stops table_of table_fields
      (seq_stops (bytes_stops R.keys 16) (λ _. seq_stops (number_stops R.keys 8) (λ _. seq_stops (number_stops R.keys 8) (λ _. seq_stops (number_stops R.keys 8) (λ _. seq_stops flag_stops (λ f. seq_stops (key_stops R.keys) (λ _. optional_stops f (key_stops R.keys))))))))

  view_stops : FormStops ns view
  unfolding view
  view_stops =
      named_stops view_of view_fields (seq_stops (bytes_stops R.keys 16) (λ _. seq_stops table_stops (λ _. seq_stops flag_stops (λ f. optional_stops f range_stops))))

  run_stops : FormStops ns run
  unfolding run
  run_stops = named_stops _ _ (seq_stops (number_stops R.keys 4) (λ _. counted_stops view_count_stops view_stops))

  pub image_stops : FormStops ns image
  unfolding image
  image_stops = counted_stops (up_to_stops R.keys 1 64) run_stops

  part_stops : FormStops ns part
  unfolding part
  part_stops = named_stops part_of part_fields (seq_stops range_stops (λ _. seq_stops output_count_stops (λ h. many_stops h.1 table_stops)))

  pub job_stops : FormStops ns job
  unfolding job
  job_stops =
      named_stops _ _
      (seq_stops (number_stops R.keys 4) (λ _. seq_stops (counted_stops (up_to_stops R.keys 1 64) (number_stops R.keys 4)) (λ _. counted_stops (up_to_stops R.keys 1 64) part_stops)))
