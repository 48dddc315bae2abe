-- The exits of `last_at` and `table_at`: a table is read field by field, and the first stop is the answer.
-- Assumes nothing.
use Prim.Native.Nat.{ℕ, ◌+◌, ◌*◌, ◌-◌, ◌^◌, ◌<◌, ◌≤◌}
use native.Mathlib.Omega.{arith}
use mathlib.Core.Path.{◌≡◌, refl, sym, ap, ◌∙◌}
use mathlib.Core.Bool.{Bool}
use mathlib.Core.Option.{Option}
use mathlib.Core.List.{List}
use lib.ListN.{length, get_or, take, drop, length-drop}
use mir.Val.{Fits}
use mir.Syntax.{w64}
use Rattle.key.specs.Order.{Key}
use Rattle.key.specs.Word.{digits}
use Rattle.format.specs.Got.{Got, got, stop, and_then}
use Rattle.format.specs.Number.{read_number}
use Rattle.format.specs.Key.{read_key, KeyFound}
use Rattle.format.specs.declared.KeyRead.{KeyRead}
use Rattle.format.specs.declared.KeyRead.TheVariants.{At as KeyAt, Stop as KeyStop}
use Rattle.records.specs.Form.{Form, number, bytes, read_if, key, seq, optional}
use Rattle.records.specs.Values.{Table}
use Rattle.records.specs.Layouts.{flag, flag_number, flag_of, table, table_of}
use Rattle.records.specs.Spans.{flag_read, last_if, last_read, LastFound, TableFound}
use Rattle.records.specs.declared.fields.FlagRead.{FlagRead}
use Rattle.records.specs.declared.fields.FlagRead.TheVariants.{Is, Stop as FlagStop}
use Rattle.records.specs.declared.tables.TableRead.TheVariants.{At, Stop}
use Rattle.records.proofs.FieldExits.{StopsShort, number_is, bytes_is, byte_is, number_short, bytes_short, packed_short, number_exact, bytes_exact, seq_short, first_short}

-- ---- table_at
-- the fields after the numbers, and the table of all
abbrev pub Rest : Type 0
Rest = Bool × (Key × Option Key)

abbrev pub rest : Form Rest
rest = seq flag (λ f. seq key (λ k. optional key f))

abbrev pub with_numbers : List ℕ → ℕ → ℕ → ℕ → Got Rest → Got Table
with_numbers id o n t g = and_then g (λ x r. got (table_of (id, (o, (n, (t, x))))) r)

gathered :
    (id : List ℕ) (o n t : ℕ) (g : Got Rest)
    → and_then (and_then (and_then (and_then (and_then g (λ x r. got (t, x) r)) (λ x r. got (n, x) r)) (λ x r. got (o, x) r)) (λ x r. got (id, x) r)) (λ x r. got (table_of x) r)
    ≡ with_numbers id o n t g
gathered id o n t (got x r) = refl
gathered id o n t (stop k) = refl

rest_short : StopsShort rest 1
rest_short = first_short flag (λ f. seq key (λ k. optional key f)) 1 (packed_short 1 flag_of (λ f. flag_number f * 128) (λ f. Unit))

pub numbers_short : (l : List ℕ) → length l < 41 → table.read l ≡ stop 1
unfolding table
numbers_short l h =
    rw all_short
  where
    all_short : (seq (bytes 16) (λ id. seq (number 8) (λ o. seq (number 8) (λ n. seq (number 8) (λ t. rest))))).read l ≡ stop 1
    all_short =
        seq_short
        (bytes 16)
        (λ id. seq (number 8) (λ o. seq (number 8) (λ n. seq (number 8) (λ t. rest))))
        16
        25
        (bytes_short 16)
        (bytes_exact 16)
        (λ id. seq_short (number 8) (λ o. seq (number 8) (λ n. seq (number 8) (λ t. rest))) 8 17 (number_short 8) (number_exact 8)
        (λ o. seq_short (number 8) (λ n. seq (number 8) (λ t. rest)) 8 9 (number_short 8) (number_exact 8)
        (λ n. seq_short (number 8) (λ t. rest) 8 1 (number_short 8) (number_exact 8) (λ t. rest_short))))
        l
        h

-- the numbers of a table
pub record Numbers (s : List ℕ) (at o n t : ℕ) : Type 0 where
  pub offset : read_number 8 (drop (at + 16) s) ≡ got o (drop (at + 16 + 8) s)
  pub len : read_number 8 (drop (at + 24) s) ≡ got n (drop (at + 24 + 8) s)
  pub filter : read_number 8 (drop (at + 32) s) ≡ got t (drop (at + 32 + 8) s)

same_place : (s : List ℕ) (at m n k : ℕ) → m + n ≡ k → drop (at + m + n) s ≡ drop (at + k) s
same_place s at m n k e = let z : at + m + n ≡ at + k = omega arith in ap (λ i. drop i s) z

module _ (s : List ℕ) (at : ℕ) (h : 41 ≤ length s - at) where
  pub opened : (o n t : ℕ) → Numbers s at o n t → table.read (drop at s) ≡ with_numbers (take 16 (drop at s)) o n t (rest.read (drop (at + 40) s))
  unfolding table
  opened o n t p =
      let a = p.offset ∙ ap (got o) (same_place s at 16 8 24 refl) in
      let b = p.len ∙ ap (got n) (same_place s at 24 8 32 refl) in
      let c = p.filter ∙ ap (got t) (same_place s at 32 8 40 refl) in
      rw (bytes_is s at 16 (omega arith), a, b, c) (gathered (take 16 (drop at s)) o n t (rest.read (drop (at + 40) s)))

  pub some_numbers : Numbers s at (digits 0 (take 8 (drop (at + 16) s))) (digits 0 (take 8 (drop (at + 24) s))) (digits 0 (take 8 (drop (at + 32) s)))
  some_numbers =
      record {
        offset = number_is s (at + 16) 8 (omega arith);
        len = number_is s (at + 24) 8 (omega arith);
        filter = number_is s (at + 32) 8 (omega arith);
      }

  -- a stop after the numbers is the table's
  stops_after : {k : ℕ} → rest.read (drop (at + 40) s) ≡ stop k → TableFound s (table.read (drop at s)) (Stop k)
  stops_after e = record { meaning = sym (opened _ _ _ some_numbers ∙ rw e); inside = tt }

  pub byte : read_number 1 (drop (at + 40) s) ≡ got (get_or s (at + 40) 0) (drop (at + 41) s)
  byte = byte_is s (at + 40) (omega arith) ∙ ap (got (get_or s (at + 40) 0)) (same_place s at 40 1 41 refl)

  module _ {w : FlagRead} (e : flag_read w ≡ flag_of (get_or s (at + 40) 0)) where
    pub bad_flag : {k : ℕ} → w ≡ FlagStop k → TableFound s (table.read (drop at s)) (Stop k)
    bad_flag q = stops_after (rw (byte, ← e, q))

    module _ {f : Bool} (q : w ≡ Is f) {j : KeyRead} (x : KeyFound s (read_key (drop (at + 41) s)) j) where
      pub bad_first : {k : ℕ} → j ≡ KeyStop k → TableFound s (table.read (drop at s)) (Stop k)
      bad_first z = stops_after (rw (byte, ← e, q, ← x.meaning, z))

      module _ {i m p : ℕ} (z : j ≡ KeyAt i m p) where
        pub last_place : p ≤ length s
        last_place = (rw z at x.inside).1

        module _ {b : KeyRead} (y : LastFound s f (last_if f (drop p s)) b) where
          last_is : last_read s f b ≡ read_if key f (drop p s)
          unfolding last_if
          last_is = y.meaning

          pub bad_last : {k : ℕ} → b ≡ KeyStop k → TableFound s (table.read (drop at s)) (Stop k)
          bad_last u = stops_after (rw (byte, ← e, q, ← x.meaning, z, ← last_is, u))

          pub table_read_lem :
              {c d z' o n t : ℕ}
              → b ≡ KeyAt c d z'
              → read_number 8 (drop (at + 16) s) ≡ got o (drop (at + 16 + 8) s)
              → read_number 8 (drop (at + 24) s) ≡ got n (drop (at + 24 + 8) s)
              → read_number 8 (drop (at + 32) s) ≡ got t (drop (at + 32 + 8) s)
              → TableFound s (table.read (drop at s))
              (At (record {
                id = at;
                index_offset = o;
                index_len = n;
                filter_offset = t;
                first_at = i;
                first_len = m;
                flagged = f;
                last_at = c;
                last_len = d;
                past = z';
              }))
          table_read_lem {c} {d} {z'} {o} {n} {t} u a a' a'' =
              let v = rw z at x.inside in
              let v' = rw u at y.inside in
              record {
                meaning = sym (opened o n t (record { offset = a; len = a'; filter = a'' }) ∙ rw (byte, ← e, q, ← x.meaning, z, ← last_is, u));
                inside = record { id = omega arith; first = rw v.0 v.1; last = rw v'.0 v'.1; past = v'.1 };
              }

module _ (s : List ℕ) (at : ℕ) where
  pub no_numbers : at ≤ length s → length s - at < 41 → TableFound s (table.read (drop at s)) (Stop 1)
  no_numbers h l = record { meaning = sym (numbers_short (drop at s) (rw length-drop l)); inside = tt }

  pub flag_fits : 41 ≤ length s - at → length s < 2 ^ 64 → Fits w64 (at + 40)
  flag_fits h k = omega arith

  pub flag_in : 41 ≤ length s - at → at + 40 < length s
  flag_in h = omega arith

  pub first_fits : 41 ≤ length s - at → length s < 2 ^ 64 → Fits w64 (at + 41)
  first_fits h k = omega arith

pub ruleset table_exits = (no_numbers, flag_fits, flag_in, first_fits, bad_flag, bad_first, last_place, bad_last, table_read_lem)
