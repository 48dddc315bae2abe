-- What the loop over anchors keeps: those read so far stand in the tables, with their total, or 2^63 if that is less.
-- Assumes nothing.
use Prim.Native.Nat.{ℕ, ◌+◌, ◌-◌, ◌^◌, ◌≤◌, ◌<◌}
use native.Mathlib.Omega.{arith}
use mathlib.Core.Path.{◌≡◌, refl, sym, ap, subst, ◌∙◌}
use mathlib.Core.List.{List, [], ◌∷◌, ◌++◌}
use lib.ListN.{length, drop, set, length-set}
use lib.Dec.{T}
use Rattle.key.specs.Order.{Key}
use Rattle.format.specs.Got.{Got, got, stop, and_then, is_got}
use Rattle.format.specs.Number.{read_number}
use Rattle.format.specs.Key.{read_key}
use Rattle.records.specs.Form.{read_many}
use Rattle.records.specs.Values.{Anchor, Anchors}
use Rattle.records.specs.Layouts.{anchor}
use Rattle.records.specs.Spans.{key_in, AnchorFound}
use Rattle.records.specs.declared.blocks.AnchorRead.{AnchorRead}
use Rattle.records.specs.declared.blocks.AnchorRead.TheVariants.{At as AnchorAt, Stop as AnchorStop}
use Rattle.records.proofs.Many.{Reading, begin, stopped, onward, all_read}
use Rattle.manifest.specs.Checks.{total}
use Rattle.manifest.specs.Faults.{least}
use Rattle.manifest.proofs.AnchorExits.{least_most, least_added, total_append}
use Rattle.key_rows.specs.Rows.{key_got, key_there, Rows}
use Rattle.key_rows.proofs.RowLaws.{rows_none, rows_more}
use Rattle.subcompaction.specs.Tables.{anchors_in}
use Rattle.subcompaction.proofs.RowsMore.{anchors_none, anchors_more}
use Rattle.select_boundaries.specs.AnchorsFound.{AnchorsFound}
use Rattle.select_boundaries.specs.declared.AnchorsRead.TheVariants.{At, Stop}

-- ---- an anchor begins with its key
pub record KeyFirst (l : List ℕ) (k : Key) : Type 0 where
  pub there : T (is_got (read_key l))
  pub is : key_got (read_key l) ≡ k

module _ (a : Anchor) (r : List ℕ) where
  by_bytes : (k : Key) (g : Got ℕ) → and_then {A = Key × ℕ} (and_then g (λ b m. got (k, b) m)) (λ p m. got (record { key = p.0; bytes = p.1 }) m) ≡ got a r → k ≡ a.key
  by_bytes k (got b m) e =
      let z : record { key = k; bytes = b } ≡ a = cc in
      ap (λ (x : Anchor). x.key) z
  by_bytes k (stop j) e = absurd (let z : ◌≡◌ {A = ℕ} 0 1 = cc in omega arith)

  by_key : (l : List ℕ) (g : Got Key) → read_key l ≡ g → and_then {A = Key × ℕ} (and_then g (λ k q. and_then (read_number 8 q) (λ b m. got (k, b) m))) (λ p m. got (record { key = p.0; bytes = p.1 }) m) ≡ got a r → KeyFirst l a.key
  by_key l (got k q) z e = record { there = rw z tt; is = rw z (by_bytes k (read_number 8 q) e) }
  by_key l (stop j) z e = absurd (let z : ◌≡◌ {A = ℕ} 0 1 = cc in omega arith)

  key_first : (l : List ℕ) → anchor.read l ≡ got a r → KeyFirst l a.key
  unfolding anchor
  key_first l e = by_key l (read_key l) refl e

-- ---- anchors_read
pub record Tabling (s : List ℕ) (from n tall wide : ℕ) (keys bytes : List ℕ) (seen at sum : ℕ) : Type 0 where
  pub reading : Reading anchor.read s from n (n - seen) at (anchors_in s keys bytes seen)
  pub upto : seen ≤ n
  pub keys_kept : length keys ≡ tall
  pub bytes_kept : length bytes ≡ wide
  pub rows : Rows s keys seen
  pub so_far : sum ≡ least (total (anchors_in s keys bytes seen)) (2 ^ 63)

none_read : (s : List ℕ) (from n : ℕ) (as' : Anchors) → from ≤ length s → as' ≡ [] → Reading anchor.read s from n (n - 0) from as'
none_read s from n as' h e = let z : n - 0 ≡ n = omega arith in rw (z, e) (begin anchor.read s from n h)

none_total : (as' : Anchors) → as' ≡ [] → 0 ≡ least (total as') (2 ^ 63)
unfolding least total
none_total as' e = rw e

pub tabling_begin : (s : List ℕ) (from n : ℕ) (keys bytes : List ℕ) → from ≤ length s → Tabling s from n (length keys) (length bytes) keys bytes 0 from 0
tabling_begin s from n keys bytes h =
    record {
      reading = none_read s from n (anchors_in s keys bytes 0) h (anchors_none s keys bytes);
      upto = omega arith;
      keys_kept = refl;
      bytes_kept = refl;
      rows = rows_none s keys;
      so_far = none_total (anchors_in s keys bytes 0) (anchors_none s keys bytes);
    }

one_more : (as' : Anchors) (a : Anchor) → total (as' ++ (a ∷ [])) ≡ total as' + a.bytes
unfolding total
one_more as' a = total_append as' (a ∷ []) ∙ omega arith

module _ {s : List ℕ} {from n tall wide : ℕ} {keys bytes : List ℕ} {seen at sum : ℕ} (p : Tabling s from n tall wide keys bytes seen at sum) where
  pub tabling_at : at ≤ length s
  tabling_at = p.reading.within

  pub sum_most : sum ≤ 2 ^ 63
  sum_most = rw p.so_far (least_most (2 ^ 63) (total (anchors_in s keys bytes seen)))

  pub keys_same : length keys ≡ tall
  keys_same = p.keys_kept

  pub bytes_same : length bytes ≡ wide
  bytes_same = p.bytes_kept

  pub all_tabled : n ≤ seen → n ≤ wide → AnchorsFound s keys bytes n (read_many anchor.read n (drop from s)) (At sum at)
  all_tabled h w =
      let z : seen ≡ n = omega (arith, p.upto) in
      let y : n - seen ≤ 0 = omega arith in
      record {
        meaning = ap (λ m. got (anchors_in s keys bytes m) (drop at s)) (sym z) ∙ sym (all_read p.reading y);
        inside =
            record {
              rows = subst (Rows s keys) z p.rows;
              wide = omega (arith, p.bytes_kept);
              within = p.reading.within;
              sum_is = p.so_far ∙ ap (λ m. least (total (anchors_in s keys bytes m)) (2 ^ 63)) z;
            };
      }

  module _ (h : seen < n) where
    here : 0 < n - seen
    here = omega arith

    pub keys_place : n ≤ tall → seen < length keys
    keys_place k = omega (arith, p.keys_kept)

    pub bytes_place : n ≤ wide → seen < length bytes
    bytes_place k = omega (arith, p.bytes_kept)

    module _ {r : AnchorRead} (f : AnchorFound s (anchor.read (drop at s)) r) where
      pub anchor_stop : {k : ℕ} → r ≡ AnchorStop k → AnchorsFound s keys bytes n (read_many anchor.read n (drop from s)) (Stop k)
      anchor_stop {k} q = record { meaning = sym (stopped p.reading {k = k} here (sym f.meaning ∙ rw q)); inside = tt }

      module _ {i m v next : ℕ} (q : r ≡ AnchorAt i m v next) (k : n ≤ tall) (w : n ≤ wide) where
        abbrev found : Anchor
        found = record { key = key_in s i m; bytes = v }

        read_here : anchor.read (drop at s) ≡ got found (drop next s)
        read_here = sym f.meaning ∙ rw q

        key_here : KeyFirst (drop at s) (key_in s i m)
        key_here = key_first found (drop next s) (drop at s) read_here

        key_there_lem : key_there s at ≡ key_in s i m
        unfolding key_there
        key_there_lem = key_here.is

        more : anchors_in s (set keys seen at) (set bytes seen v) (seen + 1) ≡ anchors_in s keys bytes seen ++ (found ∷ [])
        more =
            anchors_more s keys bytes seen at v (keys_place k) (bytes_place w)
            ∙ ap (λ (x : Key). anchors_in s keys bytes seen ++ (record { key = x; bytes = v } ∷ [])) key_there_lem

        read_more : Reading anchor.read s from n (n - (seen + 1)) next (anchors_in s keys bytes seen ++ (found ∷ []))
        read_more =
            let z : n - seen - 1 ≡ n - (seen + 1) = omega arith in
            rw z at (onward p.reading here read_here (rw q at f.inside).1)

        pub tabling_onward : {d : ℕ} → d ≡ least (sum + v) (2 ^ 63) → Tabling s from n tall wide (set keys seen at) (set bytes seen v) (seen + 1) next d
        tabling_onward {d} hd =
            record {
              reading = subst (Reading anchor.read s from n (n - (seen + 1)) next) (sym more) read_more;
              upto = omega arith;
              keys_kept = length-set keys seen at ∙ p.keys_kept;
              bytes_kept = length-set bytes seen v ∙ p.bytes_kept;
              rows = rows_more p.rows at key_here.there (keys_place k);
              so_far =
                  hd
                  ∙ (ap (λ t. least (t + v) (2 ^ 63)) p.so_far
                  ∙ (least_added (2 ^ 63) (total (anchors_in s keys bytes seen)) v
                  ∙ ap (λ t. least t (2 ^ 63)) (sym (ap total more ∙ one_more (anchors_in s keys bytes seen) found))));
            }

pub ruleset tabling_exits = (tabling_begin, tabling_at, sum_most, keys_same, bytes_same, all_tabled, keys_place, bytes_place, anchor_stop, tabling_onward)
