-- Tables with a row more hold an anchor more.
-- Assumes nothing.
use Prim.Native.Nat.{ℕ, ◌+◌, ◌<◌, ◌≤◌, min}
use native.Mathlib.Omega.{arith}
use native.Mathlib.Nat.{min-eq_left, min-eq_right}
use mathlib.Core.Path.{◌≡◌, refl, sym, ap, ◌∙◌}
use mathlib.Core.Bool.{Bool, true, false}
use mathlib.Core.List.{List, [], ◌∷◌, ◌++◌}
use lib.ListN.{length, drop, set, length-append, length-set}
use lib.Seq.{set_out, take_all, take-append-le}
use lib.Dec.{T, ltb}
use borrow.Author.Tests.{ltb-true, ltb-false}
use Rattle.format.specs.Got.{is_got}
use Rattle.format.specs.Key.{read_key}
use Rattle.records.specs.Values.{Anchors}
use Rattle.key_rows.specs.Rows.{key_there}
use Rattle.key_rows.proofs.RowLaws.{rows_more}
use Rattle.subcompaction.specs.Tables.{anchors_in, Held}
use Rattle.subcompaction.proofs.RowsMore.{anchors_more}

module _ {s keys bytes : List ℕ} {n : ℕ} {as' : Anchors} (p : Held s keys bytes n as') (v b : ℕ) (t : T (is_got (read_key (drop v s)))) where
  abbrev one : Anchors
  one = record { key = key_there s v; bytes = b } ∷ []

  counted : n + 1 ≡ length (as' ++ one)
  counted = rw length-append (omega (arith, p.count))

  long : length (set bytes n b) ≡ length (set keys n v)
  long = length-set bytes n b ∙ p.wide ∙ sym (length-set keys n v)

  stored : n < length keys → Held s (set keys n v) (set bytes n b) (n + 1) (as' ++ one)
  stored h =
      let z : min n (length keys) ≡ n = min-eq_left (omega arith) in
      let y : min (n + 1) (length keys) ≡ n + 1 = min-eq_left (omega arith) in
      let k = length-set keys n v in
      let w : anchors_in s keys bytes n ≡ as' = rw z at p.rows ∙ take_all (length keys) as' (omega (arith, p.count)) in
      record {
        count = counted;
        wide = long;
        rows = rw (k, y) (anchors_more s keys bytes n v b h (omega (arith, p.wide)) ∙ ap (λ l. l ++ one) w ∙ sym (take_all (length keys) (as' ++ one) (omega (arith, counted))));
        there = rw (k, y) (rows_more (rw z at p.there) v t h);
      }

  not_stored : length keys ≤ n → Held s (set keys n v) (set bytes n b) (n + 1) (as' ++ one)
  not_stored h =
      let z : min n (length keys) ≡ length keys = min-eq_right h in
      let y : min (n + 1) (length keys) ≡ length keys = min-eq_right (omega arith) in
      let k = set_out keys n v h in
      let l = set_out bytes n b (rw p.wide h) in
      record {
        count = counted;
        wide = long;
        rows = rw (k, l, y) (rw z at p.rows ∙ sym (take-append-le (length keys) as' one (rw (← p.count) h)));
        there = rw (k, y) (rw z at p.there);
      }

  pub held_more : Held s (set keys n v) (set bytes n b) (n + 1) (as' ++ one)
  held_more = go (ltb n (length keys)) refl
    where
      go : (c : Bool) → ltb n (length keys) ≡ c → Held s (set keys n v) (set bytes n b) (n + 1) (as' ++ one)
      go true q = stored (ltb-true n (length keys) q)
      go false q = not_stored (ltb-false n (length keys) q)
