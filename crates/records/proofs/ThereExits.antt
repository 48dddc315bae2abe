-- A reading that succeeded has its bytes: the exits of the functions of `there`, which read them again.
-- Assumes nothing.
use Prim.Native.Nat.{ℕ, ◌+◌, ◌*◌, ◌-◌, ◌/◌, ◌%◌, ◌^◌, ◌<◌, ◌≤◌}
use native.Mathlib.Omega.{arith}
use native.Mathlib.Nat.{add-zero}
use mathlib.Core.Path.{◌≡◌, refl, sym, ap, ◌∙◌}
use mathlib.Core.Bool.{Bool, true, false}
use mathlib.Core.Option.{Option}
use mathlib.Core.List.{List}
use lib.ListN.{length, get_or, take, drop, length-drop}
use lib.Seq.{drop-drop}
use lib.Dec.{T, leb, eqb}
use mir.Val.{Fits}
use mir.Syntax.{w64}
use borrow.Author.Tests.{leb-true, leb-false}
use Rattle.base.specs.Outcome.{answer, check}
use Rattle.comparable_range.specs.Range.{Range}
use Rattle.comparable_range.specs.declared.Kind.{Kind}
use Rattle.format.specs.Got.{Got, got, stop, and_then, is_got}
use Rattle.format.specs.Number.{read_number}
use Rattle.format.specs.Key.{read_key}
use Rattle.format.specs.Range.{kind_of, read_bound, read_range}
use Rattle.format.specs.There.{KeyThere, BoundThere}
use Rattle.format.specs.declared.range.BoundSpan.{BoundSpan}
use Rattle.format.specs.declared.there.KeySpan.{KeySpan}
use Rattle.format.proofs.ThereExits.{first_got, number_got, range_is, range_there_exits}
use Rattle.records.specs.Form.{Form, number, taken, key, range, seq, optional, read_if, read_many}
use Rattle.records.specs.Layouts.{flag, flag_of, up_to, count_of, view_count, view_count_of, table, view, view_of, run, image, block}
use Rattle.records.specs.Values.{Table, Image, Block}
use Rattle.records.specs.Spans.{if_so, key_in, last_if, run_head}
use Rattle.records.specs.There.{RunsThere, RunThere, LastThere, TableThere, ViewThere, BlockThere}
use Rattle.records.specs.declared.tables.TableSpan.{TableSpan}
use Rattle.records.proofs.FieldExits.{number_is, byte_is, bytes_is, bytes_short, number_short, number_exact, packed_short, seq_short}
use Rattle.records.proofs.HeadExits.{image_is}
use Rattle.records.proofs.TableExits.{numbers_short, rest, opened, some_numbers, byte}
use Rattle.records.proofs.ViewExits.{free}

-- a reader that stops where n bytes are not there has them where it succeeded
pub long_got : {A : Type 0} (g : Got A) (n : ℕ) (l : List ℕ) → (length l < n → g ≡ stop 1) → T (is_got g) → n ≤ length l
long_got {A} g n l s t = go (leb n (length l)) refl
  where
    go : (b : Bool) → leb n (length l) ≡ b → n ≤ length l
    go true e = leb-true n (length l) e
    go false e = absurd (rw (s (leb-false n (length l) e)) at t)

left : (s : List ℕ) (at n : ℕ) → 0 < n → n ≤ length (drop at s) → at + n ≤ length s
left s at n p h = omega (arith, rw length-drop at h)

-- ---- known_count
counted_runs : (b : Bool) (n : ℕ) (l : List ℕ) (k : ℕ → List ℕ → Got Image) → T (is_got (and_then (taken (check 3 b (answer n)) l) k)) → and_then (taken (check 3 b (answer n)) l) k ≡ k n l
counted_runs true n l k t = refl
counted_runs false n l k t = absurd t

counted_most : (b : Bool) (n : ℕ) (l : List ℕ) (k : ℕ → List ℕ → Got Image) → leb n 64 ≡ b → T (is_got (and_then (taken (check 3 b (answer n)) l) k)) → n ≤ 64
counted_most true n l k e t = leb-true n 64 e
counted_most false n l k e t = absurd t

module _ (s : List ℕ) (at : ℕ) (t : T (is_got (image.read (drop at s)))) where
  runs_got : T (is_got (and_then ((up_to 1 64).read (drop at s)) (read_many run.read)))
  runs_got = rw (image_is (drop at s)) at t

  byte_there : 1 ≤ length (drop at s)
  byte_there = number_got 1 (drop at s) (first_got (read_number 1 (drop at s)) _ (first_got ((up_to 1 64).read (drop at s)) _ runs_got))

  pub image_room : at + 1 ≤ length s
  image_room = left s at 1 (omega arith) byte_there

  pub runs_are : {n : ℕ} → read_number 1 (drop at s) ≡ got n (drop (at + 1) s) → RunsThere (drop at s) (image.read (drop at s)) n
  unfolding count_of
  runs_are {n} e =
      let f : read_number 1 (drop at s) ≡ got n (drop 1 (drop at s)) = e ∙ ap (got n) (sym (drop-drop 1 at s)) in
      record {
        meaning = image_is (drop at s) ∙ rw f (counted_runs (leb n 64) n (drop 1 (drop at s)) (read_many run.read) (rw f at runs_got));
        inside = byte_there;
        most = counted_most (leb n 64) n (drop 1 (drop at s)) (read_many run.read) refl (rw f at runs_got);
      }

pub ruleset known_count_exits = (image_room, runs_are)

-- ---- known_run
counts : (a b : Bool) (n : ℕ) (l : List ℕ) → T (is_got (taken (check 3 a (check 2 b (answer n))) l)) → taken (check 3 a (check 2 b (answer n))) l ≡ got n l
counts true true n l t = refl
counts true false n l t = absurd t
counts false b n l t = absurd t

module _ (s : List ℕ) (at : ℕ) (t : T (is_got (run_head.read (drop at s)))) where
  pub head_room : at + 6 ≤ length s
  head_room =
      left s at 6 (omega arith)
      (long_got (run_head.read (drop at s)) 6 (drop at s) (seq_short (number 4) (λ id. view_count) 4 2 (number_short 4) (number_exact 4) (λ id. packed_short 2 view_count_of (λ n. n * 16) (λ n. n ≤ 1024)) (drop at s)) t)

  pub id_room : at + 4 ≤ length s
  id_room = omega (arith, head_room)

  pub count_room : at + 4 + 2 ≤ length s
  count_room = omega (arith, head_room)

  pub count_fits : length s < 2 ^ 64 → Fits w64 (at + 4)
  count_fits k = omega (arith, head_room)

  pub views_fit : length s < 2 ^ 64 → Fits w64 (at + 6)
  views_fit k = omega (arith, head_room)

  pub run_is : {i w : ℕ} → read_number 4 (drop at s) ≡ got i (drop (at + 4) s) → read_number 2 (drop (at + 4) s) ≡ got w (drop (at + 4 + 2) s) → RunThere s (run_head.read (drop at s)) (record { id = i; views = w / 16; first = at + 6 })
  unfolding view_count_of
  run_is {i} {w} e f =
      let o : run_head.read (drop at s) ≡ and_then (view_count.read (drop (at + 4) s)) (λ n q. got (i, n) q) = rw e in
      let g = first_got (view_count.read (drop (at + 4) s)) _ (rw o at t) in
      let c = counts (leb (w / 16) 1024) (eqb (w % 16) 0) (w / 16) (drop (at + 4 + 2) s) (rw f at g) in
      let z : at + 4 + 2 ≡ at + 6 = omega arith in
      record { meaning = o ∙ rw (f, c, z); inside = head_room }

pub ruleset known_run_exits = (id_room, count_room, count_fits, views_fit, run_is)

-- ---- table_there
flags : (b f : Bool) (l : List ℕ) → T (is_got (taken (check 2 b (answer f)) l)) → check 2 b (answer f) ≡ answer f
flags true f l t = refl
flags false f l t = absurd t

flag_is : (w : ℕ) (l : List ℕ) → T (is_got (taken (flag_of w) l)) → flag_of w ≡ answer (eqb (w / 128) 1)
unfolding flag_of
flag_is w l t = flags (eqb (w % 128) 0) (eqb (w / 128) 1) l t

module _ (s : List ℕ) (at : ℕ) (t : T (is_got (table.read (drop at s)))) where
  pub table_room : at + 41 ≤ length s
  table_room = left s at 41 (omega arith) (long_got (table.read (drop at s)) 41 (drop at s) (numbers_short (drop at s)) t)

  room : 41 ≤ length s - at
  room = omega (arith, table_room)

  pub offset_room : at + 16 + 8 ≤ length s
  offset_room = omega (arith, table_room)

  pub len_room : at + 24 + 8 ≤ length s
  len_room = omega (arith, table_room)

  pub filter_room : at + 32 + 8 ≤ length s
  filter_room = omega (arith, table_room)

  pub flag_room : at + 40 < length s
  flag_room = omega (arith, table_room)

  pub field_fits : {n : ℕ} → n ≤ 41 → length s < 2 ^ 64 → Fits w64 (at + n)
  field_fits l k = omega (arith, table_room)

  rest_got : T (is_got (rest.read (drop (at + 40) s)))
  rest_got = first_got (rest.read (drop (at + 40) s)) _ (rw (opened s at room _ _ _ (some_numbers s at room)) at t)

  module _ {f : Bool} (e : f ≡ eqb (get_or s (at + 40) 0 / 128) 1) where
    flag_opened : rest.read (drop (at + 40) s) ≡ and_then ((seq key (λ k. optional key f)).read (drop (at + 41) s)) (λ x q. got (f, x) q)
    flag_opened =
        let g = first_got (taken (flag_of (get_or s (at + 40) 0)) (drop (at + 41) s)) _ (rw (byte s at room) at rest_got) in
        rw (byte s at room, flag_is (get_or s (at + 40) 0) (drop (at + 41) s) g, ← e)

    keys_got : T (is_got ((seq key (λ k. optional key f)).read (drop (at + 41) s)))
    keys_got = first_got ((seq key (λ k. optional key f)).read (drop (at + 41) s)) _ (rw flag_opened at rest_got)

    module _ {k : KeySpan} (x : KeyThere s (read_key (drop (at + 41) s)) k) where
      pub last_there : T (is_got (last_if f (drop (k.at + k.len) s)))
      unfolding last_if
      last_there = first_got (read_if key f (drop (k.at + k.len) s)) _ (rw x.meaning at keys_got)

      module _ {m : KeySpan} (y : LastThere s f (last_if f (drop (k.at + k.len) s)) m) where
        last_is : read_if key f (drop (k.at + k.len) s) ≡ got (if_so f (key_in s m.at m.len)) (drop (m.at + m.len) s)
        unfolding last_if
        last_is = y.meaning

        pub table_is :
            {o n v : ℕ}
            → read_number 8 (drop (at + 16) s) ≡ got o (drop (at + 16 + 8) s)
            → read_number 8 (drop (at + 24) s) ≡ got n (drop (at + 24 + 8) s)
            → read_number 8 (drop (at + 32) s) ≡ got v (drop (at + 32 + 8) s)
            → TableThere s (table.read (drop at s))
            (record {
              id = at;
              index_offset = o;
              index_len = n;
              filter_offset = v;
              first_at = k.at;
              first_len = k.len;
              flagged = f;
              last_at = m.at;
              last_len = m.len;
              past = m.at + m.len;
            })
        table_is {o} {n} {v} a a' a'' =
            record {
              meaning = opened s at room o n v (record { offset = a; len = a'; filter = a'' }) ∙ rw (flag_opened, x.meaning, last_is);
              inside = record { id = omega (arith, table_room); first = x.inside; last = y.inside; past = y.inside };
            }

  pub first_there : T (is_got (read_key (drop (at + 41) s)))
  first_there = first_got (read_key (drop (at + 41) s)) _ (keys_got refl)

pub ruleset table_there_exits = (offset_room, len_room, filter_room, flag_room, field_fits, first_there, last_there, table_is)

-- ---- known_view
id_short : (l : List ℕ) → length l < 16 → view.read l ≡ stop 1
unfolding view
id_short l h = rw (bytes_short 16 l h)

-- what stands after a view's id
abbrev ViewRest : Type 0
ViewRest = Table × (Bool × Option Range)

abbrev view_rest : Form ViewRest
view_rest = seq table (λ t. seq flag (λ f. optional range f))

module _ (s : List ℕ) (at : ℕ) (t : T (is_got (view.read (drop at s)))) where
  pub view_room : at + 16 ≤ length s
  view_room = left s at 16 (omega arith) (long_got (view.read (drop at s)) 16 (drop at s) (id_short (drop at s)) t)

  pub table_fits : length s < 2 ^ 64 → Fits w64 (at + 16)
  table_fits k = omega (arith, view_room)

  id_opened : view.read (drop at s) ≡ and_then (and_then (view_rest.read (drop (at + 16) s)) (λ x q. got (take 16 (drop at s), x) q)) (λ x q. got (view_of x) q)
  unfolding view
  id_opened = rw (bytes_is s at 16 view_room)

  view_rest_got : T (is_got (view_rest.read (drop (at + 16) s)))
  view_rest_got = first_got (view_rest.read (drop (at + 16) s)) _ (first_got (and_then (view_rest.read (drop (at + 16) s)) (λ x q. got (take 16 (drop at s), x) q)) _ (rw id_opened at t))

  pub table_got : T (is_got (table.read (drop (at + 16) s)))
  table_got = first_got (table.read (drop (at + 16) s)) _ view_rest_got

  module _ {b : TableSpan} (x : TableThere s (table.read (drop (at + 16) s)) b) where
    abbrev p : ℕ
    p = b.past

    shown_got : T (is_got ((seq flag (λ f. optional range f)).read (drop p s)))
    shown_got = first_got ((seq flag (λ f. optional range f)).read (drop p s)) _ (rw x.meaning at view_rest_got)

    pub flag_there : p < length s
    flag_there =
        omega (arith, left s p 1 (omega arith) (number_got 1 (drop p s) (first_got (read_number 1 (drop p s)) _ (first_got (flag.read (drop p s)) _ shown_got))))

    pub after_flag_fits : length s < 2 ^ 64 → Fits w64 (p + 1)
    after_flag_fits k = omega (arith, flag_there)

    pub after_flag : p + 1 ≤ length s
    after_flag = omega (arith, flag_there)

    module _ {f : Bool} (e : f ≡ eqb (get_or s p 0 / 128) 1) where
      shown_opened : (seq flag (λ f. optional range f)).read (drop p s) ≡ and_then (read_if range f (drop (p + 1) s)) (λ v q. got (f, v) q)
      shown_opened =
          let g = first_got (taken (flag_of (get_or s p 0)) (drop (p + 1) s)) _ (rw (byte_is s p flag_there) at shown_got) in
          rw (byte_is s p flag_there, flag_is (get_or s p 0) (drop (p + 1) s) g, ← e)

      range_if_got : T (is_got (read_if range f (drop (p + 1) s)))
      range_if_got = first_got (read_if range f (drop (p + 1) s)) _ (rw shown_opened at shown_got)

      module _ (u : f ≡ true) where
        pub range_got : T (is_got (read_range (drop (p + 1) s)))
        unfolding read_if
        range_got = first_got (read_range (drop (p + 1) s)) _ (rw u at range_if_got)

        pub view_shown :
            {j k : Kind} {i m : BoundSpan}
            → j ≡ kind_of (get_or s (p + 1) 0 / 64)
            → k ≡ kind_of (get_or s (p + 1) 0 / 16 % 4)
            → BoundThere s (read_bound j (drop (p + 1 + 1) s)) i
            → BoundThere s (read_bound k (drop (i.at + i.len) s)) m
            → ViewThere s (view.read (drop at s)) (record { id = at; table = b; shown = true; start = i; end = m; past = m.at + m.len })
        unfolding read_if
        view_shown h l y z =
            record {
              meaning = id_opened ∙ rw (x.meaning, shown_opened, u, range_is s (p + 1) range_got h l y z);
              inside = record { id = view_room; table = x.inside; start = y.inside; end = z.inside; past = z.inside };
            }

      pub view_hidden : f ≡ false → ViewThere s (view.read (drop at s)) (record { id = at; table = b; shown = false; start = free (p + 1); end = free (p + 1); past = p + 1 })
      unfolding read_if
      view_hidden u =
          record {
            meaning = id_opened ∙ rw (x.meaning, shown_opened, u);
            inside = record { id = view_room; table = x.inside; start = rw add-zero after_flag; end = rw add-zero after_flag; past = after_flag };
          }

pub ruleset known_view_exits = (table_fits, table_got, flag_there, after_flag_fits, after_flag, range_got, view_shown, view_hidden, range_there_exits)

-- ---- block_there
module _ (s : List ℕ) (at : ℕ) (t : T (is_got (block.read (drop at s)))) where
  block_fields : T (is_got ((seq (number 8) (λ offset. key)).read (drop at s)))
  unfolding block
  block_fields = first_got ((seq (number 8) (λ offset. key)).read (drop at s)) _ t

  pub block_room : at + 8 ≤ length s
  block_room = left s at 8 (omega arith) (number_got 8 (drop at s) (first_got (read_number 8 (drop at s)) _ block_fields))

  pub key_field_fits : length s < 2 ^ 64 → Fits w64 (at + 8)
  key_field_fits k = omega (arith, block_room)

  pub block_key : T (is_got (read_key (drop (at + 8) s)))
  block_key = first_got (read_key (drop (at + 8) s)) _ (rw (number_is s at 8 block_room) at block_fields)

  module _ {k : KeySpan} (x : KeyThere s (read_key (drop (at + 8) s)) k) where
    pub block_is : {o : ℕ} → read_number 8 (drop at s) ≡ got o (drop (at + 8) s) → BlockThere s (block.read (drop at s)) (record { offset = o; key = at + 8; past = k.at + k.len })
    unfolding block
    block_is e =
        record { first = key_in s k.at k.len; key = x.meaning; meaning = rw (e, x.meaning); inside = x.inside }

-- the block that a walk passes by
pub record OneBlock (s : List ℕ) (at : ℕ) (k : KeySpan) : Type 0 where
  pub value : Block
  pub is : block.read (drop at s) ≡ got value (drop (k.at + k.len) s)

pub block_opened : (s : List ℕ) (at : ℕ) → T (is_got (block.read (drop at s))) → {k : KeySpan} → KeyThere s (read_key (drop (at + 8) s)) k → OneBlock s at k
block_opened s at t x = record { value = _; is = (block_is s at t x (number_is s at 8 (block_room s at t))).meaning }

pub ruleset block_there_exits = (block_room, key_field_fits, block_key, block_is)
