-- The exits of the functions that measure and write anchors, and what their loops keep.
-- Assumes nothing.
use Prim.Native.Nat.{ℕ, zero, suc, ◌+◌, ◌*◌, ◌-◌, ◌^◌, ◌<◌, ◌≤◌}
use native.Mathlib.Omega.{arith}
use native.Mathlib.Nat.{zero-add, add-zero}
use mathlib.Core.Path.{◌≡◌, refl, sym, ap, ◌∙◌}
use mathlib.Core.List.{List, [], ◌∷◌, ◌++◌, map, append_assoc, append-nil}
use lib.ListN.{length, get_or, drop, length-append}
use lib.Dec.{T}
use mir.Val.{Fits}
use mir.Syntax.{w64}
use Rattle.base.specs.Lists.{map_append}
use Rattle.base.specs.Outcome.{over, lent, reported, written_to}
use Rattle.base.proofs.Outcome.{stops_16, keeps, wrote, stands}
use Rattle.base.specs.declared.Written.TheVariants.{Wrote, Stop}
use Rattle.base.specs.Splice.{splice, splice_none, splice_splice, length_splice}
use Rattle.key.specs.Order.{Key}
use Rattle.format.specs.Got.{is_got}
use Rattle.format.specs.Number.{write_number}
use Rattle.format.specs.Key.{read_key, write_key}
use Rattle.format.proofs.Layouts.{number_length, key_length}
use Rattle.records.specs.Form.{write_many}
use Rattle.records.specs.Values.{Anchor, Anchors}
use Rattle.records.specs.Layouts.{anchor, anchors}
use Rattle.key_rows.specs.Rows.{key_there, key_at, Rows, count_from}
use Rattle.subcompaction.specs.Tables.{anchor_at, anchors_in}
use Rattle.sample_anchors.specs.Fields.{fields_of, fields_in}
use Rattle.key_rows.proofs.KeyParts.{key_short}
use Rattle.key_rows.proofs.RowLaws.{count_more}

-- ---- anchors_len
fields_append : (ks ls : List Key) → fields_of (ks ++ ls) ≡ fields_of ks + fields_of ls
unfolding fields_of
fields_append [] ls = omega arith
fields_append (k ∷ ks) ls = rw (fields_append ks ls) (omega arith)

fields_more : (s keys : List ℕ) (n : ℕ) → fields_in s keys (n + 1) ≡ fields_in s keys n + (length (key_at s keys n) + 10)
unfolding fields_of
fields_more s keys n =
    let f = key_at s keys in
    ap (λ l. fields_of (map f l)) (count_more n)
    ∙ ap fields_of (map_append f (count_from 0 n) (n ∷ []))
    ∙ fields_append (map f (count_from 0 n)) (f n ∷ [])
    ∙ ap (λ i. fields_in s keys n + i) (add-zero (length (f n) + 10))

pub record Measured (s keys : List ℕ) (n len row : ℕ) : Type 0 where
  pub upto : row ≤ n
  pub most : n ≤ 4096
  pub rows : Rows s keys n
  pub long : len ≡ 2 + fields_in s keys row
  pub bound : len ≤ 2 + row * 1034

pub measured_begin : (s keys : List ℕ) (n : ℕ) → Rows s keys n → n ≤ 4096 → Measured s keys n 2 0
unfolding fields_of count_from
measured_begin s keys n w h = record { upto = omega arith; most = h; rows = w; long = refl; bound = omega arith }

module _ {s keys : List ℕ} {n len row : ℕ} (p : Measured s keys n len row) where
  pub measured_all : n ≤ row → len ≡ 2 + fields_in s keys n
  measured_all h = let z : row ≡ n = omega (arith, p.upto) in p.long ∙ ap (λ i. 2 + fields_in s keys i) z

  module _ (h : row < n) where
    pub measured_row : row < length keys
    measured_row = (p.rows.row row h).inside

    pub measured_key : T (is_got (read_key (drop (get_or keys row 0) s)))
    measured_key = (p.rows.row row h).there

    module _ {key : List ℕ} (e : key ≡ key_there s (get_or keys row 0)) where
      short : length key ≤ 1024
      short = rw e (key_short s (get_or keys row 0) measured_key)

      pub field_fits : Fits w64 (length key + 10)
      field_fits = omega (arith, short)

      pub length_fits : Fits w64 (len + (length key + 10))
      length_fits = omega (arith, short, p.bound, p.most)

      pub measured_onward : Measured s keys n (len + (length key + 10)) (row + 1)
      measured_onward =
          record {
            upto = omega arith;
            most = p.most;
            rows = p.rows;
            long = omega (arith, p.long, fields_more s keys row, ap length e);
            bound = omega (arith, p.bound, short);
          }

pub ruleset len_exits = (measured_begin, measured_all, measured_row, measured_key, field_fits, length_fits, measured_onward)

-- ---- put_anchor
abbrev anchor_of : List ℕ → ℕ → ℕ → Anchor
anchor_of s at size = record { key = key_there s at; bytes = size }

anchor_is : (a : Anchor) → anchor.write a ≡ write_key a.key ++ write_number 8 a.bytes
unfolding anchor
anchor_is a = refl

anchor_length : (a : Anchor) → length (anchor.write a) ≡ length (write_key a.key) + 8
anchor_length a = ap length (anchor_is a) ∙ length-append (write_key a.key) (write_number 8 a.bytes) ∙ ap (λ i. length (write_key a.key) + i) (number_length 8 a.bytes)

module _ (s : List ℕ) (at size : ℕ) (d : List ℕ) (to : ℕ) (room : to + length (anchor.write (anchor_of s at size)) ≤ length d) where
  pub key_room : to + length (write_key (key_there s at)) ≤ length d
  key_room = omega (arith, anchor_length (anchor_of s at size))

  module _ {next : ℕ} {f : List ℕ} (e : next ≡ to + length (write_key (key_there s at))) (p : f ≡ splice d to (write_key (key_there s at))) where
    same_length : length f ≡ length d
    same_length = ap length p ∙ length_splice d to (write_key (key_there s at)) key_room

    pub size_room : next + 8 ≤ length f
    size_room = omega (arith, e, same_length, anchor_length (anchor_of s at size))

    pub past_fits : length d < 2 ^ 64 → Fits w64 (next + 8)
    past_fits h = omega (arith, size_room, same_length)

    pub past_is : next + 8 ≡ to + length (anchor.write (anchor_of s at size))
    past_is = omega (arith, e, anchor_length (anchor_of s at size))

    pub anchor_put : {g : List ℕ} → g ≡ splice f next (write_number 8 size) → g ≡ splice d to (anchor.write (anchor_of s at size))
    anchor_put w =
        w
        ∙ ap (λ l. splice l next (write_number 8 size)) p
        ∙ splice_splice d to (write_key (key_there s at)) (write_number 8 size) next e key_room
        ∙ ap (splice d to) (sym (anchor_is (anchor_of s at size)))

pub ruleset put_anchor_exits = (key_room, size_room, past_fits, past_is, anchor_put)

-- ---- put_rows
written_append : (as' bs : Anchors) → write_many anchor.write (as' ++ bs) ≡ write_many anchor.write as' ++ write_many anchor.write bs
unfolding write_many
written_append [] bs = refl
written_append (a ∷ as') bs = rw (written_append as' bs) (sym (append_assoc (anchor.write a) _ _))

count_split : (i m n : ℕ) → count_from i (m + n) ≡ count_from i m ++ count_from (i + m) n
unfolding count_from
count_split i zero n = rw (zero-add, add-zero)
count_split i (suc m) n =
    let y : suc m + n ≡ suc (m + n) = omega arith in
    let z : i + 1 + m ≡ i + suc m = omega arith in
    ap (count_from i) y ∙ ap (λ l. i ∷ l) (count_split (i + 1) m n) ∙ ap (λ j. i ∷ (count_from (i + 1) m ++ count_from j n)) z

module _ (s keys bytes : List ℕ) where
  abbrev text : ℕ → List ℕ
  text n = write_many anchor.write (anchors_in s keys bytes n)

  text_more : (n : ℕ) → text (n + 1) ≡ text n ++ anchor.write (anchor_at s keys bytes n)
  unfolding anchors_in write_many
  text_more n =
      let f = anchor_at s keys bytes in
      ap (λ l. write_many anchor.write (map f l)) (count_more n)
      ∙ ap (write_many anchor.write) (map_append f (count_from 0 n) (n ∷ []))
      ∙ written_append (map f (count_from 0 n)) (f n ∷ [])
      ∙ ap (λ l. write_many anchor.write (map f (count_from 0 n)) ++ l) (append-nil (anchor.write (f n)))

  text_grows : (m n : ℕ) → length (text m) ≤ length (text (m + n))
  unfolding anchors_in
  text_grows m n =
      let f = anchor_at s keys bytes in
      let e : text (m + n) ≡ text m ++ write_many anchor.write (map f (count_from (0 + m) n))
      = ap (λ l. write_many anchor.write (map f l)) (count_split 0 m n) ∙ ap (write_many anchor.write) (map_append f (count_from 0 m) (count_from (0 + m) n)) ∙ written_append (map f (count_from 0 m)) (map f (count_from (0 + m) n)) in
      omega (arith, ap length e, length-append (text m) (write_many anchor.write (map f (count_from (0 + m) n))))

  text_within : (m n : ℕ) → m ≤ n → length (text m) ≤ length (text n)
  text_within m n h = let z : m + (n - m) ≡ n = omega arith in rw z at (text_grows m (n - m))

pub record PutRows (s keys bytes d : List ℕ) (n first : ℕ) (out : List ℕ) (to row : ℕ) : Type 0 where
  pub upto : row ≤ n
  pub rows : Rows s keys n
  pub sizes : n ≤ length bytes
  pub room : first + length (text s keys bytes n) ≤ length d
  pub place : to ≡ first + length (text s keys bytes row)
  pub is : out ≡ splice d first (text s keys bytes row)

pub put_rows_begin : (s keys bytes d : List ℕ) (n first : ℕ) → Rows s keys n → n ≤ length bytes → first + length (write_many anchor.write (anchors_in s keys bytes n)) ≤ length d → PutRows s keys bytes d n first d first 0
unfolding anchors_in write_many count_from
put_rows_begin s keys bytes d n first w l r =
    record { upto = omega arith; rows = w; sizes = l; room = r; place = sym (add-zero first); is = sym (splice_none d first) }

module _ {s keys bytes d : List ℕ} {n first : ℕ} {out : List ℕ} {to row : ℕ} (p : PutRows s keys bytes d n first out to row) where
  row_room : first + length (text s keys bytes row) ≤ length d
  row_room = omega (arith, p.room, text_within s keys bytes row n p.upto)

  pub put_length : length out ≡ length d
  put_length = ap length p.is ∙ length_splice d first (text s keys bytes row) row_room

  pub put_all : n ≤ row → out ≡ splice d first (write_many anchor.write (anchors_in s keys bytes n))
  put_all h = let z : row ≡ n = omega (arith, p.upto) in p.is ∙ ap (λ i. splice d first (text s keys bytes i)) z

  module _ (h : row < n) where
    pub put_row : row < length keys
    put_row = (p.rows.row row h).inside

    pub put_size : row < length bytes
    put_size = omega (arith, p.sizes)

    pub put_key_there : T (is_got (read_key (drop (get_or keys row 0) s)))
    put_key_there = (p.rows.row row h).there

    next_length : length (text s keys bytes (row + 1)) ≡ length (text s keys bytes row) + length (anchor.write (anchor_at s keys bytes row))
    next_length = ap length (text_more s keys bytes row) ∙ length-append (text s keys bytes row) (anchor.write (anchor_at s keys bytes row))

    pub put_room : to + length (anchor.write (anchor_at s keys bytes row)) ≤ length out
    put_room = omega (arith, put_length, p.place, p.room, next_length, text_within s keys bytes (row + 1) n (omega arith))

    pub put_onward :
        {next : ℕ} {f : List ℕ}
        → next ≡ to + length (anchor.write (anchor_at s keys bytes row))
        → f ≡ splice out to (anchor.write (anchor_at s keys bytes row))
        → PutRows s keys bytes d n first f next (row + 1)
    put_onward {next} {f} e w =
        record {
          upto = omega arith;
          rows = p.rows;
          sizes = p.sizes;
          room = p.room;
          place = omega (arith, e, p.place, next_length);
          is =
              w
              ∙ ap (λ l. splice l to (anchor.write (anchor_at s keys bytes row))) p.is
              ∙ splice_splice d first (text s keys bytes row) (anchor.write (anchor_at s keys bytes row)) to p.place row_room
              ∙ ap (splice d first) (sym (text_more s keys bytes row));
        }

pub ruleset put_rows_exits = (put_rows_begin, put_length, put_all, put_row, put_size, put_key_there, put_room, put_onward)

-- ---- put_anchors
over_splice : (d b : List ℕ) → splice d 0 b ≡ over b d
over_splice d b = rw zero-add

count_length : (i n : ℕ) → length (count_from i n) ≡ n
unfolding count_from
count_length i zero = refl
count_length i (suc n) = ap suc (count_length (i + 1) n)

map_length : {A B : Type 0} (f : A → B) (l : List A) → length (map f l) ≡ length l
map_length f [] = refl
map_length f (x ∷ l) = ap suc (map_length f l)

pub rows_count : (s keys bytes : List ℕ) (n : ℕ) → length (anchors_in s keys bytes n) ≡ n
unfolding anchors_in
rows_count s keys bytes n = map_length (anchor_at s keys bytes) (count_from 0 n) ∙ count_length 0 n

anchors_are : (as' : Anchors) → anchors.write as' ≡ write_number 2 (length as') ++ write_many anchor.write as'
unfolding anchors
anchors_are as' = refl

module _ (s keys bytes : List ℕ) (n : ℕ) where
  whole_is : anchors.write (anchors_in s keys bytes n) ≡ write_number 2 n ++ text s keys bytes n
  whole_is = anchors_are (anchors_in s keys bytes n) ∙ ap (λ i. write_number 2 i ++ text s keys bytes n) (rows_count s keys bytes n)

  whole_length : length (anchors.write (anchors_in s keys bytes n)) ≡ 2 + length (text s keys bytes n)
  whole_length = ap length whole_is ∙ length-append (write_number 2 n) (text s keys bytes n) ∙ ap (λ i. i + length (text s keys bytes n)) (number_length 2 n)

  module _ (d : List ℕ) (room : length (anchors.write (anchors_in s keys bytes n)) ≤ length d) where
    pub count_room : 0 + 2 ≤ length d
    count_room = omega (arith, whole_length)

    count_there : 0 + length (write_number 2 n) ≤ length d
    count_there = omega (arith, whole_length, number_length 2 n)

    module _ {f : List ℕ} (p : f ≡ splice d 0 (write_number 2 n)) where
      pub rows_room : 2 + length (write_many anchor.write (anchors_in s keys bytes n)) ≤ length f
      rows_room = omega (arith, whole_length, ap length p, length_splice d 0 (write_number 2 n) count_there)

      pub anchors_put : {g : List ℕ} → g ≡ splice f 2 (write_many anchor.write (anchors_in s keys bytes n)) → g ≡ over (anchors.write (anchors_in s keys bytes n)) d
      anchors_put w =
          w
          ∙ ap (λ l. splice l 2 (text s keys bytes n)) p
          ∙ splice_splice d 0 (write_number 2 n) (text s keys bytes n) 2 (omega (arith, number_length 2 n)) count_there
          ∙ ap (splice d 0) (sym whole_is)
          ∙ over_splice d (anchors.write (anchors_in s keys bytes n))

pub ruleset put_anchors_exits = (count_room, rows_room, anchors_put)

-- ---- what is measured is what is written
fields_are : (s keys bytes rs : List ℕ) → length (write_many anchor.write (map (anchor_at s keys bytes) rs)) ≡ fields_of (map (key_at s keys) rs)
unfolding write_many fields_of
fields_are s keys bytes [] = refl
fields_are s keys bytes (r ∷ rs) =
    let a = anchor_at s keys bytes r in
    omega (
      arith,
      length-append (anchor.write a) (write_many anchor.write (map (anchor_at s keys bytes) rs)),
      anchor_length a,
      key_length (key_at s keys r),
      fields_are s keys bytes rs,
    )

measured_is : (s keys bytes : List ℕ) (n : ℕ) → 2 + fields_in s keys n ≡ length (anchors.write (anchors_in s keys bytes n))
unfolding anchors_in
measured_is s keys bytes n = sym (whole_length s keys bytes n ∙ ap (λ i. 2 + i) (fields_are s keys bytes (count_from 0 n)))

-- ---- anchors_written
module _ (s keys bytes : List ℕ) (n : ℕ) (d : List ℕ) {len : ℕ} (e : len ≡ 2 + fields_in s keys n) where
  abbrev answer : List ℕ
  answer = anchors.write (anchors_in s keys bytes n)

  long : len ≡ length answer
  long = e ∙ measured_is s keys bytes n

  pub all_room : len ≤ length d → length (anchors.write (anchors_in s keys bytes n)) ≤ length d
  all_room h = omega (arith, long)

  pub no_room : length d < len → Stop 16 ≡ reported (written_to (length d) (anchors.write (anchors_in s keys bytes n)))
  no_room h = stops_16 d answer long h

  pub as_it_was : length d < len → d ≡ lent d (written_to (length d) (anchors.write (anchors_in s keys bytes n)))
  as_it_was h = keeps d answer long h

  pub all_written : len ≤ length d → Wrote len ≡ reported (written_to (length d) (anchors.write (anchors_in s keys bytes n)))
  all_written h = wrote d answer long h

  pub all_stands : {g : List ℕ} → len ≤ length d → g ≡ over (anchors.write (anchors_in s keys bytes n)) d → g ≡ lent d (written_to (length d) (anchors.write (anchors_in s keys bytes n)))
  all_stands h q = stands d answer long h q

pub ruleset written_rows_exits = (all_room, no_room, as_it_was, all_written, all_stands)
