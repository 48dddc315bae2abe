-- A plan is put piece by piece, and measured key by key.
-- Assumes nothing.
use Prim.Native.Nat.{ℕ, zero, suc, ◌+◌, ◌*◌, ◌-◌, ◌<◌, ◌≤◌, ◌^◌}
use native.Mathlib.Omega.{arith}
use native.Mathlib.Nat.{zero-add}
use native.Mathlib.Numerals.{add-one}
use mathlib.Core.Path.{◌≡◌, refl, sym, ap, ◌∙◌}
use mathlib.Core.List.{List, [], ◌∷◌, ◌++◌, map, append_assoc, append-nil}
use lib.ListN.{length, get_or, drop, length-append, length-map}
use lib.Seq.{slice, slice-cons, slice_empty, length-slice}
use lib.Dec.{T}
use mir.Val.{Fits}
use mir.Syntax.{w64}
use Rattle.base.specs.Outcome.{over}
use Rattle.base.specs.Splice.{splice, splice_none, splice_splice, spliced_length}
use Rattle.key.specs.Order.{Key}
use Rattle.comparable_range.specs.declared.Kind.{Kind}
use Rattle.comparable_range.specs.declared.Kind.TheVariants.{Unbounded, Included}
use Rattle.format.specs.Got.{is_got}
use Rattle.format.specs.Key.{read_key, write_key}
use Rattle.format.specs.Range.{head_byte}
use Rattle.format.proofs.Layouts.{key_length}
use Rattle.key_rows.specs.Rows.{key_there, Rows}
use Rattle.planned.specs.Marks.{marked_keys, end_kind, joint, joints, plan_bytes}
use Rattle.key_rows.proofs.KeyParts.{key_short}
use Rattle.planned.proofs.PlanBytes.{plan_bytes_lem, plan_length, joint_length, joints_length}

-- ---- the keys at marks
pub rows_wide : (s keys : List ℕ) (n : ℕ) → Rows s keys n → n ≤ length keys
rows_wide s keys zero r = omega arith
rows_wide s keys (suc n) r = omega (arith, (r.row n (omega arith)).inside)

marked_next : (s marks : List ℕ) (n i : ℕ) → n ≤ length marks → i < n → map (key_there s) (slice i n marks) ≡ key_there s (get_or marks i 0) ∷ map (key_there s) (slice (i + 1) n marks)
marked_next s marks n i w h = rw (slice-cons i n marks 0 h w, add-one)

marked_count : (s marks : List ℕ) (n i : ℕ) → n ≤ length marks → length (map (key_there s) (slice i n marks)) ≡ n - i
marked_count s marks n i w = length-map (slice i n marks) (key_there s) ∙ length-slice i n marks w

marked_few : (s marks : List ℕ) (n : ℕ) → Rows s marks n → n ≤ 63 → length (marked_keys s marks n) ≤ 63
marked_few s marks n r h = omega (arith, marked_count s marks n 0 (rows_wide s marks n r))

-- ---- plan_size
pub record Sizing (s marks : List ℕ) (n size i : ℕ) : Type 0 where
  pub upto : i ≤ n
  pub few : n ≤ 63
  pub there : Rows s marks n
  pub long : size + length (joints (map (key_there s) (slice i n marks))) ≡ length (plan_bytes (marked_keys s marks n))
  pub bound : size ≤ 2 + i * 2053

pub size_begin : (s marks : List ℕ) (n : ℕ) → Rows s marks n → n ≤ 63 → Sizing s marks n 2 0
size_begin s marks n r h =
    record {
      upto = omega arith;
      few = h;
      there = r;
      long = sym (plan_length (marked_keys s marks n) (marked_few s marks n r h));
      bound = omega arith;
    }

module _ {s marks : List ℕ} {n size i : ℕ} (p : Sizing s marks n size i) where
  pub size_end : n ≤ i → size ≡ length (plan_bytes (marked_keys s marks n))
  unfolding joints
  size_end h =
      let e : i ≡ n = omega (arith, p.upto) in
      let z : slice i n marks ≡ [] = rw e (slice_empty n marks) in
      let l = rw z at p.long in
      omega (arith, l)

  module _ (h : i < n) where
    pub size_in : i < length marks
    size_in = (p.there.row i h).inside

    pub size_key : T (is_got (read_key (drop (get_or marks i 0) s)))
    size_key = (p.there.row i h).there

    module _ {key : List ℕ} (e : key ≡ key_there s (get_or marks i 0)) where
      most : length key ≤ 1024
      most = rw e (key_short s (get_or marks i 0) size_key)

      pub size_double : Fits w64 (2 * length key)
      size_double = omega (arith, most)

      pub size_one : Fits w64 (5 + 2 * length key)
      size_one = omega (arith, most)

      pub size_fits : Fits w64 (size + (5 + 2 * length key))
      size_fits = omega (arith, most, p.bound, p.few)

      pub size_more : Sizing s marks n (size + (5 + 2 * length key)) (i + 1)
      size_more =
          let w = rows_wide s marks n p.there in
          let l = rw (marked_next s marks n i w h) at p.long in
          let j = joints_length (key_there s (get_or marks i 0)) (map (key_there s) (slice (i + 1) n marks)) in
          record {
            upto = omega arith;
            few = p.few;
            there = p.there;
            long = omega (arith, l, j, ap length e);
            bound = omega (arith, p.bound, most);
          }

pub ruleset size_exits = (size_begin, size_end, size_in, size_key, size_double, size_one, size_fits, size_more)

-- ---- put_joint
module _ (d : List ℕ) (to : ℕ) (k : Key) (left : ℕ) (room : to + length (joint k left) ≤ length d) where
  pub joint_first : to + length (write_key k) ≤ length d
  joint_first = omega (arith, room, key_length k, joint_length k left)

  module _ {d₁ : List ℕ} (e₁ : d₁ ≡ splice d to (write_key k)) {head : ℕ} (f : head ≡ to + length (write_key k)) where
    length₁ : length d₁ ≡ length d
    length₁ = spliced_length d to (write_key k) e₁ joint_first

    pub joint_head : head < length d₁
    joint_head = omega (arith, length₁, room, key_length k, joint_length k left)

    pub joint_fits : length d < 2 ^ 64 → Fits w64 (head + 1)
    joint_fits h = omega (arith, length₁, joint_head)

    pub joint_past : {r : ℕ} → r ≡ head + 1 + length (write_key k) → r ≡ to + length (joint k left)
    joint_past g = omega (arith, g, f, key_length k, joint_length k left)

    module _ (h : ℕ) {d₂ : List ℕ} (e₂ : d₂ ≡ splice d₁ head (h ∷ [])) where
      length₂ : length d₂ ≡ length d
      length₂ = spliced_length d₁ head (h ∷ []) e₂ (omega (arith, joint_head)) ∙ length₁

      pub joint_second : head + 1 + length (write_key k) ≤ length d₂
      joint_second = omega (arith, length₂, room, f, key_length k, joint_length k left)

      pub joint_put : {j : Kind} {d₃ : List ℕ} → j ≡ end_kind left → h ≡ head_byte Included j → d₃ ≡ splice d₂ (head + 1) (write_key k) → d₃ ≡ splice d to (joint k left)
      unfolding joint
      joint_put {j} {d₃} a b e₃ =
          let x : d₂ ≡ splice d to (write_key k ++ (h ∷ [])) = e₂ ∙ rw e₁ (splice_splice d to (write_key k) (h ∷ []) head f joint_first) in
          let l : length (write_key k ++ (h ∷ [])) ≡ length (write_key k) + 1 = rw length-append (omega arith) in
          let y : splice d₂ (head + 1) (write_key k) ≡ splice d to ((write_key k ++ (h ∷ [])) ++ write_key k)
          = rw x (splice_splice d to (write_key k ++ (h ∷ [])) (write_key k) (head + 1) (omega (arith, l, f)) (omega (arith, l, room, key_length k, joint_length k left))) in
          let z : h ≡ head_byte Included (end_kind left) = b ∙ ap (head_byte Included) a in
          e₃ ∙ y ∙ ap (splice d to) (append_assoc (write_key k) (h ∷ []) (write_key k) ∙ rw z)

pub ruleset joint_exits = (joint_first, joint_head, joint_fits, joint_past, joint_second, joint_put, spliced_length)

-- ---- put_joints
pub record Putting (s marks : List ℕ) (n : ℕ) (d out : List ℕ) (to i : ℕ) : Type 0 where
  pub upto : i ≤ n
  pub there : Rows s marks n
  pub room : 2 + length (joints (marked_keys s marks n)) ≤ length d
  pub done : List ℕ
  pub all : done ++ joints (map (key_there s) (slice i n marks)) ≡ joints (marked_keys s marks n)
  pub is : out ≡ splice d 2 done
  pub long : to ≡ 2 + length done

pub put_begin : (s marks : List ℕ) (n : ℕ) (d : List ℕ) → Rows s marks n → 2 + length (joints (marked_keys s marks n)) ≤ length d → Putting s marks n d d 2 0
put_begin s marks n d r h =
    record { upto = omega arith; there = r; room = h; done = []; all = refl; is = sym (splice_none d 2); long = omega arith }

module _ {s marks : List ℕ} {n : ℕ} {d out : List ℕ} {to i : ℕ} (p : Putting s marks n d out to i) where
  done_long : length p.done + length (joints (map (key_there s) (slice i n marks))) ≡ length (joints (marked_keys s marks n))
  done_long = sym (length-append p.done (joints (map (key_there s) (slice i n marks)))) ∙ ap length p.all

  pub put_length : length out ≡ length d
  put_length = spliced_length d 2 p.done p.is (omega (arith, p.room, done_long))

  pub put_end : n ≤ i → out ≡ splice d 2 (joints (marked_keys s marks n))
  unfolding joints
  put_end h =
      let e : i ≡ n = omega (arith, p.upto) in
      let z : slice i n marks ≡ [] = rw e (slice_empty n marks) in
      let a : p.done ≡ joints (marked_keys s marks n) = sym (append-nil p.done) ∙ rw z at p.all in
      p.is ∙ ap (splice d 2) a

  module _ (h : i < n) where
    pub put_in : i < length marks
    put_in = (p.there.row i h).inside

    pub put_key : T (is_got (read_key (drop (get_or marks i 0) s)))
    put_key = (p.there.row i h).there

    next_is : joints (map (key_there s) (slice i n marks)) ≡ joint (key_there s (get_or marks i 0)) (n - (i + 1)) ++ joints (map (key_there s) (slice (i + 1) n marks))
    unfolding joints
    next_is =
        let w = rows_wide s marks n p.there in
        rw (marked_next s marks n i w h, marked_count s marks n (i + 1) w)

    abbrev piece : List ℕ
    piece = joint (key_there s (get_or marks i 0)) (n - (i + 1))

    next_long : length p.done + length piece + length (joints (map (key_there s) (slice (i + 1) n marks))) ≡ length (joints (marked_keys s marks n))
    next_long = omega (arith, done_long, ap length next_is ∙ length-append piece (joints (map (key_there s) (slice (i + 1) n marks))))

    pub put_room : to + length piece ≤ length out
    put_room = omega (arith, put_length, p.room, p.long, next_long)

    pub put_more : {out' : List ℕ} {to' : ℕ} → to' ≡ to + length piece → out' ≡ splice out to piece → Putting s marks n d out' to' (i + 1)
    put_more {out'} {to'} f e =
        record {
          upto = omega arith;
          there = p.there;
          room = p.room;
          done = p.done ++ piece;
          all = append_assoc p.done piece (joints (map (key_there s) (slice (i + 1) n marks))) ∙ ap (λ l. p.done ++ l) (sym next_is) ∙ p.all;
          is = e ∙ ap (λ l. splice l to piece) p.is ∙ splice_splice d 2 p.done piece to p.long (omega (arith, p.room, done_long));
          long = rw length-append (omega (arith, f, p.long));
        }

pub ruleset put_exits = (put_begin, put_length, put_end, put_in, put_key, put_room, put_more)

-- ---- put_plan
module _ (s marks : List ℕ) (n : ℕ) (r : Rows s marks n) (few : n ≤ 63) (d : List ℕ) (room : length (plan_bytes (marked_keys s marks n)) ≤ length d) where
  abbrev keys : List Key
  keys = marked_keys s marks n

  count : length keys ≡ n
  count = marked_count s marks n 0 (rows_wide s marks n r) ∙ omega arith

  size : length (plan_bytes keys) ≡ 2 + length (joints keys)
  size = plan_length keys (omega (arith, count, few))

  pub count_room : 0 < length d
  count_room = omega (arith, room, size)

  module _ {v : ℕ} {d₁ : List ℕ} (e₁ : d₁ ≡ splice d 0 (v ∷ [])) where
    one : length d₁ ≡ length d
    one = spliced_length d 0 (v ∷ []) e₁ (omega (arith, room, size))

    pub head_room : 1 < length d₁
    head_room = omega (arith, one, room, size)

    module _ (h : ℕ) {d₂ : List ℕ} (e₂ : d₂ ≡ splice d₁ 1 (h ∷ [])) where
      two : length d₂ ≡ length d
      two = spliced_length d₁ 1 (h ∷ []) e₂ (omega (arith, one, room, size)) ∙ one

      pub joints_room : 2 + length (joints keys) ≤ length d₂
      joints_room = omega (arith, two, room, size)

      pub plan_put : {j : Kind} {d₃ : List ℕ} → v ≡ n + 1 → j ≡ end_kind n → h ≡ head_byte Unbounded j → d₃ ≡ splice d₂ 2 (joints keys) → d₃ ≡ splice d 0 (plan_bytes keys)
      plan_put {j} {d₃} c a b e₃ =
          let x : d₂ ≡ splice d 0 (v ∷ h ∷ []) = e₂ ∙ rw e₁ (splice_splice d 0 (v ∷ []) (h ∷ []) 1 refl (omega (arith, room, size))) in
          let y : splice d₂ 2 (joints keys) ≡ splice d 0 (v ∷ h ∷ joints keys) = rw x (splice_splice d 0 (v ∷ h ∷ []) (joints keys) 2 refl (omega (arith, room, size))) in
          let z : v ∷ h ∷ joints keys ≡ plan_bytes keys = rw (c, b, a) (rw count at (sym (plan_bytes_lem keys (omega (arith, count, few))))) in
          e₃ ∙ y ∙ ap (splice d 0) z

pub ruleset plan_exits = (count_room, head_room, joints_room, plan_put, spliced_length)

-- ---- write_plan: what stands at the front of a buffer is put at its start
pub at_front : (d b : List ℕ) {f : List ℕ} → f ≡ splice d 0 b → f ≡ over b d
at_front d b e = e ∙ rw zero-add
