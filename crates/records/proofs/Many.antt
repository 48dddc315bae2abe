-- The loop over n values, whatever reads one: what was read so far, in front of what is left, is what all give.
-- Assumes nothing.
use Prim.Native.Nat.{ℕ, zero, suc, ◌+◌, ◌-◌, ◌<◌, ◌≤◌}
use native.Mathlib.Omega.{arith}
use mathlib.Core.Path.{◌≡◌, refl, sym, ap, ◌∙◌}
use mathlib.Core.List.{List, [], ◌∷◌, ◌++◌, append_assoc, append-nil}
use lib.ListN.{length, drop, length-append}
use lib.Dec.{T}
use Rattle.format.specs.Got.{Got, got, stop, and_then}
use Rattle.records.specs.Form.{read_many}
use Rattle.records.specs.Found.{is_got, values_of}

-- what was read before, in front of what a reader finds
abbrev pub after : {A : Type 0} → List A → Got (List A) → Got (List A)
after seen (got bs q) = got (seen ++ bs) q
after seen (stop k) = stop k

after_one : {A : Type 0} (seen : List A) (a : A) (g : Got (List A)) → after seen (and_then g (λ bs q. got (a ∷ bs) q)) ≡ after (seen ++ (a ∷ [])) g
after_one seen a (got bs q) = ap (λ l. got l q) (sym (append_assoc seen (a ∷ []) bs))
after_one seen a (stop k) = refl

after_none : {A : Type 0} (g : Got (List A)) → g ≡ after [] g
after_none (got bs q) = refl
after_none (stop k) = refl

one_of : {A : Type 0} (f : List ℕ → Got A) (n : ℕ) (l : List ℕ) → 0 < n → read_many f n l ≡ and_then (f l) (λ a r. and_then (read_many f (n - 1) r) (λ bs q. got (a ∷ bs) q))
unfolding read_many
one_of f zero l h = absurd (omega arith)
one_of f (suc n) l h = let z : suc n - 1 ≡ n = omega arith in rw z

-- left of n values are still to be read, from at on
pub record Reading {A : Type 0} (f : List ℕ → Got A) (s : List ℕ) (from n left at : ℕ) (seen : List A) : Type 0 where
  pub within : at ≤ length s
  pub count : length seen + left ≡ n
  pub rest : read_many f n (drop from s) ≡ after seen (read_many f left (drop at s))

pub begin : {A : Type 0} (f : List ℕ → Got A) (s : List ℕ) (from n : ℕ) → from ≤ length s → Reading f s from n n from []
begin f s from n h = record { within = h; count = omega arith; rest = after_none (read_many f n (drop from s)) }

module _ {A : Type 0} {f : List ℕ → Got A} {s : List ℕ} {from n left at : ℕ} {seen : List A} (p : Reading f s from n left at seen) where
  pub stopped : {k : ℕ} → 0 < left → f (drop at s) ≡ stop k → read_many f n (drop from s) ≡ stop k
  stopped h e = p.rest ∙ rw (one_of f left (drop at s) h, e)

  pub onward : {a : A} {next : ℕ} → 0 < left → f (drop at s) ≡ got a (drop next s) → next ≤ length s → Reading f s from n (left - 1) next (seen ++ (a ∷ []))
  onward {a} {next} h e w =
      record {
        within = w;
        count = rw length-append (omega (arith, p.count));
        rest = p.rest ∙ rw (one_of f left (drop at s) h, e) (after_one seen a (read_many f (left - 1) (drop next s)));
      }

  pub all_read : left ≤ 0 → read_many f n (drop from s) ≡ got seen (drop at s)
  unfolding read_many
  all_read h =
      let z : left ≡ 0 = omega arith in
      p.rest ∙ rw (z, append-nil)

-- ---- values that are known to be there

-- what is left, after a value
pub record Ahead {A : Type 0} (g : Got (List A)) (seen : List A) (a : A) : Type 0 where
  pub tail : List A
  pub all : values_of g ≡ seen ++ (a ∷ tail)

pub record Front {A : Type 0} (g : Got (List A)) (seen : List A) : Type 0 where
  pub tail : List A
  pub all : values_of g ≡ seen ++ tail

module _ {A : Type 0} {f : List ℕ → Got A} {s : List ℕ} {from n left at : ℕ} {seen : List A} (p : Reading f s from n left at seen) (t : T (is_got (read_many f n (drop from s)))) where
  pub no_stop : {k : ℕ} → 0 < left → f (drop at s) ≡ stop k → ⊥
  no_stop {k} h e = rw (stopped p {k = k} h e) at t

  pub ahead : {a : A} (r : List ℕ) → 0 < left → f (drop at s) ≡ got a r → Ahead (read_many f n (drop from s)) seen a
  ahead {a} r h e = go (read_many f (left - 1) r) (p.rest ∙ rw (one_of f left (drop at s) h, e)) t
    where
      go : (g : Got (List A)) → read_many f n (drop from s) ≡ after seen (and_then g (λ bs q. got (a ∷ bs) q)) → T (is_got (read_many f n (drop from s))) → Ahead (read_many f n (drop from s)) seen a
      go (got bs q) w t = record { tail = bs; all = rw w }
      go (stop k) w t = absurd (rw w at t)

  -- those seen stand first
  pub front : Front (read_many f n (drop from s)) seen
  front = go (read_many f left (drop at s)) p.rest t
    where
      go : (g : Got (List A)) → read_many f n (drop from s) ≡ after seen g → T (is_got (read_many f n (drop from s))) → Front (read_many f n (drop from s)) seen
      go (got bs q) w t = record { tail = bs; all = rw w }
      go (stop k) w t = absurd (rw w at t)
