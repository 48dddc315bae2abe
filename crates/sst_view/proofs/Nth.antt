-- The value at a place of values that were read: it is read where those before it end.
-- Assumes nothing.
use Prim.Native.Nat.{ℕ, zero, suc, ◌<◌, ◌≤◌}
use native.Mathlib.Omega.{arith}
use mathlib.Core.Path.{◌≡◌, refl}
use mathlib.Core.Option.{some, none}
use mathlib.Core.List.{List, [], ◌∷◌}
use lib.ListN.{length}
use Rattle.format.specs.Got.{Got, got}
use Rattle.format.proofs.Layouts.{came}
use Rattle.records.specs.Form.{read_many}
use Rattle.db_state.specs.Places.{at}

pub record Nth {A : Type 0} (f : List ℕ → Got A) (k : ℕ) (l : List ℕ) (bs : List A) : Type 0 where
  pub front : List A
  pub rest : List ℕ
  pub value : A
  pub next : List ℕ
  pub before : read_many f k l ≡ got front rest
  pub read : f rest ≡ got value next
  pub is : at bs k ≡ some value

same_nth : {A : Type 0} {f : List ℕ → Got A} {k : ℕ} {l : List ℕ} {bs cs : List A} → bs ≡ cs → Nth f k l cs → Nth f k l bs
same_nth e n = rw e n

one_before : {A : Type 0} (f : List ℕ → Got A) (k : ℕ) (l q r : List ℕ) (a : A) (bs : List A) → f l ≡ got a q → read_many f k q ≡ got bs r → read_many f (suc k) l ≡ got (a ∷ bs) r
unfolding read_many
one_before f k l q r a bs h e = rw (h, e)

pub nth : {A : Type 0} (f : List ℕ → Got A) (k n : ℕ) (l : List ℕ) (bs : List A) (r : List ℕ) → read_many f n l ≡ got bs r → k < n → Nth f k l bs
unfolding read_many at
nth f k zero l bs r e h = absurd (omega arith)
nth f zero (suc n) l bs r e h =
    let a = came (f l) _ bs r e in
    let b = came (read_many f n a.rest) _ bs r a.second in
    let z : bs ≡ a.value ∷ b.value = cc b.second in
    same_nth z (record { front = []; rest = l; value = a.value; next = a.rest; before = refl; read = a.first; is = refl })
nth f (suc k) (suc n) l bs r e h =
    let a = came (f l) _ bs r e in
    let b = came (read_many f n a.rest) _ bs r a.second in
    let z : bs ≡ a.value ∷ b.value = cc b.second in
    let y : r ≡ b.rest = cc b.second in
    let m = nth f k n a.rest b.value b.rest b.first (omega arith) in
    same_nth z (record { front = a.value ∷ m.front; rest = m.rest; value = m.value; next = m.next; before = one_before f k l a.rest m.rest a.value m.front a.first m.before; read = m.read; is = m.is })

pub past_all : {A : Type 0} (bs : List A) (k : ℕ) → length bs ≤ k → at bs k ≡ none
unfolding at
past_all [] k h = refl
past_all (b ∷ bs) zero h = absurd (omega arith)
past_all (b ∷ bs) (suc k) h = past_all bs k (omega arith)
