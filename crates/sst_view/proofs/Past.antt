-- The place past some values that are there: the next is read there, and is the one after them.
-- Assumes nothing.
use Prim.Native.Nat.{ℕ, zero, suc, ◌+◌, ◌<◌, ◌≤◌}
use native.Mathlib.Numerals.{add-one}
use mathlib.Core.Path.{◌≡◌, refl, sym, ap, ◌∙◌}
use mathlib.Core.Option.{none, some}
use mathlib.Core.List.{List, [], ◌∷◌, ◌++◌}
use lib.ListN.{length, drop}
use lib.Dec.{T}
use Rattle.format.specs.Got.{Got, got, stop, and_then}
use Rattle.records.specs.Form.{read_many}
use Rattle.records.specs.Found.{is_got, values_of}
use Rattle.records.proofs.Forms.{read_many_length}
use Rattle.db_state.specs.Places.{at as index_at}
use Rattle.records.specs.There.{Past}
use Rattle.sst_view.proofs.Nth.{Nth, nth, past_all}

-- the last of some values is read after the others
abbrev last_read : {A : Type 0} → (List ℕ → Got A) → Got (List A) → Got (List A)
last_read f g = and_then g (λ bs q. and_then (f q) (λ a r. got (bs ++ (a ∷ [])) r))

one_first : {A : Type 0} (f : List ℕ → Got A) (a : A) (g : Got (List A)) → and_then (last_read f g) (λ bs q. got (a ∷ bs) q) ≡ last_read f (and_then g (λ bs q. got (a ∷ bs) q))
one_first f a (stop n) = refl
one_first {A} f a (got bs q) = go (f q)
  where
    go : (h : Got A) → and_then (and_then h (λ b r. got (bs ++ (b ∷ [])) r)) (λ cs r. got (a ∷ cs) r) ≡ and_then h (λ b r. got (a ∷ (bs ++ (b ∷ []))) r)
    go (got b r) = refl
    go (stop n) = refl

read_last : {A : Type 0} (f : List ℕ → Got A) (k : ℕ) (l : List ℕ) → read_many f (suc k) l ≡ last_read f (read_many f k l)
unfolding read_many
read_last f zero l = go (f l)
  where
    go : {A : Type 0} (g : Got A) → and_then g (λ a r. and_then (got [] r) (λ bs q. got (a ∷ bs) q)) ≡ and_then g (λ a r. got (a ∷ []) r)
    go (got a r) = refl
    go (stop n) = refl
read_last {A} f (suc k) l = go (f l) (λ r. read_last f k r)
  where
    go :
        (g : Got A)
        → ((r : List ℕ) → read_many f (suc k) r ≡ last_read f (read_many f k r))
        → and_then g (λ a r. and_then (read_many f (suc k) r) (λ bs q. got (a ∷ bs) q))
        ≡ last_read f (and_then g (λ a r. and_then (read_many f k r) (λ bs q. got (a ∷ bs) q)))
    go (stop n) e = refl
    go (got a r) e = ap (λ h. and_then h (λ bs q. got (a ∷ bs) q)) (e r) ∙ one_first f a (read_many f k r)

pub past_none : {A : Type 0} (f : List ℕ → Got A) (s : List ℕ) (from : ℕ) → from ≤ length s → Past s (read_many f 0 (drop from s)) from
unfolding read_many
past_none f s from h = record { is = refl; inside = h }

module _ {A : Type 0} (f : List ℕ → Got A) (s : List ℕ) (from k : ℕ) {at : ℕ} (p : Past s (read_many f k (drop from s)) at) where
  read_next : {a : A} {r : List ℕ} → f (drop at s) ≡ got a r → read_many f (k + 1) (drop from s) ≡ got (values_of (read_many f k (drop from s)) ++ (a ∷ [])) r
  read_next e = rw add-one (read_last f k (drop from s) ∙ rw (p.is, e))

  pub values_more : {a : A} {r : List ℕ} → f (drop at s) ≡ got a r → values_of (read_many f (k + 1) (drop from s)) ≡ values_of (read_many f k (drop from s)) ++ (a ∷ [])
  values_more e = ap values_of (read_next e)

  pub past_more : {a : A} {next : ℕ} → f (drop at s) ≡ got a (drop next s) → next ≤ length s → Past s (read_many f (k + 1) (drop from s)) next
  past_more {a} {next} e h = record { is = read_next e ∙ ap (λ bs. got bs (drop next s)) (sym (values_more e)); inside = h }

  module _ (n : ℕ) (h : k < n) (t : T (is_got (read_many f n (drop from s)))) where
    nth_of : (g : Got (List A)) → read_many f n (drop from s) ≡ g → T (is_got g) → Nth f k (drop from s) (values_of (read_many f n (drop from s)))
    nth_of (got bs r) e u = rw e (nth f k n (drop from s) bs r e h)
    nth_of (stop j) e u = absurd u

    here : Nth f k (drop from s) (values_of (read_many f n (drop from s)))
    here = nth_of (read_many f n (drop from s)) refl t

    read_here : f (drop at s) ≡ got here.value here.next
    read_here =
        let a = here.before in
        let b = p.is in
        let z : here.rest ≡ drop at s = cc in
        ap f (sym z) ∙ here.read

    pub past_here : T (is_got (f (drop at s)))
    past_here = rw read_here tt

    pub value_here : {a : A} {r : List ℕ} → f (drop at s) ≡ got a r → index_at (values_of (read_many f n (drop from s))) k ≡ some a
    value_here {a} e =
        let b = read_here in
        let z : here.value ≡ a = cc in
        here.is ∙ ap some z

-- ---- values that are there
pub before_got : {A : Type 0} (f : List ℕ → Got A) (k n : ℕ) (l : List ℕ) → k < n → T (is_got (read_many f n l)) → T (is_got (read_many f k l))
before_got {A} f k n l h t = go (read_many f n l) refl t
  where
    go : (g : Got (List A)) → read_many f n l ≡ g → T (is_got g) → T (is_got (read_many f k l))
    go (got bs r) e u = rw (nth f k n l bs r e h).before tt
    go (stop j) e u = absurd u

pub none_past : {A : Type 0} (f : List ℕ → Got A) (k n : ℕ) (l : List ℕ) → n ≤ k → T (is_got (read_many f n l)) → index_at (values_of (read_many f n l)) k ≡ none
none_past {A} f k n l h t = go (read_many f n l) refl t
  where
    go : (g : Got (List A)) → read_many f n l ≡ g → T (is_got g) → index_at (values_of g) k ≡ none
    go (got bs r) e u = past_all bs k (rw (read_many_length f n l bs r e) h)
    go (stop j) e u = absurd u
