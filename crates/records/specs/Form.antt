-- A layout: how a value is read from the front of a list, how it is written, and which values are within the ceilings.
-- A few combinators make every layout of document 01, "Images"; widths, counts and elements are their parameters.
use Rattle.std.specs.Prelude.{ℕ, zero, suc, ◌<◌, ◌^◌, ◌≡◌, Bool, true, false, List, [], ◌∷◌, ◌++◌, length}
use Rattle.std.proofs.Math.Option.{Option, none, some}
use Rattle.base.specs.Outcome.{Outcome, answer}
use Rattle.base.specs.Outcome as outcome
use Rattle.key.specs.Order.{Key}
use Rattle.comparable_range.specs.Range.{Range}
use Rattle.format.specs.Got.{Got, got, stop, and_then}
use Rattle.format.specs.Number.{read_number, write_number}
use Rattle.format.specs.Key.{read_bytes, read_key, write_key}
use Rattle.format.specs.Range.{read_range, write_range}
use Rattle.format.specs.Laws.{KeyWithin, RangeWithin}

pub record Form (A : Type 0) : Type 1 where
  pub read : List ℕ → Got A
  pub write : A → List ℕ
  pub Within : A → Type 0

-- ---- the fields
-- a number of n bytes
abbrev pub number : ℕ → Form ℕ
number n = record { read = read_number n; write = write_number n; Within = λ v. v < 256 ^ n }

-- n bytes
abbrev pub bytes : ℕ → Form (List ℕ)
bytes n = record { read = read_bytes n; write = λ l. l; Within = λ l. length l ≡ n }

abbrev pub key : Form Key
key = record { read = read_key; write = write_key; Within = KeyWithin }

abbrev pub range : Form Range
range = record { read = read_range; write = write_range; Within = RangeWithin }

-- Fields that share a number of n bytes: what they are, or the stop of the first that is refused.
abbrev pub taken : {A : Type 0} → Outcome A → List ℕ → Got A
taken (outcome.stop k) r = stop k
taken (answer a) r = got a r

abbrev pub packed : {A : Type 0} → ℕ → (ℕ → Outcome A) → (A → ℕ) → (A → Type 0) → Form A
packed n parts joined Within =
    record { read = λ l. and_then (read_number n l) (λ w r. taken (parts w) r); write = λ v. write_number n (joined v); Within = Within }

-- ---- fields one after another
-- two, of which the second may depend on the first
pub record Both {A B : Type 0} (f : Form A) (g : A → Form B) (p : A × B) : Type 0 where
  pub first : f.Within p.0
  pub second : (g p.0).Within p.1

abbrev pub seq : {A B : Type 0} → Form A → (A → Form B) → Form (A × B)
seq f g =
    record {
      read = λ l. and_then (f.read l) (λ a r. and_then ((g a).read r) (λ b q. got (a, b) q));
      write = λ p. f.write p.0 ++ (g p.0).write p.1;
      Within = Both f g;
    }

-- the same value by another name
abbrev pub named : {A B : Type 0} → (A → B) → (B → A) → Form A → Form B
named to from f =
    record {
      read = λ l. and_then (f.read l) (λ a r. got (to a) r);
      write = λ b. f.write (from b);
      Within = λ b. f.Within (from b);
    }

-- a field that is there if a flag says so
pub data There {A : Type 0} (f : Form A) : Bool → Option A → Type 0 where
  absent : There f false none
  present : {a : A} → f.Within a → There f true (some a)

unfoldable pub read_if : {A : Type 0} → Form A → Bool → List ℕ → Got (Option A)
read_if f false l = got none l
read_if f true l = and_then (f.read l) (λ a r. got (some a) r)

unfoldable pub write_if : {A : Type 0} → Form A → Option A → List ℕ
write_if f none = []
write_if f (some a) = f.write a

abbrev pub optional : {A : Type 0} → Form A → Bool → Form (Option A)
optional f flag = record { read = read_if f flag; write = write_if f; Within = There f flag }

-- n values, one after another
pub data All {A : Type 0} (f : Form A) : ℕ → List A → Type 0 where
  none_left : All f zero []
  one_more : {a : A} {n : ℕ} {as' : List A} → f.Within a → All f n as' → All f (suc n) (a ∷ as')

unfoldable pub read_many : {A : Type 0} → (List ℕ → Got A) → ℕ → List ℕ → Got (List A)
read_many f zero l = got [] l
read_many f (suc n) l = and_then (f l) (λ a r. and_then (read_many f n r) (λ bs q. got (a ∷ bs) q))

unfoldable pub write_many : {A : Type 0} → (A → List ℕ) → List A → List ℕ
write_many w [] = []
write_many w (a ∷ bs) = w a ++ write_many w bs

abbrev pub many : {A : Type 0} → Form A → ℕ → Form (List A)
many f n = record { read = read_many f.read n; write = write_many f.write; Within = All f n }
