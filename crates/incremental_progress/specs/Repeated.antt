-- Records committed after earlier ones, and again: what such commits can stop with.
use Rattle.std.specs.Prelude.{ℕ, ◌≡◌, true, List, [], ◌∷◌}
use Rattle.std.proofs.Math.Option.{some}
use Rattle.base.specs.Bytes.{Bytes}
use Rattle.base.specs.Outcome.{Outcome, stop, answer}
use Rattle.manifest.specs.Checks.{has}
use Rattle.incremental_progress.specs.Commit.{commit_outcome}
use Rattle.incremental_progress.specs.Demand.{Step, OfBytes, accepted, last_of, EachLater}

-- an outcome that is an answer, or a stop by one of these numbers
pub record StopsIn {A : Type 0} (ns : List ℕ) (o : Outcome A) : Type 0 where
  pub listed : (n : ℕ) → o ≡ stop n → has n ns ≡ true

-- a record that an image accepts, given supply and room enough
pub record AcceptedGivenEnough (given record' : List ℕ) : Type 0 where
  -- whatever supply and buffer are lent, only "the id supply is used up" and "the output buffer is shorter" stop it
  pub otherwise : (ids : List ℕ) (room : ℕ) → StopsIn (14 ∷ 16 ∷ []) (commit_outcome given record' ids room)
  -- and there are a supply and a buffer with which it is accepted
  pub ids : List ℕ
  pub ids_bytes : Bytes ids
  pub room : ℕ
  pub new : List ℕ
  pub answers : commit_outcome given record' ids room ≡ answer new

-- A record accepted after earlier ones of its job is accepted on the first image too.
abbrev pub LastIsAcceptedAlone : Type 0
LastIsAcceptedAlone =
    (first : List ℕ) (steps : List Step) (record' : List ℕ)
    → Bytes first
    → OfBytes steps
    → EachLater (accepted first steps)
    → last_of (accepted first steps) ≡ some record'
    → AcceptedGivenEnough first record'

-- The same record again, on the image that it made: cut starts may descend, the supply be used up or the buffer be short.
abbrev pub SameRecordAgain : Type 0
SameRecordAgain =
    (given record' ids : List ℕ) (room : ℕ) (new : List ℕ)
    → Bytes given
    → Bytes record'
    → commit_outcome given record' ids room ≡ answer new
    → (ids' : List ℕ) (room' : ℕ)
    → StopsIn (6 ∷ 14 ∷ 16 ∷ []) (commit_outcome new record' ids' room')
