-- A given key is taken or not by its length.
-- Assumes nothing.
use Prim.Native.Nat.{ℕ, ◌<◌, ◌≤◌}
use mathlib.Core.Path.{◌≡◌}
use mathlib.Core.List.{List}
use lib.ListN.{length}
use borrow.Author.Tests.{le-leb, lt-leb}
use Rattle.base.specs.Outcome.{stop, answer}
use Rattle.format.specs.Whole.{key_given}

pub key_fits : (l : List ℕ) → length l ≤ 1024 → key_given l ≡ answer l
unfolding key_given
key_fits l h = rw (le-leb (length l) 1024 h)

pub key_long : (l : List ℕ) → 1024 < length l → key_given l ≡ stop 3
unfolding key_given
key_long l h = rw (lt-leb (length l) 1024 h)
