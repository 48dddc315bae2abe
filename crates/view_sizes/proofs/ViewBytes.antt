-- What is called by place in an accepted image of bytes: views of byte keys, at most 1,024 to a run.
-- Assumes nothing.
use Prim.Native.Nat.{ℕ, zero, suc, ◌≤◌}
use native.Mathlib.Omega.{arith}
use mathlib.Core.Path.{◌≡◌, subst}
use mathlib.Core.Bool.{true}
use mathlib.Core.Option.{some}
use mathlib.Core.List.{List, [], ◌∷◌}
use lib.ListN.{length}
use Rattle.base.specs.Bytes.{Bytes}
use Rattle.base.specs.Outcome.{answer}
use Rattle.records.specs.Values.{View, Run, Image}
use Rattle.records.specs.Layouts.{image}
use Rattle.records.proofs.RecordLayouts.{image_layout}
use Rattle.manifest.specs.Checks.{all, size_passes, image_given}
use Rattle.manifest.proofs.Given.{whole_read}
use Rattle.db_state.specs.Places.{at, placed}
use Rattle.db_state.specs.LookupCalls.{views_at}
use Rattle.base.specs.Lists.{All}
use Rattle.records.proofs.Within.{RunWithin, image_parts}
use Rattle.manifest.proofs.ReadKeys.{ViewBytes, image_keys}
use Rattle.view_sizes.proofs.Passed.{came, is_there_lem, was_read, image_sized, run_sized}

-- ---- what is called by place
pub at_all : {A : Type 0} (P : A → Type 0) (as' : List A) (n : ℕ) (a : A) → All P as' → at as' n ≡ some a → P a
unfolding at
at_all P [] n a h e = absurd (let z : ◌≡◌ {A = ℕ} 0 1 = cc in omega arith)
at_all P (b ∷ as') zero a h e = let z : b ≡ a = cc in subst P z h.0
at_all P (b ∷ as') (suc n) a h e = at_all P as' n a h.1 e

-- the views of a run
pub record RunOfBytes (vs : List View) : Type 0 where
  pub keys : All ViewBytes vs
  pub sized : all (λ v. size_passes v.table) vs ≡ true
  pub most : length vs ≤ 1024

pub run_of_bytes : (l : List ℕ) (run : ℕ) (i : Image) (vs : List View) → Bytes l → image_given l ≡ answer i → views_at i run ≡ answer vs → RunOfBytes vs
run_of_bytes l run i vs b e f =
    let c = came (placed (at i run)) _ vs f in
    let z : c.value.views ≡ vs = cc c.second in
    let g = is_there_lem (at i run) c.first in
    let read = was_read l i e in
    let w = image_parts i (image_layout.only l i [] b (whole_read image.read l i read).all).within in
    record {
      keys = rw (← z) (at_all (λ (r : Run). All ViewBytes r.views) i run c.value (image_keys l i b read) g);
      sized = run_sized i run vs (image_sized l i e) f;
      most = rw (← z) (at_all RunWithin i run c.value w.runs g).count;
    }
