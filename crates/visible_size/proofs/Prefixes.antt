-- How many bytes two keys begin with alike: as many as the pairs of their bytes, from the first on, that are of one byte.
-- Assumes nothing.
use Rattle.std.proofs.Common.{◌≡◌, ℕ, suc, Bool, true, false, cond, eqb, ◌+◌, length, take, [], ◌∷◌, refl, arith, ◌∙◌}
use Rattle.std.specs.List.{zip, prefix_len}
use Rattle.std.proofs.lemmas.List.Folds.{length-prefix_len}
use Rattle.base.specs.Pick.{pick}
use Rattle.key.specs.Order.{Key}
use Rattle.visible_size.specs.Steps.{common_prefix_len}

abbrev pub one_byte : ℕ × ℕ → Bool
one_byte p = eqb p.0 p.1

pub alike_pairs : (a b : Key) → prefix_len one_byte (zip a b) ≡ common_prefix_len a b
unfolding common_prefix_len
alike_pairs [] b = refl
alike_pairs (x ∷ a) [] = refl
alike_pairs (x ∷ a) (y ∷ b) = rw (alike_pairs a b) (go (eqb x y) (common_prefix_len a b))
  where
    go : (t : Bool) (n : ℕ) → cond t (1 + n) 0 ≡ pick t (suc n) 0
    go true n = omega arith
    go false n = refl

pub alike : (a b : Key) {r : ℕ} → r ≡ length (take (prefix_len one_byte (zip a b)) (zip a b)) → r ≡ common_prefix_len a b
alike a b e = e ∙ length-prefix_len one_byte (zip a b) ∙ alike_pairs a b
