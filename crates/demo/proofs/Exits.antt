-- The exit of `has` where the bytes stand. Assumes nothing.
use Rattle.std.proofs.Common.{ℕ, ◌≡◌, ◌==◌, ◌-◌, ◌≤◌, ◌∙◌, true, ap, Bool, List, take, drop, length, length-drop, sym, arith}
use Rattle.std.proofs.Math.Seq.{take_all}
use Rattle.std.specs.List.{starts_with}
use Rattle.std.proofs.lemmas.Slice.Eq.{slice_eq-Decides}
use Rattle.std.proofs.lemmas.Bool.Decides.{Decides-eqb}
use Rattle.demo.specs.Has.{Has}

pub has_one : (text piece : List ℕ) (at : ℕ) {r : Bool} → r ≡ starts_with (λ (x : ℕ). λ (y : ℕ). x == y) (take (length text - at) (drop at text)) piece → r ≡ true → true ≡ true → Has text piece
has_one text piece at e h t =
    let l : length (drop at text) ≤ length text - at = simp length-drop (omega arith) in
    let rest = take_all (length text - at) (drop at text) l in
    record { at = at; count = length piece; stands = ap (take (length piece)) (sym rest) ∙ sym ((slice_eq-Decides Decides-eqb _ _ _ e).0 h) }
