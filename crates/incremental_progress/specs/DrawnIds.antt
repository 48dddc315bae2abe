-- "A new id keeps the time and takes the next 10 bytes of the lent supply, drawing again if equal to the old id."
use Rattle.std.specs.Prelude.{◌≡◌, List, ◌∷◌, ◌++◌, length, take}
use Rattle.records.specs.declared.ids.ViewId.{ViewId}
use Rattle.incremental_progress.specs.Draws.{Ten, got, new_id, draw}
use Rattle.incremental_progress.specs.Members.{In}

-- of an id, a supply, the ten bytes drawn and the rest of the supply
pub record DrawnFor (id : ViewId) (s : List Ten) (ten : Ten) (rest : List Ten) : Type 0 where
  -- the 48 bits of time are the old id's
  pub time : take 6 (new_id id ten).0 ≡ take 6 id.0
  -- the new id is not the old one
  pub differs : new_id id ten ≡ id → ⊥
  -- the ten bytes are the supply's next, after those that would have made the old id
  pub passed : List Ten
  pub lent : s ≡ passed ++ (ten ∷ rest)
  pub again : (t : Ten) → In t passed → new_id id t ≡ id

abbrev pub DrawnIdIsNew : Type 0
DrawnIdIsNew =
    (id : ViewId) (s : List Ten) (ten : Ten) (rest : List Ten) → length id.0 ≡ 16 → draw id s ≡ got ten rest → DrawnFor id s ten rest
