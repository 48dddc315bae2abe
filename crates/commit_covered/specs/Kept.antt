-- The ids of a job's outputs in a table of chains: what the two slices hold.
use Rattle.std.specs.Prelude.{ℕ, suc, ◌+◌, ◌*◌, ◌%◌, ◌≤◌, ◌<◌, ◌≡◌, Bool, false, ◌||◌, List, [], ◌∷◌, ◌++◌, T, eqb, length, get_or, take, drop}
use Rattle.base.specs.Pick.{pick}
use Rattle.key.specs.Word.{digits}
use Rattle.records.specs.Form.{read_many}
use Rattle.records.specs.Found.{is_got, values_of}
use Rattle.records.specs.Values.{Table}
use Rattle.records.specs.Layouts.{table}
use Rattle.records.specs.declared.ids.TableId.{TableId}
use Rattle.incremental_progress.specs.Ids.{same_table_id}
use Rattle.incremental_progress.specs.Jobs.{outputs}
use Rattle.commit_durable.specs.Tables.{job_of}

-- the id is that of one of the tables
unfoldable pub id_among : TableId → List Table → Bool
id_among x [] = false
id_among x (t ∷ ts) = same_table_id x t.id || id_among x ts

-- ---- entries and chains
-- the entry of an id, of n: all of its bytes count
unfoldable pub entry_of : ℕ → TableId → ℕ
entry_of n x = (digits 0 (take 8 x.0) % 8161 + digits 0 (take 8 (drop 8 x.0)) % 8147) % n

-- the ids of tables, last first, before others
unfoldable pub newest : List TableId → List Table → List TableId
newest is [] = is
newest is (t ∷ ts) = newest (t.id ∷ is) ts

-- The ids stand last first: the number of one is how many stand after it. One more than the number of the first that has
-- an entry, or 0.
unfoldable pub latest : ℕ → ℕ → List TableId → ℕ
latest n e [] = 0
latest n e (i ∷ is) = pick (eqb (entry_of n i) e) (suc (length is)) (latest n e is)

-- the row of an id: its place in the job s, and the latest before it that has the same entry
pub data Chained (s chain : List ℕ) (n : ℕ) : List TableId → Type 0 where
  none_kept : Chained s chain n []
  kept :
      {i : TableId} {is : List TableId}
      → get_or chain (length is * 2) 0 + 16 ≤ length s
      → take 16 (drop (get_or chain (length is * 2) 0) s) ≡ i.0
      → get_or chain (length is * 2 + 1) 0 ≡ latest n (entry_of n i) is
      → Chained s chain n is
      → Chained s chain n (i ∷ is)

-- the ids of the tables are kept
pub record IdsKept (s : List ℕ) (ts : List Table) (chain slots : List ℕ) : Type 0 where
  pub long : length ts * 2 ≤ length chain
  pub some_slot : 0 < length slots
  pub chained : Chained s chain (length slots) (newest [] ts)
  pub lasts : (e : ℕ) → e < length slots → get_or slots e 0 ≡ latest (length slots) e (newest [] ts)

-- ---- the outputs of a job
-- two numbers for each
pub record Room (s chain : List ℕ) : Type 0 where
  pub enough : length (outputs (job_of s).parts) * 2 ≤ length chain

pub record Cleared (slots slots' : List ℕ) : Type 0 where
  pub same_length : length slots' ≡ length slots
  pub zero : (e : ℕ) → e < length slots → get_or slots' e 0 ≡ 0

-- m outputs of the job s from output k on stand at a place
pub record OutputsHere (s : List ℕ) (first m k : ℕ) : Type 0 where
  pub inside : first ≤ length s
  pub there : T (is_got (read_many table.read m (drop first s)))
  pub are : drop k (outputs (job_of s).parts) ≡ values_of (read_many table.read m (drop first s)) ++ drop (k + m) (outputs (job_of s).parts)

-- the first k outputs
pub record SomeKept (s : List ℕ) (k : ℕ) (chain slots : List ℕ) : Type 0 where
  pub upto : k ≤ length (outputs (job_of s).parts)
  pub ids : IdsKept s (take k (outputs (job_of s).parts)) chain slots

pub record MoreKept (s : List ℕ) (k : ℕ) (chain slots chain' slots' : List ℕ) : Type 0 where
  pub kept : SomeKept s k chain' slots'
  pub chain_length : length chain' ≡ length chain
  pub slots_length : length slots' ≡ length slots

-- all of them
pub record AllKept (s chain slots chain' slots' : List ℕ) : Type 0 where
  pub kept : IdsKept s (outputs (job_of s).parts) chain' slots'
  pub chain_length : length chain' ≡ length chain
  pub slots_length : length slots' ≡ length slots
