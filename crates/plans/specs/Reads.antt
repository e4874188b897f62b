-- Reads of a list of records, in order, up to the first that a store lacks.
use Rattle.std.specs.Prelude.{◌≡◌, ℕ, ◌<◌, ◌≤◌, cond, ◌↔◌, List, [], ◌∷◌, ◌++◌, length, Some, None, Option, nat_lt}
use Rattle.std.specs.List.{AllByRecursion}
use Rattle.store.specs.Meaning.{Meaning, after_reads}

-- the records that were read, and the one that was missing, if one was
pub record Reads : Type 0 where
  pub before : List ℕ
  pub missing : Option ℕ

abbrev pub with_first : ℕ → Reads → Reads
with_first r u = record { before = r ∷ u.before; missing = u.missing }

-- the reads of a store that holds n records
abbrev pub reads_until : (n : ℕ) → List ℕ → Reads
reads_until n [] = record { before = []; missing = None }
reads_until n (r ∷ rs) = cond (nat_lt r n) (with_first r (reads_until n rs)) (record { before = []; missing = Some r })

-- The records rs were fetched from a store, up to the missing one, if one is: so it stands then.
pub record Fetches (m : Meaning) (rs : List ℕ) (missing : Option ℕ) (m' : Meaning) : Type 0 where
  pub ends : (reads_until (length m.keys) rs).missing ≡ missing
  pub reads : m' ≡ after_reads (length (reads_until (length m.keys) rs).before) m

-- None is missing exactly if all are held, and then all were read.
abbrev pub ReadsAll : Type 0
ReadsAll = (n : ℕ) (rs : List ℕ) → ((reads_until n rs).missing ≡ None) ↔ (((reads_until n rs).before ≡ rs) × AllByRecursion (λ r. r < n) rs)

-- The missing one is the first that is not held, and those before it were read.
abbrev pub EndsAtTheMissing : Type 0
EndsAtTheMissing = (n : ℕ) (rs : List ℕ) (q : ℕ) → ((reads_until n rs).missing ≡ Some q) ↔
    ((zs : List ℕ) × ((rs ≡ (reads_until n rs).before ++ (q ∷ zs)) × (AllByRecursion (λ r. r < n) (reads_until n rs).before × (n ≤ q))))
