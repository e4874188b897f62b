-- What a store means, and what its calls do to that.
use Rattle.std.specs.Prelude.{◌≡◌, ℕ, ◌+◌, ◌%◌, ◌^◌, ◌<◌, ◌≤◌, not, List, [], ◌∷◌, ◌++◌, length, Some, Ok, Err, Result, ◌==◌, nat_le, slice_index_or}
use Rattle.std.specs.List.{AllByRecursion}
use Rattle.keys.specs.Bytes.{Key}
use Rattle.store.specs.declared.refusal.Refusal.{Refusal}
use Rattle.store.specs.declared.refusal.Refusal.TheVariants.{KeyLength, NotHeld, StoreFull}
use Rattle.store.specs.Grounds.{Ground, first_ground}

-- A store means four things: the width of its keys in bytes, its list of keys (record r is the r-th, counted from 0), a
-- capacity, and the tally of the keys fetched.
pub record Meaning : Type 0 where
  pub width : ℕ
  pub keys : List (List ℕ)
  pub capacity : ℕ
  pub tally : ℕ

-- what holds of every store
pub record Lawful (m : Meaning) : Type 0 where
  pub narrowest : 1 ≤ m.width
  pub widest : m.width ≤ 32
  pub each : AllByRecursion (Key m.width) m.keys
  pub room : length m.keys ≤ m.capacity
  pub most : m.capacity ≤ 65535
  pub wraps : m.tally < 2 ^ 32

-- What n reads do to a store: its tally rises by n, modulo 2^32, and all else remains.
abbrev pub after_reads : ℕ → Meaning → Meaning
after_reads n m = record { width = m.width; keys = m.keys; capacity = m.capacity; tally = (m.tally + n) % 2 ^ 32 }

-- the key of a record
abbrev pub key_of : Meaning → ℕ → List ℕ
key_of m r = slice_index_or m.keys r []

-- a fetch's grounds, for the record r and a buffer of n bytes: the buffer's length, then a record not held
abbrev pub fetch_grounds : Meaning → (r n : ℕ) → List Ground
fetch_grounds m r n =
    record { holds = not (n == m.width); gives = KeyLength } ∷
    record { holds = nat_le (length m.keys) r; gives = NotHeld } ∷ []

-- A fetch of the record r into a buffer that held b. Done, it has read once, and the buffer holds the key. Refused, by the
-- first ground that holds, the store is the `same` as it was, and so is the buffer.
abbrev pub Fetched : Meaning → (r : ℕ) → (b : List ℕ) → Result (Unit {0}) Refusal → Meaning → (b' : List ℕ) → (same : Type 0) → Type 0
Fetched m r b (Ok u) m' b' same = (length b ≡ m.width) × (r < length m.keys) × (m' ≡ after_reads 1 m) × (b' ≡ key_of m r)
Fetched m r b (Err e) m' b' same = (first_ground (fetch_grounds m r (length b)) ≡ Some e) × same × (b' ≡ b)

-- a key filed: it stands at the list's end, and all else remains
abbrev pub filed : Meaning → List ℕ → Meaning
filed m k = record { width = m.width; keys = m.keys ++ k ∷ []; capacity = m.capacity; tally = m.tally }

-- an append's grounds, for a key of n bytes: the key's length, then a store at capacity
abbrev pub append_grounds : Meaning → (n : ℕ) → List Ground
append_grounds m n =
    record { holds = not (n == m.width); gives = KeyLength } ∷
    record { holds = (length m.keys == m.capacity); gives = StoreFull } ∷ []

-- An append of the key k. Done, the key is filed, and its number is how many were held before. Refused, by the first ground
-- that holds, the store is the `same` as it was.
abbrev pub Appended : Meaning → (k : List ℕ) → Result ℕ Refusal → Meaning → (same : Type 0) → Type 0
Appended m k (Ok n) m' same = (length k ≡ m.width) × (length m.keys < m.capacity) × (n ≡ length m.keys) × (m' ≡ filed m k)
Appended m k (Err e) m' same = (first_ground (append_grounds m (length k)) ≡ Some e) × same
