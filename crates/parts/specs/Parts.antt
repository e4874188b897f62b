-- Parts of a key: their widths, their ranks, and the keys written of them.
use Rattle.std.specs.Prelude.{◌≡◌, ℕ, ◌^◌, ◌<◌, ◌≤◌, min, ◌↔◌, List, length, Ok, Err, Result, ◌≢◌}
use Rattle.keys.specs.Bytes.{Smaller, big_endian}
use Rattle.store.specs.declared.refusal.Refusal.{Refusal}
use Rattle.store.specs.declared.refusal.Refusal.TheVariants.{KeyLength}

-- the width that a part tells: 33 stands for every width above 32
abbrev pub told_width_of : ℕ → ℕ
told_width_of w = min w 33

-- A part's rank written into a buffer that held b. Done, the buffer holds the rank, the highest byte first. Refused, since
-- the part is too wide for a key or the buffer is not of its width, the buffer is as it was.
abbrev pub Written : (size rank : ℕ) → (b : List ℕ) → Result (Unit {0}) Refusal → (b' : List ℕ) → Type 0
Written size rank b (Ok u) b' = (size ≤ 32) × (length b ≡ size) × (b' ≡ big_endian size rank)
Written size rank b (Err e) b' = (e ≡ KeyLength) × (size ≤ 32 → length b ≢ size) × (b' ≡ b)

-- The same, of the rank's bytes.
abbrev pub BytesWritten : (rank b : List ℕ) → Result (Unit {0}) Refusal → (b' : List ℕ) → Type 0
BytesWritten rank b (Ok u) b' = (length b ≡ length rank) × (b' ≡ rank)
BytesWritten rank b (Err e) b' = (e ≡ KeyLength) × (length b ≢ length rank) × (b' ≡ b)

-- What holds of every part: the rank of a value fits the width, and the ranks have the order of the values.
pub record Ranks {V : Type 0} (size : ℕ) (rank : V → ℕ) (less : V → V → Type 0) : Type 0 where
  pub wide : 1 ≤ size
  pub ranked : (x : V) → rank x < 256 ^ size
  pub ordered : (x y : V) → less x y ↔ (rank x < rank y)
  pub matched : (x y : V) → (x ≡ y) ↔ (rank x ≡ rank y)

-- the key of a value
abbrev pub key_of : {V : Type 0} → (size : ℕ) → (rank : V → ℕ) → V → List ℕ
key_of size rank x = big_endian size (rank x)

-- The law: the key k stands to the key of every value as x does to that value. Smaller value exactly if smaller key, equal
-- value exactly if equal key.
pub record InOrder {V : Type 0} (size : ℕ) (rank : V → ℕ) (less : V → V → Type 0) (x : V) (k : List ℕ) : Type 0 where
  pub below : (y : V) → less x y ↔ Smaller k (key_of size rank y)
  pub above : (y : V) → less y x ↔ Smaller (key_of size rank y) k
  pub equal : (y : V) → (x ≡ y) ↔ (k ≡ key_of size rank y)
