-- The card: keys one after the other in bytes handed in.
use Rattle.std.specs.Prelude.{ℕ, ◌+◌, ◌*◌, ◌/◌, ◌<◌, min, List, ◌++◌, map, length, take, drop, slice_index}
use Rattle.std.specs.List.{range_with_len}
use Rattle.store.specs.Meaning.{Meaning}

-- how many keys of w bytes n bytes have room for: the whole ones that fit, at most 65,535
abbrev pub room_of : (w n : ℕ) → ℕ
room_of w n = min (n / w) 65535

-- record r: the w bytes from r × w on
abbrev pub key_at : (w : ℕ) → List ℕ → (r : ℕ) → List ℕ
key_at w bytes r = take w (drop (r * w) bytes)

-- the first n records
abbrev pub keys_of : (w : ℕ) → List ℕ → (n : ℕ) → List (List ℕ)
keys_of w bytes n = map (key_at w bytes) (range_with_len 0 n)

-- a card of width w over these bytes, with n keys filed, after t reads
abbrev pub card_of : (w : ℕ) → List ℕ → (n t : ℕ) → Meaning
card_of w bytes n t = record { width = w; keys = keys_of w bytes n; capacity = room_of w (length bytes); tally = t }

-- the first n of these numbers are bytes
abbrev pub BytesBefore : (n : ℕ) → List ℕ → Type 0
BytesBefore n bytes = (i : ℕ) → i < n → slice_index bytes i < 256

-- the bytes with the key in the place of as many from a on, and all others untouched
abbrev pub put_at : (a : ℕ) → (key bytes : List ℕ) → List ℕ
put_at a key bytes = take a bytes ++ (key ++ drop (a + length key) bytes)
