-- The card is a lawful store: the proof that its ghost member `lawful` gives.
use Rattle.std.specs.Prelude.{◌≡◌, ℕ, ◌+◌, ◌*◌, ◌/◌, ◌^◌, ◌<◌, ◌≤◌, List, [], length, drop, slice_index, slice_index_or}
use Rattle.std.proofs.Common.{add-mul, div-mul-le_self, mul-le-mul_right, arith}
use Rattle.std.proofs.lemmas.List.FromFn.{get_or-map-range_with_len, length-map-range_with_len}
use Rattle.std.proofs.ByRecursion.{All-from_get_or}
use Rattle.std.proofs.lemmas.List.{get_or-drop, get_or-take, length-drop, length-take, length-take-le}
use Rattle.keys.specs.Bytes.{Key}
use Rattle.store.specs.Meaning.{Lawful}
use Rattle.stores.specs.Cards.{BytesBefore, card_of, key_at, keys_of, room_of}

-- a record that there is room for ends within the bytes
pub ends_within : (w n c r : ℕ) → c ≤ room_of w n → r < c → r * w + w ≤ n
ends_within w n c r h l =
    let q : r + 1 ≤ n / w = omega arith in
    omega (arith, mul-le-mul_right w q, div-mul-le_self n w, add-mul r 1 w)

pub length-key_at : (w : ℕ) (bytes : List ℕ) (r : ℕ) → r * w + w ≤ length bytes → length (key_at w bytes r) ≡ w
length-key_at w bytes r h = length-take-le w (drop (r * w) bytes) (omega (arith, length-drop (r * w) bytes))

pub length_keys : (w : ℕ) (bytes : List ℕ) (n : ℕ) → length (keys_of w bytes n) ≡ n
length_keys w bytes n = length-map-range_with_len (key_at w bytes) 0 n

pub getD_keys : (w : ℕ) (bytes : List ℕ) (n r : ℕ) → r < n → slice_index_or (keys_of w bytes n) r [] ≡ key_at w bytes r
getD_keys w bytes n r h = get_or-map-range_with_len (key_at w bytes) 0 n r r [] h (omega arith)

byte_at : (w : ℕ) (bytes : List ℕ) (n r : ℕ) → r < n → BytesBefore (n * w) bytes → (i : ℕ) → i < length (key_at w bytes r) → slice_index (key_at w bytes r) i < 256
byte_at w bytes n r h b i k =
    let l : i < w = omega (arith, length-take w (drop (r * w) bytes)) in
    let q : r + 1 ≤ n = omega arith in
    rw (get_or-take w (drop (r * w) bytes) i 0 l, get_or-drop (r * w) bytes i 0) (b (r * w + i) (omega (arith, mul-le-mul_right w q, add-mul r 1 w)))

key_filed : (w : ℕ) (bytes : List ℕ) (n r : ℕ) → r < n → r * w + w ≤ length bytes → BytesBefore (n * w) bytes → Key w (key_at w bytes r)
key_filed w bytes n r l h b = (length-key_at w bytes r h, All-from_get_or (λ x. x < 256) (key_at w bytes r) 0 (byte_at w bytes n r l b))

pub card_lawful : (w : ℕ) (bytes : List ℕ) (n t : ℕ) → 1 ≤ w → w ≤ 32 → n ≤ room_of w (length bytes) → BytesBefore (n * w) bytes → t < 2 ^ 32 → Lawful (card_of w bytes n t)
card_lawful w bytes n t narrowest widest room each wraps =
    record {
      narrowest = narrowest;
      widest = widest;
      each = All-from_get_or (Key w) (keys_of w bytes n) [] (λ r h.
          let l : r < n = omega (arith, length_keys w bytes n) in
          rw (getD_keys w bytes n r l) (key_filed w bytes n r l (ends_within w (length bytes) n r room l) each));
      room = omega (arith, length_keys w bytes n);
      most = omega arith;
      wraps = wraps;
    }
