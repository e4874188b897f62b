-- The pocket is a lawful store: the proof that its ghost member `lawful` gives.
use Rattle.std.specs.Prelude.{◌≡◌, ℕ, ◌^◌, ◌<◌, ◌≤◌, List, [], ◌∷◌, map, length, take, vec_items, vec_len, Vec}
use Rattle.std.proofs.Common.{sym, ◌∙◌, arith}
use Rattle.std.specs.List.{AllByRecursion}
use Rattle.std.proofs.ByRecursion.{All-from_get_or, All-map, All-take}
use Rattle.std.proofs.lemmas.List.{length-map, length-take-le}
use Rattle.keys.specs.Bytes.{Key}
use Rattle.store.specs.Meaning.{Lawful}
use Rattle.stores.specs.Pockets.{key_in, pocket_of}
use Rattle.stores.specs.declared.row.Row.{Row}

all_any : {X : Type 0} (P : X → Type 0) → ((x : X) → P x) → (xs : List X) → AllByRecursion P xs
all_any P f [] = tt
all_any P f (x ∷ xs) = (f x, all_any P f xs)

key_row : (w : ℕ) → w ≤ 32 → (row : Row) → Key w (key_in w row)
key_row w h row = (
  length-take-le w row.bytes (omega (arith, row.long)),
  All-take (λ b. b < 256) w row.bytes (All-from_get_or (λ b. b < 256) row.bytes 0 (λ i _. row.each i)),
)

pub length_rows : (w : ℕ) (rows : List Row) (n : ℕ) → n ≤ length rows → length (map (key_in w) (take n rows)) ≡ n
length_rows w rows n h = length-map (take n rows) (key_in w) ∙ length-take-le n rows h

pub pocket_lawful : {Z : Type 0} (w : ℕ) (rows : Vec Row Z) (n t : ℕ) → 1 ≤ w → w ≤ 32 → n ≤ 64 → vec_len rows ≡ 64 → t < 2 ^ 32 → Lawful (pocket_of w (vec_items rows) n t)
pocket_lawful w rows n t narrowest widest room full wraps =
    let l : length (vec_items rows) ≡ 64 = sym rows.ok.0 ∙ full in
    record {
      narrowest = narrowest;
      widest = widest;
      each = All-map (Key w) (key_in w) (take n (vec_items rows)) (all_any (λ row. Key w (key_in w row)) (key_row w widest) (take n (vec_items rows)));
      room = omega (arith, length_rows w (vec_items rows) n (omega arith));
      most = omega arith;
      wraps = wraps;
    }
