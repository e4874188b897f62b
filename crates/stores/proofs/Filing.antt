-- A key put into the bytes of a card.
use Rattle.std.proofs.Common.{◌≡◌, ℕ, ◌+◌, ◌*◌, ◌<◌, ◌≤◌, List, [], ◌∷◌, ◌++◌, map, length, take, drop, sym, ap, ◌∙◌, mul-le-mul_right, add-mul, arith}
use Rattle.std.specs.List.{range_with_len}
use Rattle.std.proofs.lemmas.Grind.{common_steps}
use Rattle.std.proofs.lemmas.List.FromFn.{map-range_with_len_more}
use Rattle.std.proofs.lemmas.List.{drop-take, ext_get_or, take-take}
use Rattle.store.specs.Meaning.{filed}
use Rattle.stores.specs.CardLaw.{getD_keys, length_keys}
use Rattle.stores.specs.Cards.{card_of, key_at, keys_of, put_at}

-- what lies before the bytes that are put
early : (w a b : ℕ) (xs ys : List ℕ) → a + w ≤ b → b ≤ length xs → take w (drop a (take b xs ++ ys)) ≡ take w (drop a xs)
early w a b xs ys h l = grind (arith, common_steps, drop-take a w xs, drop-take a w (take b xs ++ ys), take-take (a + w) b xs h)

-- record n, the key, is put into the bytes, of which there are enough
module _ (w : ℕ) (bytes key bytes' : List ℕ) (n : ℕ) (lk : length key ≡ w) (le : n * w + w ≤ length bytes) (e : bytes' ≡ put_at (n * w) key bytes) where
  length-put : length bytes' ≡ length bytes
  length-put = grind (arith, common_steps)

  before : (r : ℕ) → r < n → key_at w bytes' r ≡ key_at w bytes r
  before r h =
      let q : r + 1 ≤ n = omega arith in
      let f : r * w + w ≤ n * w = omega (arith, mul-le-mul_right w q, add-mul r 1 w) in
      rw e (early w (r * w) (n * w) bytes _ f (omega arith))

  here : key_at w bytes' n ≡ key
  here = grind (arith, common_steps)

  keys_put : keys_of w bytes' (n + 1) ≡ keys_of w bytes n ++ key ∷ []
  keys_put =
      map-range_with_len_more (key_at w bytes') 0 n n (omega arith)
      ∙ ap (λ x. map (key_at w bytes') (range_with_len 0 n) ++ x ∷ []) here
      ∙ ap (λ x. x ++ key ∷ []) (ext_get_or [] (keys_of w bytes' n) (keys_of w bytes n) (length_keys w bytes' n ∙ sym (length_keys w bytes n))
      (λ r h. let l : r < n = omega (arith, length_keys w bytes' n) in getD_keys w bytes' n r l ∙ before r l ∙ sym (getD_keys w bytes n r l)))

  pub card_put : (t : ℕ) → card_of w bytes' (n + 1) t ≡ filed (card_of w bytes n t) key
  card_put t = rw (keys_put, length-put)
