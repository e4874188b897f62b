-- A node of a faithful tree is a true node over its base, and so on down.
use Rattle.std.proofs.Common.{◌≡◌, ℕ, zero, suc, ◌+◌, ◌-◌, ◌/◌, ◌%◌, ◌^◌, ◌<◌, ◌≤◌, min, List, [], ◌∷◌, map, length, get_or, sym, refl, ap, ◌∙◌, subst, arith}
use Rattle.keys.proofs.Keeping.{worth_bit}
use Rattle.keys.specs.Digits.{Above, Digits, floor, worth}
use Rattle.nodes.specs.declared.node.Entry.{Entry}
use Rattle.nodes.specs.Faith.{Ceiling, Strung, TrueOver, View, under}
use Rattle.nodes.specs.Trees.{no_entry}
use Rattle.search.specs.Parts.{Stored, TrueNode, low_bits, parts_of}

-- the keys of a node over its base
abbrev pub ladder : View → Digits → List Entry → ℕ → Digits
ladder v base es i = get_or (base ∷ map (λ e. v.key e.number) es) i floor

stored_at : (a : Digits) (b m x : ℕ) → ((j : ℕ) → j < m → a (b + j) ≡ (x / 2 ^ (m - suc j)) % 2) → Stored a b (low_bits m x)
stored_at a b zero x h = tt
stored_at a b (suc m) x h =
    let z : b + 0 ≡ b = omega arith in
    let y : suc m - suc 0 ≡ m = omega arith in (
      ap a (sym z) ∙ (h 0 (omega arith) ∙ ap (λ k. (x / 2 ^ k) % 2) y),
      stored_at a (suc b) m x (λ j l.
          let e : suc b + j ≡ b + suc j = omega arith in
          let d : suc m - suc (suc j) ≡ m - suc j = omega arith in
          ap a e ∙ (h (suc j) (omega arith) ∙ ap (λ k. (x / 2 ^ k) % 2) d)),
    )

-- the bits that a true partial key keeps are its key's
true_stored : (v : View) (base : Digits) (e : Entry) → ((r j : ℕ) → v.key r j ≤ 1) → TrueOver v base e →
    Stored (v.key e.number) e.partial.offset (1 ∷ low_bits e.partial.length e.partial.bits)
true_stored v base e small t =
    let k = v.key e.number in
    let o = e.partial.offset in
    let m = min v.keep (v.last - o) in
    let long : e.partial.length ≡ m = ap (λ z. z.partial.length) t.whole in
    let is : e.partial.bits ≡ worth 2 k (suc o) m = ap (λ z. z.partial.bits) t.whole in (
      omega (arith, t.above.more, small e.number o),
      subst (λ z. Stored k (suc o) (low_bits z e.partial.bits)) (sym long)
          (subst (λ z. Stored k (suc o) (low_bits m z)) (sym is) (stored_at k (suc o) m (worth 2 k (suc o) m) (λ j l. sym (worth_bit k (suc o) m (small e.number) j l)))),
    )

module _ (T : Type 0) (v : View) (F : Digits → Ceiling → T → Type 0) where
  pub strung_long : (base : Digits) (c : Ceiling) (es : List Entry) (ts : List T) → Strung v F base c es ts → length ts ≡ length es + 1
  strung_long base c [] [] h = absurd h
  strung_long base c [] (t ∷ []) h = refl
  strung_long base c [] (t ∷ (u ∷ ts)) h = absurd h
  strung_long base c (e ∷ es) [] h = absurd h
  strung_long base c (e ∷ es) (t ∷ ts) h = let i = strung_long (v.key e.number) c es ts h.1.1 in omega arith

  pub strung_kid : (d : T) (base : Digits) (c : Ceiling) (es : List Entry) (ts : List T) → Strung v F base c es ts → (i : ℕ) → i ≤ length es →
      (b : Ceiling) × F (ladder v base es i) b (get_or ts i d)
  strung_kid d base c [] [] h i l = absurd h
  strung_kid d base c [] (t ∷ []) h zero l = (c, h)
  strung_kid d base c [] (t ∷ []) h (suc i) l = absurd (omega arith)
  strung_kid d base c [] (t ∷ (u ∷ ts)) h i l = absurd h
  strung_kid d base c (e ∷ es) [] h i l = absurd h
  strung_kid d base c (e ∷ es) (t ∷ ts) h zero l = (under (v.key e.number), h.0)
  strung_kid d base c (e ∷ es) (t ∷ ts) h (suc i) l = strung_kid d (v.key e.number) c es ts h.1.1 i (omega arith)

  record TrueAt (base : Digits) (es : List Entry) (i : ℕ) : Type 0 where
    rise : Above (ladder v base es (suc i)) (ladder v base es i) ((parts_of es).offset i)
    kept : Stored (ladder v base es (suc i)) ((parts_of es).offset i) ((parts_of es).lead i ∷ (parts_of es).rest i)

  module _ (small : (r j : ℕ) → v.key r j ≤ 1) where
    at_place : (base : Digits) (c : Ceiling) (es : List Entry) (ts : List T) → Strung v F base c es ts → (i : ℕ) → i < length es → TrueAt base es i
    at_place base c [] [] h i l = absurd h
    at_place base c [] (t ∷ ts) h i l = absurd (omega arith)
    at_place base c (e ∷ es) [] h i l = absurd h
    at_place base c (e ∷ es) (t ∷ ts) h zero l = record { rise = h.1.0.above; kept = true_stored v base e small h.1.0 }
    at_place base c (e ∷ es) (t ∷ ts) h (suc i) l =
        let r = at_place (v.key e.number) c es ts h.1.1 i (omega arith) in record { rise = r.rise; kept = r.kept }

    pub strung_node : (base : Digits) (c : Ceiling) (es : List Entry) (ts : List T) → Strung v F base c es ts → TrueNode (length es) (ladder v base es) (parts_of es)
    strung_node base c es ts h = record { rises = λ i l. (at_place base c es ts h i l).rise; kept = λ i l. (at_place base c es ts h i l).kept }

pub ladder_key : (v : View) (base : Digits) (es : List Entry) (i : ℕ) → i < length es → ladder v base es (suc i) ≡ v.key (get_or es i no_entry).number
ladder_key v base [] i l = absurd (omega arith)
ladder_key v base (e ∷ es) zero l = refl
ladder_key v base (e ∷ es) (suc i) l = ladder_key v base es i (omega arith)
