-- The two scans from a candidate, as `position` and `rposition` make them.
use Rattle.std.proofs.Common.{◌≡◌, ℕ, zero, suc, ◌+◌, ◌-◌, ◌<◌, ◌≤◌, Bool, cond, ltb, List, length, get_or, take, drop, Some, None, sym, refl, ◌∙◌, inl, inr, add-one, arith, nat_le, drop-cons}
use Rattle.std.proofs.lemmas.Bool.{cases_lt, cond-false, cond-true, cond_both, le-ltb, lt-ltb, ltb-false}
use Rattle.std.proofs.lemmas.List.{get_or-take, length-drop, length-take, length-take-le}
use Rattle.std.proofs.lemmas.List.Sums.{prefix_len-le-length}
use Rattle.std.specs.List.{position, position_or_len}
use Rattle.std.specs.Option.{option_map_or}
use Rattle.nodes.specs.Trees.{no_entry}
use Rattle.nodes.specs.declared.node.Entry.{Entry}
use Rattle.search.specs.Parts.{parts_of}
use Rattle.search.specs.Placing.{downward, upward}

abbrev pub offset_upto : ℕ → Entry → Bool
offset_upto d e = nat_le e.partial.offset d

-- the scan upward of t places from i on
pub up_is : (es : List Entry) (d t i : ℕ) → i + t ≤ length es → upward (parts_of es) d t i ≡ i + position_or_len (offset_upto d) (take t (drop i es))
up_is es d zero i l = omega arith
up_is es d (suc t) i l =
    let h : i < length es = omega arith in
    let ih = up_is es d t (suc i) (omega arith) in
    rw (drop-cons es i no_entry h) (grind (arith, ih))

found_at : (q len c high : ℕ) → q ≤ len → c + 1 + len ≡ high → option_map_or (λ n. c + 1 + n) (cond (ltb q len) (Some q) None) high ≡ c + 1 + q
found_at q len c high l e = cond_both (ltb q len) _ _ (λ r. option_map_or (λ n. c + 1 + n) r high ≡ c + 1 + q) (λ x. refl) (λ x. omega (arith, ltb-false q len x))

pub up_found : (es : List Entry) (d c : ℕ) → c < length es →
    option_map_or (λ n. c + 1 + n) (position (offset_upto d) (take (length es - (c + 1)) (drop (c + 1) es))) (length es) ≡ upward (parts_of es) d (length es - suc c) (suc c)
up_found es d c h =
    let xs = take (length es - (c + 1)) (drop (c + 1) es) in
    let n : c + 1 + length xs ≡ length es = simp (length-take, length-drop) (omega arith) in
    let u : upward (parts_of es) d (length es - suc c) (suc c) ≡ c + 1 + position_or_len (offset_upto d) xs = rw add-one (up_is es d (length es - suc c) (suc c) (omega arith)) in
    found_at (position_or_len (offset_upto d) xs) (length xs) c (length es) (prefix_len-le-length _ xs) n ∙ sym u

-- the scan downward from c: i is 0, or has a smaller offset, and no place after it has
pub down_is : (es : List Entry) (d c i : ℕ) → i ≤ c → (0 < i → (parts_of es).offset i < d) → ((k : ℕ) → i < k → k ≤ c → d ≤ (parts_of es).offset k) → downward (parts_of es) d c ≡ i
down_is es d zero i l h g = omega arith
down_is es d (suc c) i l h g = elim (cases_lt i (suc c)) [
  | inl u ↦ cond-false _ _ _ (le-ltb ((parts_of es).offset (suc c)) d (g (suc c) u (omega arith))) ∙ down_is es d c i (omega arith) h (λ k x y. g k x (omega arith))
  | inr u ↦ let e : i ≡ suc c = omega arith in let h2 : (parts_of es).offset (suc c) < d = rw e at (h (omega arith)) in cond-true _ _ _ (lt-ltb ((parts_of es).offset (suc c)) d h2) ∙ sym e
]

pub down_found : (es : List Entry) (d c i : ℕ) → i ≤ c → (0 < i → (get_or (take (c + 1) es) i no_entry).partial.offset < d) →
    ((k : ℕ) → i < k → k ≤ c → d ≤ (get_or (take (c + 1) es) k no_entry).partial.offset) → i ≡ downward (parts_of es) d c
down_found es d c i l h g = sym (down_is es d c i l (λ x. rw (get_or-take (c + 1) es i no_entry (omega arith)) at (h x)) (λ k x y. rw (get_or-take (c + 1) es k no_entry (omega arith)) at (g k x y)))

-- the entries from high on make no difference to the scan upward
up_front : (es : List Entry) (d high t i : ℕ) → i + t ≤ high → upward (parts_of (take high es)) d t i ≡ upward (parts_of es) d t i
up_front es d high zero i l = refl
up_front es d high (suc t) i l =
    let e = get_or-take high es i no_entry (omega arith) in
    let ih = up_front es d high t (suc i) (omega arith) in cc

pub up_in_front : (es : List Entry) (d c high : ℕ) → c < high → high ≤ length es →
    upward (parts_of (take high es)) d (length (take high es) - suc c) (suc c) ≡ upward (parts_of es) d (high - suc c) (suc c)
up_in_front es d c high l h = rw (length-take-le high es h) (up_front es d high (high - suc c) (suc c) (omega arith))
