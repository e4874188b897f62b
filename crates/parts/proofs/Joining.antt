-- Two parts written one after the other.
use Rattle.std.proofs.Common.{◌≡◌, ℕ, zero, suc, ◌+◌, ◌*◌, ◌/◌, ◌%◌, ◌^◌, ◌<◌, ◌≤◌, List, [], ◌∷◌, ◌++◌, length, Ok, Err, Result, sym, ap, ◌∙◌, subst, add-zero, add-suc, mul_assoc, pow-suc, mul-one, arith}
use native.Mathlib.Nat.{pow-zero}
use Rattle.std.proofs.lemmas.List.{append-nil, append_assoc}
use Rattle.keys.specs.Bytes.{big_endian}
use Rattle.store.specs.declared.refusal.Refusal.{Refusal}
use Rattle.parts.specs.Parts.{Written}

-- the bytes of a above v bytes of b
pub joined : (w v a b : ℕ) → b < 256 ^ v → big_endian (w + v) (a * 256 ^ v + b) ≡ big_endian w a ++ big_endian v b
joined w zero a b h =
    let z : b ≡ 0 = omega (arith, pow-zero 256) in
    rw (z, add-zero w, pow-zero 256, mul-one a, add-zero a) (sym (append-nil (big_endian w a)))
joined w (suc v) a b h =
    let p : a * 256 ^ suc v ≡ a * 256 ^ v * 256 = ap (λ x. a * x) (pow-suc 256 v) ∙ sym (mul_assoc a (256 ^ v) 256) in
    let q : (a * 256 ^ suc v + b) / 256 ≡ a * 256 ^ v + b / 256 = omega arith in
    let r : (a * 256 ^ suc v + b) % 256 ≡ b % 256 = omega arith in
    let s : b / 256 < 256 ^ v = omega (arith, pow-suc 256 v) in
    rw (add-suc w v, q, r, joined w v a (b / 256) s) (append_assoc (big_endian w a) (big_endian v (b / 256)) (b % 256 ∷ []))

-- the first part written, the second one's writer decides
pub pair_written : (w v a b : ℕ) (buffer rest x y : List ℕ) (r : Result (Unit {0}) Refusal) → w + v ≤ 32 → length buffer ≡ w + v → b < 256 ^ v → length rest ≡ v → x ≡ big_endian w a → Written v b rest r y → Written (w + v) (a * 256 ^ v + b) buffer r (x ++ y)
pair_written w v a b buffer rest x y (Ok u) h l s n e k = (h, l, ap (λ z. z ++ y) e ∙ ap (λ z. big_endian w a ++ z) k.2 ∙ sym (joined w v a b s))
pair_written w v a b buffer rest x y (Err u) h l s n e k = absurd (k.1 (omega arith) n)

-- what a buffer holds once written
pub written_done : (size rank : ℕ) (b b' : List ℕ) (r : Result (Unit {0}) Refusal) (u : Unit {0}) → r ≡ Ok u → Written size rank b r b' → b' ≡ big_endian size rank
written_done size rank b b' r u e w = (subst (λ z. Written size rank b z b') e w).2
