use Rattle.std.proofs.Common.{◌≡◌, suc, ◌+◌, ◌-◌, ◌*◌, ◌/◌, ◌^◌, min, length, refl, ap, ◌∙◌, arith}
use Rattle.keys.specs.Bits.{bits}
use Rattle.keys.specs.Digits.{worth}
use Rattle.keys.specs.Partials.{partial_of}
use Rattle.keys.specs.declared.partial.PartialKey.{PartialKey}
use Rattle.keys.proofs.Keeping.{keeps}
use Rattle.keys.proofs.Places.{bit_small}
use Rattle.keys.proofs.Windows.{in_sixteen}
use Rattle.keys.proofs.partial.partial_key.Goals as goal

pub returns : goal.returns
returns c =
    let k = c.args.key.now in
    let o = c.args.offset in
    let n = c.min-length.result in
    let x = c.from-after.result in
    let m : n ≡ min c.args.l (8 * length k - o) = omega (arith, c.min-length.ensures, c.from.ensures) in
    let first : c.byte_after.result ≡ worth 2 (bits k) (suc o) 8 = c.byte_after.ensures ∙ ap (λ z. worth 2 (bits k) (suc z) 8) c.from-place.ensures in
    let second : c.byte_after-2.result ≡ worth 2 (bits k) (suc o + 8) 8 = c.byte_after-2.ensures ∙ ap (λ z. worth 2 (bits k) z 8) (omega (arith, c.from-place.ensures)) in
    let e : x ≡ 256 * worth 2 (bits k) (suc o) 8 + worth 2 (bits k) (suc o + 8) 8 = omega (arith, first, second, c.from_be_bytes.ensures, c.from-after.ensures) in
    let b : x / 2 ^ (16 - n) ≡ worth 2 (bits k) (suc o) n = ap (λ z. z / 2 ^ (16 - n)) e ∙ in_sixteen (bits k) (suc o) n (bit_small k) (omega arith) in
    let p : ◌≡◌ {A = PartialKey} (record { offset = o; length = n; bits = x / 2 ^ (16 - n) }) (partial_of c.args.l k o) = rw (b, m) refl in
    ((omega arith, omega arith, omega arith, omega arith), p, rw p (keeps c.args.l k o))
