use Rattle.std.proofs.Common.{◌≡◌, ◌+◌, ◌-◌, ◌*◌, ◌/◌, ◌%◌, ◌^◌, get_or, ap, ◌∙◌, arith}
use Rattle.keys.proofs.Windows.{in_two_bytes}
use Rattle.keys.proofs.key.byte_after.Goals as goal

pub returns : goal.returns
returns c =
    let key = c.args.key.now in
    let place = c.args.place in
    let e : c.from_be_bytes-both.result ≡ 256 * get_or key (place / 8) 0 + get_or key (place / 8 + 1) 0 = omega (arith, c.from_be_bytes-both.ensures, c.byte_at.ensures, c.byte_at-2.ensures) in
    ap (λ x. (x / 2 ^ (8 - place % 8)) % 256) e ∙ in_two_bytes key (λ i. omega (arith, c.type_inv.key i)) place
