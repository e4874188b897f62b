-- The tree of eight records is faithful to its store.
use Rattle.std.proofs.Common.{◌≡◌, ℕ, ◌<◌, [], ◌∷◌, refl, subst, arith}
use Rattle.keys.specs.Bytes.{Key}
use Rattle.keys.specs.Comparing.{compared}
use Rattle.keys.specs.Digits.{Above, Below, Digits, floor}
use Rattle.keys.specs.declared.comparison.Comparison.TheVariants.{Greater}
use Rattle.nodes.specs.declared.node.Entry.{Entry}
use Rattle.nodes.specs.Faith.{Faithful, TrueOver, View, free, made}
use Rattle.search.specs.Example.{ExampleStands, eight, eight_keys, entry}
use Rattle.search.specs.NodeLaw.{Tells}
use Rattle.search.specs.TreeLaw.{HeldBy, view_of}
use Rattle.store.specs.Meaning.{Lawful}
use Rattle.search.proofs.Comparing.{compared_true}

abbrev v : View
v = view_of 2 eight_keys

abbrev k : ℕ → Digits
k = v.key

above_by : (a b : Digits) (d : ℕ) → compared 9 a b ≡ Greater d → Above a b d
above_by a b d e = subst (Tells 9 a b) e (compared_true 9 a b)

under_by : (a b : Digits) (d : ℕ) → compared 9 b a ≡ Greater d → Below a b
under_by a b d e = (d, above_by b a d e)

true_by : (base : Digits) (e : Entry) → compared 9 (k e.number) base ≡ Greater e.partial.offset → e ≡ made v e.number e.partial.offset → TrueOver v base e
true_by base e r w = record { above = above_by (k e.number) base e.partial.offset r; whole = w }

faithful_eight : Faithful v 2 floor free eight
faithful_eight = (
  (
    under_by floor (k 0) 0 refl,
    (
      true_by floor (entry 0 0 2 0) refl refl,
      (
        under_by (k 0) (k 6) 7 refl,
        (
          true_by (k 0) (entry 6 7 1 0) refl refl,
          (
            under_by (k 6) (k 1) 6 refl,
            (
              true_by (k 6) (entry 1 6 2 0) refl refl,
              (
                under_by (k 1) (k 5) 5 refl,
                (
                  true_by (k 1) (entry 5 5 2 2) refl refl,
                  under_by (k 5) (k 2) 4 refl,
                ),
              ),
            ),
          ),
        ),
      ),
    ),
  ),
  (
    true_by floor (entry 2 0 2 0) refl refl,
    (
      under_by (k 2) (k 7) 2 refl,
      (
        true_by (k 2) (entry 7 2 2 1) refl refl,
        (
          under_by (k 7) (k 3) 3 refl,
          (
            true_by (k 7) (entry 3 3 2 0) refl refl,
            (
              under_by (k 3) (k 4) 1 refl,
              (
                true_by (k 3) (entry 4 1 2 1) refl refl,
                tt,
              ),
            ),
          ),
        ),
      ),
    ),
  ),
)

lawful_eight : Lawful eight_keys
lawful_eight = record {
  narrowest = omega arith;
  widest = omega arith;
  each = (one 0x20 (omega arith), (one 0x24 (omega arith), (one 0x30 (omega arith), (one 0x60 (omega arith), (one 0xA0 (omega arith), (one 0x2C (omega arith), (one 0x22 (omega arith), (one 0x50 (omega arith), tt))))))));
  room = omega arith;
  most = omega arith;
  wraps = omega arith;
}
  where
    one : (b : ℕ) → b < 256 → Key 1 (b ∷ [])
    one b h = (refl, (h, tt))

held-eight : HeldBy eight_keys (0 ∷ 6 ∷ 1 ∷ 5 ∷ 2 ∷ 7 ∷ 3 ∷ 4 ∷ [])
held-eight = (omega arith, (omega arith, (omega arith, (omega arith, (omega arith, (omega arith, (omega arith, (omega arith, tt))))))))

pub example_stands : ExampleStands
example_stands key h = record { lawful = lawful_eight; width = h; faithful = faithful_eight; held = held-eight }
