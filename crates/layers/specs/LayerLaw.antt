-- A layer is a lawful store: the proofs that the ghost members of maps and layers give.
use Rattle.std.specs.Prelude.{◌≡◌, ℕ, ◌-◌, ◌<◌, min, List, length, take, drop}
use Rattle.std.proofs.Common.{arith}
use Rattle.std.proofs.ByRecursion.{All-append, All-drop, All-map, All-take, All-weaker}
use Rattle.std.proofs.lemmas.Grind.{common_steps}
use Rattle.std.proofs.lemmas.List.{length-map}
use Rattle.keys.specs.Bytes.{Key}
use Rattle.store.specs.Meaning.{Lawful, Meaning}
use Rattle.layers.specs.Layers.{KeepsKeys, inverted, shown, turned}

pub shown_lawful : (f : List ℕ → List ℕ) → KeepsKeys f → (m : Meaning) → Lawful m → Lawful (shown f m)
shown_lawful f keeps m h =
    record {
      narrowest = h.narrowest;
      widest = h.widest;
      each = All-map (Key m.width) f m.keys (All-weaker (Key m.width) (λ k. Key m.width (f k)) (keeps m.width) m.keys h.each);
      room = omega (arith, length-map m.keys f, h.room);
      most = h.most;
      wraps = h.wraps;
    }

pub inverted_keeps : KeepsKeys inverted
inverted_keeps w k h = (
  grind (arith, common_steps),
  All-map (λ b. b < 256) (λ b. 255 - b) k (All-weaker (λ b. b < 256) (λ b. 255 - b < 256) (λ x _. omega arith) k h.1),
)

pub length-turned : (cut : ℕ) (k : List ℕ) → length (turned cut k) ≡ length k
length-turned cut k = grind (arith, common_steps)

-- a cut above the length counts as the length
pub turned_within : (cut : ℕ) (k : List ℕ) → turned (min cut (length k)) k ≡ turned cut k
turned_within cut k = grind (arith, common_steps)

pub turned_keeps : (cut : ℕ) → KeepsKeys (turned cut)
turned_keeps cut w k h = (
  grind (arith, common_steps),
  All-append (λ b. b < 256) (drop cut k) (take cut k) (All-drop (λ b. b < 256) cut k h.1) (All-take (λ b. b < 256) cut k h.1),
)
