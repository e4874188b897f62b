-- The ways back undo the maps: the proofs that the ghost members of maps with a way back give.
use Rattle.std.specs.Prelude.{◌≡◌, ℕ, ◌-◌, ◌<◌, min, List, length, refl, [], ◌∷◌}
use Rattle.std.proofs.Common.{ap, arith}
use Rattle.std.specs.List.{AllByRecursion}
use Rattle.std.proofs.lemmas.Grind.{common_steps}
use Rattle.layers.specs.LayerLaw.{inverted_keeps, turned_keeps}
use Rattle.layers.specs.Layers.{inverted, turned}
use Rattle.layers.specs.WaysBack.{Hides, turned_back}

inverted_twice : (k : List ℕ) → AllByRecursion (λ b. b < 256) k → inverted (inverted k) ≡ k
inverted_twice [] h = refl
inverted_twice (x ∷ k) h = let l : x < 256 = h.0 in let e = inverted_twice k h.1 in grind arith

pub inverted_hides : Hides inverted inverted
inverted_hides w k h = (inverted_keeps w k h, inverted_twice k h.1)

-- the cut within the length, on the way back
pub turned_back_within : (cut : ℕ) (k : List ℕ) → turned_back (min cut (length k)) k ≡ turned_back cut k
turned_back_within cut k = let e : length k - min cut (length k) ≡ length k - cut = omega arith in ap (λ x. turned x k) e

turned_there : (cut : ℕ) (k : List ℕ) → turned cut (turned_back cut k) ≡ k
turned_there cut k = grind (arith, common_steps)

pub turned_hides : (cut : ℕ) → Hides (turned cut) (turned_back cut)
turned_hides cut w k h = (turned_keeps (length k - cut) w k h, turned_there cut k)
