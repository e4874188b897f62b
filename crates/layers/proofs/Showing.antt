-- Inverted keys have the reverse order.
use Rattle.std.proofs.Common.{◌≡◌, ℕ, ◌-◌, ◌<◌, ◌↔◌, List, [], ◌∷◌, length, inl, inr, ⊎_elim, arith}
use Rattle.std.specs.List.{AllByRecursion}
use Rattle.keys.specs.Bytes.{Smaller}
use Rattle.layers.specs.Layers.{inverted}

-- inverted keys of one width have the reverse order
pub inverted-smaller : (a b : List ℕ) → length a ≡ length b → AllByRecursion (λ x. x < 256) a → AllByRecursion (λ x. x < 256) b → Smaller a b ↔ Smaller (inverted b) (inverted a)
inverted-smaller [] [] l fa fb = (λ s. s, λ s. s)
inverted-smaller [] (y ∷ b) l fa fb = absurd (omega arith)
inverted-smaller (x ∷ a) [] l fa fb = absurd (omega arith)
inverted-smaller (x ∷ a) (y ∷ b) l fa fb =
    let h = inverted-smaller a b (omega arith) fa.1 fb.1 in
    let u : x < 256 = fa.0 in
    let v : y < 256 = fb.0 in (
      ⊎_elim (λ (m : x < y). inl (omega arith)) (λ (s : (x ≡ y) × Smaller a b). inr (omega (arith, s.0), h.0 s.1)),
      ⊎_elim (λ (m : 255 - y < 255 - x). inl (omega arith)) (λ (s : (255 - y ≡ 255 - x) × Smaller (inverted b) (inverted a)). inr (omega (arith, s.0), h.1 s.1)),
    )
