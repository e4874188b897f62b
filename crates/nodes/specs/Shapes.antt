-- The grounds on which a shape is refused.
use Rattle.std.specs.Prelude.{ℕ, ◌||◌, List, [], ◌∷◌, ◌==◌, nat_lt}
use Rattle.store.specs.Grounds.{Ground}
use Rattle.store.specs.declared.refusal.Refusal.TheVariants.{KeyWidth, PartialLength}

-- a width of 0 or above 32, then a partial length above 16
abbrev pub shape_grounds : (width partial : ℕ) → List Ground
shape_grounds w l =
    record { holds = w == 0 || nat_lt 32 w; gives = KeyWidth } ∷
    record { holds = nat_lt 16 l; gives = PartialLength } ∷ []
