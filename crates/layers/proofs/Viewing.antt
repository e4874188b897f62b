-- One layer after another, and one layer that shows as all of them.
use Rattle.std.proofs.Common.{◌≡◌, ℕ, List, [], ◌∷◌, ◌++◌, refl, ap, map-id}
use mathlib.Core.List.{map-map}
use Rattle.store.specs.Meaning.{Meaning}
use Rattle.layers.specs.Layers.{shown}
use Rattle.layers.specs.Viewed.{all_hidden, all_shown, nested, unviewed, viewed}
use Rattle.layers.specs.declared.views.View.{View}

-- one layer more of those that hide one, the last
pub hidden_last : (vs : List View) (v : View) (k : List ℕ) → all_hidden (vs ++ (v ∷ [])) k ≡ all_hidden vs (unviewed v k)
hidden_last [] v k = refl
hidden_last (x ∷ vs) v k = ap (unviewed x) (hidden_last vs v k)

pub shown-nested : (vs : List View) (m : Meaning) → shown (all_shown vs) m ≡ nested vs m
shown-nested [] m = rw map-id refl
shown-nested (v ∷ vs) m = rw (← map-map (all_shown vs) (viewed v) m.keys) (shown-nested vs (shown (viewed v) m))
