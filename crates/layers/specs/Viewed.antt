-- Layers chosen at run time.
use Rattle.std.specs.Prelude.{ℕ, List, [], ◌∷◌}
use Rattle.store.specs.Meaning.{Meaning}
use Rattle.layers.specs.Layers.{inverted, shown, turned}
use Rattle.layers.specs.WaysBack.{turned_back}
use Rattle.layers.specs.declared.views.View.{View}
use Rattle.layers.specs.declared.views.View.TheVariants.{NewestFirst, Turned}

-- how one layer shows a key, and the way back
abbrev pub viewed : View → List ℕ → List ℕ
viewed NewestFirst = inverted
viewed (Turned cut) = turned cut

abbrev pub unviewed : View → List ℕ → List ℕ
unviewed NewestFirst = inverted
unviewed (Turned cut) = turned_back cut

-- a key shown by the first layer, then by the next, and so on; and the way back, from the last layer to the first
abbrev pub all_shown : List View → List ℕ → List ℕ
all_shown [] k = k
all_shown (v ∷ vs) k = all_shown vs (viewed v k)

abbrev pub all_hidden : List View → List ℕ → List ℕ
all_hidden [] k = k
all_hidden (v ∷ vs) k = unviewed v (all_hidden vs k)

-- what a store shows with these layers on it, each over the one before
abbrev pub nested : List View → Meaning → Meaning
nested [] m = m
nested (v ∷ vs) m = nested vs (shown (viewed v) m)
