-- Layers chosen at run time are maps of keys: the proofs that their ghost members give.
use Rattle.std.proofs.Common.{◌∙◌, ap}
use Rattle.std.specs.Prelude.{List, [], ◌∷◌, refl}
use Rattle.layers.specs.LayerLaw.{inverted_keeps, turned_keeps}
use Rattle.layers.specs.Layers.{KeepsKeys}
use Rattle.layers.specs.WayBackLaw.{inverted_hides, turned_hides}
use Rattle.layers.specs.WaysBack.{Hides}
use Rattle.layers.specs.Viewed.{all_hidden, all_shown, unviewed, viewed}
use Rattle.layers.specs.declared.views.View.{View}
use Rattle.layers.specs.declared.views.View.TheVariants.{NewestFirst, Turned}

pub viewed_keeps : (v : View) → KeepsKeys (viewed v)
viewed_keeps NewestFirst = inverted_keeps
viewed_keeps (Turned cut) = turned_keeps cut

pub viewed_hides : (v : View) → Hides (viewed v) (unviewed v)
viewed_hides NewestFirst = inverted_hides
viewed_hides (Turned cut) = turned_hides cut

pub all_keep : (vs : List View) → KeepsKeys (all_shown vs)
all_keep [] w k h = h
all_keep (v ∷ vs) w k h = all_keep vs w (viewed v k) (viewed_keeps v w k h)

pub all_hide : (vs : List View) → Hides (all_shown vs) (all_hidden vs)
all_hide [] w k h = (h, refl)
all_hide (v ∷ vs) w k h =
    let rest = all_hide vs w k h in
    let back = viewed_hides v w (all_hidden vs k) rest.0 in
    (back.0, ap (all_shown vs) back.1 ∙ rest.1)
