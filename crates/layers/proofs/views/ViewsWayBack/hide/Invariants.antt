use Rattle.std.proofs.Common.{◌≡◌, length, vec_items}
use Rattle.layers.specs.Viewed.{all_hidden}
use Rattle.layers.proofs.views.ViewsWayBack.hide.Given as goal

-- the layers left hide the key so far as all of them hide the key at first
abbrev pub invariant-loop-last : goal.invariant-loop-last
invariant-loop-last l = all_hidden l.left l.key ≡ all_hidden (vec_items l.self.steps) l.initial.key

abbrev pub decreases-loop-last : goal.decreases-loop-last
decreases-loop-last l = length l.left
