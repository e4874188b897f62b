use Rattle.std.proofs.Common.{◌≡◌, drop}
use Rattle.layers.specs.Viewed.{all_shown}
use Rattle.layers.proofs.views.ViewsKeyMap.show.Given as goal

-- the layers left show the key so far as all of them show the key at first
abbrev pub invariant-loop-view : goal.invariant-loop-view
invariant-loop-view l = all_shown (drop l.view-index l.view-items) l.key ≡ all_shown l.view-items l.initial.key
