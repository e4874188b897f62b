-- A path and a plan read by height.
use Rattle.std.proofs.Common.{◌≡◌, ℕ, List, map, get_or, sym, ap, ◌∙◌}
use Rattle.std.proofs.Math.ListN.{get_or-map}
use Rattle.growth.specs.Paths.{entries_of, followers_of, nodes_of, places_of}
use Rattle.growth.specs.declared.path.Waypoint.{Waypoint}
use Rattle.growth.specs.declared.plan.Line.{Line}
use Rattle.growth.specs.declared.plan.Plan.{Plan}
use Rattle.nodes.specs.Trees.{no_entry}

-- what stands for one past the end
abbrev pub no_waypoint : Waypoint
no_waypoint = record { node = 0; place = 0 }

abbrev pub no_line : Line
no_line = record { entry = no_entry; follower = no_entry }

read : {X Y : Type 0} (f : X → Y) (xs : List X) (d : X) {h k : ℕ} → k ≡ h → f (get_or xs k d) ≡ get_or (map f xs) h (f d)
read f xs d {h} is = ap (λ (k : ℕ). f (get_or xs k d)) is ∙ sym (get_or-map f xs h d)

module _ (path : List Waypoint) {h k : ℕ} (is : k ≡ h) where
  pub node_at : (get_or path k no_waypoint).node ≡ get_or (nodes_of path) h 0
  node_at = read (λ (w : Waypoint). w.node) path no_waypoint is

  pub place_at : (get_or path k no_waypoint).place ≡ get_or (places_of path) h 0
  place_at = read (λ (w : Waypoint). w.place) path no_waypoint is

module _ (p : Plan) {h k : ℕ} (is : k ≡ h) where
  pub entry_at : (get_or p.lines k no_line).entry ≡ get_or (entries_of p) h no_entry
  entry_at = read (λ (l : Line). l.entry) p.lines no_line is

  pub follower_at : (get_or p.lines k no_line).follower ≡ get_or (followers_of p) h no_entry
  follower_at = read (λ (l : Line). l.follower) p.lines no_line is
