use Rattle.search.proofs.Descent.{reads_few}
use Rattle.search.proofs.Examples.{example_stands}
use Rattle.search.proofs.Growing.{grows}
use Rattle.search.proofs.Heads.{head_law}
use Rattle.search.proofs.Naming.{names_own, walk_own}
use Rattle.search.proofs.Plainly.{lookup_right}
use Rattle.search.proofs.OverStore.{store_lookup_right, store_walk_right}
use Rattle.search.proofs.Walking.{walk_right}
use Rattle.search.proofs.Winning.{winner_right}
use Rattle.search.proofs.law.searches_as_the_list.Goals as goal

pub returns : goal.returns
returns c = record {
  lookup = lookup_right;
  walk = walk_right;
  store = (store_lookup_right, store_walk_right);
  winner = winner_right;
  head = head_law;
  reads = reads_few;
  names = (names_own, walk_own);
  grows = grows;
  example = example_stands;
}
