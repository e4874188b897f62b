use Rattle.search.proofs.NodeRight.{bits_scan_alike, node_search_right, place_splits}
use Rattle.search.proofs.law.finds_the_place.Goals as goal

pub returns : goal.returns
returns c = record { finds = node_search_right; splits = place_splits; bits = bits_scan_alike }
