use Rattle.std.proofs.Common.{refl}
use Rattle.worked.proofs.table.worked_examples_hold.Goals as goal

pub returns : goal.returns
returns c = record {
  reads = refl;
  five_entered = refl;
  lookup_34 = refl;
  lookup_10 = refl;
  lookup_80 = refl;
  lookup_60 = refl;
  eight_entered = refl;
  lookup_58 = refl;
  walk_30 = refl;
  shape_32_16 = refl;
  shape_33_16 = refl;
  shape_32_17 = refl;
}
