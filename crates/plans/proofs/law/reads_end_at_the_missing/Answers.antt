use Rattle.plans.proofs.Reading.{ends_at_the_missing, reads_all}
use Rattle.plans.proofs.law.reads_end_at_the_missing.Goals as goal

pub returns : goal.returns
returns c = record { all = reads_all; first = ends_at_the_missing }
