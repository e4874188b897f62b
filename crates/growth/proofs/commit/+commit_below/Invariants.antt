use Rattle.growth.proofs.commit.+commit_below.Given as goal

abbrev pub decreases-commit_below : goal.decreases-commit_below
decreases-commit_below l = l.top.levels
