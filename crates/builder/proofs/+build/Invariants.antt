use lib.ListN.{length}
use Rattle.builder.proofs.+build.Given as goal

abbrev pub decreases-build : goal.decreases-build
decreases-build l = length l.groups.now
