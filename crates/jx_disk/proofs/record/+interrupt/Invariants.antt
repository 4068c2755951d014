use Rattle.jx_disk.proofs.record.+interrupt.Given as goal

abbrev pub decreases-interrupt : goal.decreases-interrupt
decreases-interrupt l = l.count
