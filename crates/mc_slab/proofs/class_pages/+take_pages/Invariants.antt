use Rattle.mc_slab.proofs.class_pages.+take_pages.Given as goal

abbrev pub decreases-take_pages : goal.decreases-take_pages
decreases-take_pages l = l.count
