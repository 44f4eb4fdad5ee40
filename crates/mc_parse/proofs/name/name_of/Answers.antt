use Rattle.mc_parse.proofs.name.name_of.Goals as goal

pub returns : goal.returns
returns c = c.find_name.ensures
