use Rattle.ca_model.proofs.Harmless.{act_harmless, answers_alike}
use Rattle.ca_model.proofs.item_laws.other_items_destroy_nothing.Goals as goal

pub returns-clause-items : goal.returns-clause-items
returns-clause-items c = act_harmless c.args.a.now

pub returns-clause-entries : goal.returns-clause-entries
returns-clause-entries c = answers_alike
