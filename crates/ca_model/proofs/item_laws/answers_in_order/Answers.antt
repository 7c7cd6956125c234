use Rattle.ca_model.proofs.Answered.{eval_keeps_rest, wants_all}
use Rattle.ca_model.proofs.item_laws.answers_in_order.Goals as goal

pub returns-clause-left_over : goal.returns-clause-left_over
returns-clause-left_over c = λ l s. eval_keeps_rest c.args.e.now l s

pub returns-clause-all_needed : goal.returns-clause-all_needed
returns-clause-all_needed c = λ l s. wants_all _ (eval_keeps_rest c.args.e.now l s)
