use Rattle.ca_model.proofs.Answered.{wants_all}
use Rattle.ca_model.proofs.Silent.{act_in_order}
use Rattle.ca_model.proofs.item_laws.items_answer_in_order.Goals as goal

pub returns-clause-left_over : goal.returns-clause-left_over
returns-clause-left_over c = λ i l s. act_in_order c.args.a.now i l s

pub returns-clause-all_needed : goal.returns-clause-all_needed
returns-clause-all_needed c = λ i l s. wants_all _ (act_in_order c.args.a.now i l s)
