use Rattle.ca_examples.proofs.LoopPaths.{is_formed, one_site, before_tests, after_writes, at_main}
use Rattle.ca_examples.proofs.loop_points.the_loop_has_two_points.Goals as goal

pub returns-clause-formed : goal.returns-clause-formed
returns-clause-formed c = is_formed

pub returns-clause-one_site : goal.returns-clause-one_site
returns-clause-one_site c = one_site

pub returns-clause-one_before : goal.returns-clause-one_before
returns-clause-one_before c = before_tests

pub returns-clause-points_after : goal.returns-clause-points_after
returns-clause-points_after c = after_writes

pub returns-clause-points_at_entry : goal.returns-clause-points_at_entry
returns-clause-points_at_entry c = at_main
