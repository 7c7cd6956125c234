use Rattle.std.proofs.Common.{arith, ap, List, length}
use Rattle.ca_tree.specs.Counts.{nothing_yet}
use Rattle.ca_tree.specs.declared.tree.Top.{Top}
use Rattle.ca_model.specs.typing.Programs.{definitions}
use Rattle.ca_types.proofs.Counted.{few_definitions}
use Rattle.ca_types.proofs.tops.at_start.Goals as goal

pub definitions-requires : goal.definitions-requires
definitions-requires c =
    let few = few_definitions nothing_yet c.requires.0 c.args.program.now.tops c.requires.1 (omega arith) in
    let same = ap (λ (ts : List Top). length (definitions ts)) c.as_slice.ensures in omega (arith, few, same)
