use Rattle.std.proofs.Common.{◌≡◌, ◌≤◌, drop}
use Rattle.ca_model.specs.typing.Programs.{definitions}
use Rattle.ca_model.specs.typing.Typing.{main_number}
use Rattle.ca_flow.proofs.main_function.main_of.Given as goal

abbrev pub invariant-tops : goal.invariant-tops
invariant-tops l = record {
  count : l.number ≤ l.top-index;
  same : main_number l.number (definitions (drop l.top-index l.program.tops)) ≡ main_number 0 (definitions l.program.tops);
}
