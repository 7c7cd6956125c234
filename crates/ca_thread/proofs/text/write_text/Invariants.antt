use Rattle.std.proofs.Common.{◌≡◌, ◌++◌, ◌≤◌, ◌+◌, ◌*◌, map, length, vec_capacity}
use Rattle.ca_model.specs.Printed.{written}
use Rattle.ca_flow.specs.Instructions.{reg}
use Rattle.ca_thread.proofs.text.write_text.Given as goal

abbrev pub invariant-parts : goal.invariant-parts
invariant-parts l = record {
  written : l.text.items ++ written l.format (map (reg l.row) l.arguments) ≡ written l.fn.format (map (reg l.row) l.fn.arguments);
  fits : length l.text.items + length l.format + 9 * length l.arguments ≤ vec_capacity l.text;
  room : vec_capacity l.fn.text ≤ vec_capacity l.text;
}

abbrev pub decreases-parts : goal.decreases-parts
decreases-parts l = length l.format
