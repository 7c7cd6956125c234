use Rattle.std.proofs.Common.{inl, inr}
use Rattle.ca_commands.specs.Options.{check_options, trace_options}
use Rattle.ca_cmd.proofs.traced.made.Goals as goal

pub returns-in-Check : goal.returns-in-Check
returns-in-Check c = rw c.in-Check.is (c.checked.ensures (check_options c.in-Check.field-0))

pub returns-in-Project : goal.returns-in-Project
returns-in-Project c = rw c.in-Project.is (c.projected.ensures (trace_options c.in-Project.field-0))

pub returns-in-Lift : goal.returns-in-Lift
returns-in-Lift c = elim c.in-Lift.is [
  | inl w ↦ rw w.1 (c.lifted.ensures (trace_options w.0))
  | inr (inl w) ↦ let has = rw w.1 at c.requires.trace in absurd cc
  | inr (inr w) ↦ let has = rw w.1 at c.requires.trace in absurd cc
]
